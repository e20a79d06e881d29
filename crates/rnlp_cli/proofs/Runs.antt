-- What a run answers, and what it leaves, from how it ended.
use Rattle.std.proofs.Common.{◌≡◌, ℕ, List, [], ◌∷◌, ◌++◌, append-nil, length, map, Option, Some, None, inl, inr, refl, sym, ap, subst, ◌∙◌}
use Rattle.std.specs.Prelude.{IfSome}
use Rattle.io_ends.specs.Ends.{Appends, AppendsPrefix}
use Rattle.rclaim.specs.Changes.{ChangeLists}
use Rattle.rclaim.specs.declared.event.Event.{Event}
use Rattle.rtrace_form.specs.Reports.{Entry}
use Rattle.rtrace_form.specs.Texts.{report_text}
use Rattle.rmon.specs.declared.look.Look.{Look}
use Rattle.rrun.specs.Monitors.{AreLooksOf}
use Rattle.rrun.specs.Report.{ReportFields, told_by}
use Rattle.rrun.specs.Reporting.{IsReportOf}
use Rattle.rrun.specs.Steps.{list_steps}
use Rattle.rscript.specs.Scripts.{ScriptFields, IsTextOf}
use Rattle.rwatch.specs.Seen.{Seen, told, told_all}
use Rattle.rnlp_cli.specs.Forms.{HasRun, IsReported, WithoutMemory, looks_text, tally_text, told_run}
use Rattle.rnlp_cli.specs.Leaving.{HasWritten, RunLeaves}
use Rattle.rnlp_cli.specs.Reading.{NotRead}
use Rattle.rnlp_cli.specs.Running.{IsRunWritten, IsRun}
use Rattle.rnlp_cli.specs.Writing.{IsAnswer, IsTold, IsWritten}
use Rattle.rnlp_cli.specs.declared.command.Command.{Command}
use Rattle.rnlp_cli.specs.declared.command.Command.TheVariants.{Run}
use Rattle.rnlp_cli.specs.declared.command.RunForm.{RunForm}
use Rattle.rnlp_cli.specs.declared.command.RunForm.TheVariants as forms
use Rattle.rnlp_cli.specs.declared.status.ToolStatus.{ToolStatus}
use Rattle.rnlp_cli.specs.declared.status.ToolStatus.TheVariants as status

-- ---- watchers

kind_all : (steps : List (Event × ChangeLists)) (w : Seen) → (told_all steps w).kind ≡ w.kind
kind_all [] w = refl
kind_all (step ∷ steps) w = kind_all steps (told step.0 step.1 w)

-- steps change no kind
kinds_all : (steps : List (Event × ChangeLists)) (ws : List Seen) → map (λ (w : Seen). w.kind) (map (told_all steps) ws) ≡ map (λ (w : Seen). w.kind) ws
kinds_all steps [] = refl
kinds_all steps (w ∷ ws) = λ i. kind_all steps w i ∷ kinds_all steps ws i

-- the watchers of a run are those that there may be where its report then finds no memory
pub left_without : (form : RunForm) (script : ScriptFields) (before : List Seen) (text : List ℕ) (histories : List (List Entry)) (after : List Seen) → HasRun IsReported form script before text histories after → WithoutMemory form before after
left_without forms.Report script before text histories after run = run.watched
left_without forms.Watch script before text histories after run = run.watched
left_without forms.Tally script before text histories after run = inl (ap (map (λ (w : Seen). w.kind)) run.watched ∙ kinds_all (list_steps run.report) before)

-- nor those of a tally, where tasks of the run were stopped
pub heard_without : (r : ReportFields) (before after : List Seen) → after ≡ told_run (told_by r) before → WithoutMemory forms.Tally before after
heard_without r before after heard = inl (ap (map (λ (w : Seen). w.kind)) heard ∙ kinds_all (list_steps (told_by r)) before)

-- ---- what a run writes

-- a run whose report was written, and one whose tally was written after it
pub reported_run : (script : ScriptFields) (r : ReportFields) (ws : List Seen) → IsReportOf script r → HasRun IsReported forms.Report script ws (report_text (told_by r) ++ []) (r.entries ∷ []) ws
reported_run script r ws is = record { report = told_by r; is = (r, is, refl); said = append-nil (report_text (told_by r)); kept = refl; watched = refl }

pub tallied_run : (script : ScriptFields) (r : ReportFields) (lines : List ℕ) (ws heard : List Seen) → IsReportOf script r → lines ≡ tally_text (length r.entries) heard → heard ≡ told_run (told_by r) ws
    → HasRun IsReported forms.Tally script ws (report_text (told_by r) ++ lines) (r.entries ∷ []) heard
tallied_run script r lines ws heard is lines_are told = record { report = told_by r; is = (r, is, refl); said = ap (λ (xs : List ℕ). report_text (told_by r) ++ xs) lines_are; kept = refl; watched = told }

-- a run at which monitors looked, of which the report and the looks were written
pub looked_run : (script : ScriptFields) (r whole : ReportFields) (lines : List ℕ) (first second : List Look) (ws : List Seen) → whole ≡ r → IsReportOf script whole → AreLooksOf (told_by r) first → AreLooksOf (told_by r) second
    → lines ≡ looks_text first second → HasRun IsReported forms.Watch script ws (report_text (told_by whole) ++ lines) (whole.entries ∷ []) ws
looked_run script r whole lines first second ws same is first_looks second_looks lines_are =
    let looks : (l : List Look) → AreLooksOf (told_by r) l → AreLooksOf (told_by whole) l = λ l h. subst (λ (x : ReportFields). AreLooksOf (told_by x) l) (sym same) h in record {
      report = told_by whole;
      is = (whole, is, refl);
      said = record { first = first; second = second; first_looks = looks first first_looks; second_looks = looks second second_looks; said = ap (λ (xs : List ℕ). report_text (told_by whole) ++ xs) lines_are };
      kept = refl;
      watched = refl;
    }

-- a run that was written in a form, or for whose text memory ran out
pub run_written : (form : RunForm) (script : ScriptFields) (text : List ℕ) (history : List Entry) (before after : Option (List ℕ)) (quiet failed same : Type 0) (receipts later : List (List Entry)) (ws heard : List Seen) (s : ToolStatus)
    → HasRun IsReported form script ws text (history ∷ []) heard → IsWritten text before after quiet failed same s → (s ≡ status.NoMemory → later ≡ receipts) → ((s ≡ status.NoMemory → ⊥) → later ≡ receipts ++ history ∷ [])
    → IsRun form script before after quiet failed same receipts later ws heard s
run_written form script text history before after quiet failed same receipts later ws heard status.Done run h kept more = (h.0, (text, history ∷ [], run, h.1, more (λ e. cc)))
run_written form script text history before after quiet failed same receipts later ws heard status.WriteFault run h kept more = (h.0, (text, history ∷ [], run, h.1, more (λ e. cc)))
run_written form script text history before after quiet failed same receipts later ws heard status.NoMemory run h kept more = (h, kept refl, left_without form script ws text (history ∷ []) heard run)
run_written form script text history before after quiet failed same receipts later ws heard status.Words run h kept more = absurd h
run_written form script text history before after quiet failed same receipts later ws heard status.ReadFault run h kept more = absurd h
run_written form script text history before after quiet failed same receipts later ws heard status.Script run h kept more = absurd h
run_written form script text history before after quiet failed same receipts later ws heard status.TooLong run h kept more = absurd h
run_written form script text history before after quiet failed same receipts later ws heard status.Trace run h kept more = absurd h

module _ (form : RunForm) (bytes : List ℕ) (script : ScriptFields) (spelled : IsTextOf bytes script)
    (before after : Option (List ℕ)) (quiet failed same : Type 0) (receipts later : List (List Entry)) (ws heard : List Seen) where
  pub run_answer : (s : ToolStatus) → IsRun form script before after quiet failed same receipts later ws heard s → IsAnswer ws (Some (Run form)) bytes before after quiet failed same s
  run_answer status.Done h = (h.0, h.1.0, (script, h.1.1, heard, spelled, h.1.2), h.1.3)
  run_answer status.WriteFault h = (h.0, h.1.0, (script, h.1.1, heard, spelled, h.1.2), h.1.3)
  run_answer status.NoMemory h = h.0
  run_answer status.Words h = absurd h
  run_answer status.ReadFault h = absurd h
  run_answer status.Script h = absurd h
  run_answer status.TooLong h = absurd h
  run_answer status.Trace h = absurd h

  has_written : (Writes : List ℕ → Type 0) → IsRunWritten form script Writes receipts later ws heard → HasWritten IsReported form (Some bytes) Writes receipts later ws heard
  has_written Writes h = record { script = script; is_script = spelled.2.script; came = spelled; text = h.0; written = h.3; histories = h.1; more = h.4; run = h.2 }

  pub run_leaves : (s : ToolStatus) → IsRun form script before after quiet failed same receipts later ws heard s → RunLeaves form (Some bytes) before after receipts later ws heard s
  run_leaves status.Done h = has_written _ h.1
  run_leaves status.WriteFault h = has_written _ h.1
  run_leaves status.NoMemory h = (h.1, h.2)
  run_leaves status.Words h = absurd h
  run_leaves status.ReadFault h = absurd h
  run_leaves status.Script h = absurd h
  run_leaves status.TooLong h = absurd h
  run_leaves status.Trace h = absurd h

-- ---- where nothing was run

module _ (form : RunForm) (left before after : Option (List ℕ)) (receipts : List (List Entry)) (ws : List Seen) where
  -- watchers that are as they were, where memory ran out
  pub same_without : WithoutMemory form ws ws
  same_without = as_before form
    where
      as_before : (f : RunForm) → WithoutMemory f ws ws
      as_before forms.Report = refl
      as_before forms.Tally = inl refl
      as_before forms.Watch = refl

  -- an input that was refused, or that was not read, leaves all as it was
  pub refused_leaves : (line : List ℕ) (quiet failed same : Type 0) (s : ToolStatus) → IsTold line before after quiet failed same status.Script s → RunLeaves form left before after receipts receipts ws ws s
  refused_leaves line quiet failed same s told =
      elim told [
        | inl h ↦ subst (λ (t : ToolStatus). RunLeaves form left before after receipts receipts ws ws t) (sym h.0) (refl, refl)
        | inr h ↦ subst (λ (t : ToolStatus). RunLeaves form left before after receipts receipts ws ws t) (sym h.0) (refl, same_without)
      ]

  pub unread_leaves : {S : Type 0} (lefts : S → Option (List ℕ)) (reads : S → ℕ) (asked : Option Command) (source source' : S) (s : ToolStatus) → NotRead lefts reads asked source source' s → RunLeaves form left before after receipts receipts ws ws s
  unread_leaves lefts reads asked source source' status.ReadFault h = (refl, refl)
  unread_leaves lefts reads asked source source' status.TooLong h = (refl, refl)
  unread_leaves lefts reads asked source source' status.NoMemory h = (refl, same_without)
  unread_leaves lefts reads asked source source' status.Done h = absurd h
  unread_leaves lefts reads asked source source' status.Words h = absurd h
  unread_leaves lefts reads asked source source' status.WriteFault h = absurd h
  unread_leaves lefts reads asked source source' status.Script h = absurd h
  unread_leaves lefts reads asked source source' status.Trace h = absurd h

-- ---- what was read is what the source had left, where it says that

of_left : (left : Option (List ℕ)) (bytes : List ℕ) (P : List ℕ → Type 0) → IfSome left (λ all. bytes ≡ all) → P bytes → IfSome left P
of_left None bytes P whole h = tt
of_left (Some all) bytes P whole h = subst P whole h

module _ (form : RunForm) (left : Option (List ℕ)) (bytes : List ℕ) (written written_after : Option (List ℕ)) (receipts later : List (List Entry)) (ws heard : List Seen) where
  left_more : (Writes : List ℕ → Type 0) → IfSome left (λ all. bytes ≡ all) → HasWritten IsReported form (Some bytes) Writes receipts later ws heard → HasWritten IsReported form left Writes receipts later ws heard
  left_more Writes whole h =
      record { script = h.script; is_script = h.is_script; came = of_left left bytes (λ all. IsTextOf all h.script) whole h.came; text = h.text; written = h.written; histories = h.histories; more = h.more; run = h.run }

  pub leaves_left : (s : ToolStatus) → IfSome left (λ all. bytes ≡ all) → RunLeaves form (Some bytes) written written_after receipts later ws heard s → RunLeaves form left written written_after receipts later ws heard s
  leaves_left status.Done whole h = left_more _ whole h
  leaves_left status.WriteFault whole h = left_more _ whole h
  leaves_left status.NoMemory whole h = h
  leaves_left status.Words whole h = h
  leaves_left status.ReadFault whole h = h
  leaves_left status.Script whole h = h
  leaves_left status.TooLong whole h = h
  leaves_left status.Trace whole h = h
