-- How a command ended, from how its parts ended.
use Rattle.std.proofs.Common.{◌≡◌, ℕ, Bool, true, false, List, ◌++◌, Option, Some, None, refl, sym, subst, ◌∙◌, inl, inr}
use Rattle.io_ends.specs.Ends.{Appends}
use Rattle.io_ends.specs.Faults.{Rose}
use Rattle.rtrace_write.proofs.Writing.{appends_both, prefix_behind}
use Rattle.csv.specs.Reading.{default_config, strip_bom}
use Rattle.csv.specs.declared.parser.State.TheVariants as st
use Rattle.rtrace_form.specs.Records.{Row}
use Rattle.rtrace_form.specs.Reports.{Report}
use Rattle.rtrace_form.specs.Takers.{IsFirstFault}
use Rattle.rtrace_form.specs.Texts.{IsTextOf}
use Rattle.rtrace_form.specs.WrongBounds.{first_fault}
use Rattle.rtrace_form.specs.declared.fault.Code.{Code}
use Rattle.rtrace_form.specs.declared.fault.Fault.{Fault}
use Rattle.rtrace_form.proofs.back.Rows.{spelled_clean}
use Rattle.rtrace_form.proofs.texts.Records.{rows_unique}
use Rattle.rscript.specs.declared.code.ScriptCode as script_code
use Rattle.rscript.specs.Scripts.{ScriptFields}
use Rattle.rscript.specs.Scripts as scripts
use Rattle.rscript.specs.Texts as scripts_read
use Rattle.rscript.specs.Faults as script_faults
use Rattle.rscript.proofs.back.Rows.{spelled_clean as script_clean}
use Rattle.rwatch.specs.Seen.{Seen}
use Rattle.rnlp_cli.specs.Outputs.{IsInput, IsOutput, IsFaultLine, refusal_of}
use Rattle.rnlp_cli.specs.Writing.{IsWritten, IsAnswer, IsTold, LineWritten}
use Rattle.rnlp_cli.specs.declared.command.Command.{Command}
use Rattle.rnlp_cli.specs.declared.command.Command.TheVariants.{Run, Replay, Audit, Bound, Drill}
use Rattle.rnlp_cli.specs.declared.status.ToolStatus.{ToolStatus}
use Rattle.rnlp_cli.specs.declared.status.ToolStatus.TheVariants as status

some_none : {A : Type 0} (x : A) → Some x ≡ None → ⊥
some_none x e = cc

one_some : {A : Type 0} {x y : A} → Some x ≡ Some y → x ≡ y
one_some e = cc

-- a text with a fault spells nothing
spells_none : (whole : Bool) (bytes : List ℕ) (fault : Fault Code) (report : Report) → IsFirstFault whole bytes fault → IsTextOf whole bytes report → ⊥
spells_none whole bytes fault report first spelled =
    let same = rows_unique default_config st.StartRecord (strip_bom bytes) spelled.0 first.0 spelled.1 first.1 in
    some_none _ (sym first.2 ∙ subst (λ (rows : List Row). first_fault whole rows ≡ None) same (spelled_clean whole spelled.0 report spelled.2).0)

-- and a text with the fault of a script spells no script
spells_no_script : (bytes : List ℕ) (line : ℕ) (code : script_code.ScriptCode) (script : ScriptFields) → scripts_read.IsFirstFault bytes line code → scripts.IsTextOf bytes script → ⊥
spells_no_script bytes line code script first spelled =
    let same = rows_unique default_config st.StartRecord (strip_bom bytes) spelled.0 first.0 spelled.1 first.1 in
    some_none _ (sym first.2 ∙ subst (λ (rows : List Row). script_faults.first_fault rows ≡ None) same (script_clean spelled.0 script spelled.2).0)

-- a text with a fault is no input
no_input : (asked : Option Command) (bytes line : List ℕ) → IsFaultLine asked bytes line → IsInput asked bytes → ⊥
no_input None bytes line fault right = fault
no_input (Some (Run form)) bytes line fault right = spells_no_script bytes fault.0 fault.1 right.0 fault.2 right.1
no_input (Some Replay) bytes line fault right = spells_none false bytes fault.0 right.0 fault.1 right.1
no_input (Some Audit) bytes line fault right = spells_none true bytes fault.0 right.0 fault.1 right.1
no_input (Some (Bound cap)) bytes line fault right = spells_no_script bytes fault.0 fault.1 right.0 fault.2 right.1
no_input (Some (Drill count)) bytes line fault right = fault

-- an output that was written
pub written : (watchers : List Seen) (asked : Option Command) (bytes text : List ℕ) (before after : Option (List ℕ)) (quiet failed same : Type 0) (s : ToolStatus)
    → IsOutput watchers asked bytes text → IsWritten text before after quiet failed same s → IsAnswer watchers asked bytes before after quiet failed same s
written watchers asked bytes text before after quiet failed same status.Done out h = (h.0, text, out, h.1)
written watchers asked bytes text before after quiet failed same status.WriteFault out h = (h.0, text, out, h.1)
written watchers asked bytes text before after quiet failed same status.NoMemory out h = h
written watchers asked bytes text before after quiet failed same status.Script out h = absurd h
written watchers asked bytes text before after quiet failed same status.Trace out h = absurd h
written watchers asked bytes text before after quiet failed same status.Words out h = absurd h
written watchers asked bytes text before after quiet failed same status.ReadFault out h = absurd h
written watchers asked bytes text before after quiet failed same status.TooLong out h = absurd h

-- how a text was written, if memory could not run out
surely : (text : List ℕ) (before after : Option (List ℕ)) (quiet failed same : Type 0) (s : ToolStatus) → IsWritten text before after quiet failed ⊥ s → IsWritten text before after quiet failed same s
surely text before after quiet failed same status.Done h = h
surely text before after quiet failed same status.WriteFault h = h
surely text before after quiet failed same status.NoMemory h = absurd h
surely text before after quiet failed same status.Script h = absurd h
surely text before after quiet failed same status.Trace h = absurd h
surely text before after quiet failed same status.Words h = absurd h
surely text before after quiet failed same status.ReadFault h = absurd h
surely text before after quiet failed same status.TooLong h = absurd h

pub surely_written : (made text : List ℕ) (before after : Option (List ℕ)) (quiet failed same : Type 0) (s : ToolStatus) → made ≡ text → IsWritten made before after quiet failed ⊥ s → IsWritten text before after quiet failed same s
surely_written made text before after quiet failed same s is h = surely text before after quiet failed same s (subst (λ t. IsWritten t before after quiet failed ⊥ s) is h)

-- a command with this refusal answers so, where the line of the first fault was written
refused : (watchers : List Seen) (asked : Option Command) (bytes line : List ℕ) (before after : Option (List ℕ)) (quiet failed same : Type 0) (under : ToolStatus)
    → refusal_of asked ≡ Some under → IsFaultLine asked bytes line → LineWritten line before after quiet failed → IsAnswer watchers asked bytes before after quiet failed same under
refused watchers None bytes line before after quiet failed same under is found h = absurd found
refused watchers (Some (Run form)) bytes line before after quiet failed same under is found h =
    subst (λ s. IsAnswer watchers (Some (Run form)) bytes before after quiet failed same s) (one_some is) (refl, no_input (Some (Run form)) bytes line found, line, found, h)
refused watchers (Some Replay) bytes line before after quiet failed same under is found h =
    subst (λ s. IsAnswer watchers (Some Replay) bytes before after quiet failed same s) (one_some is) (refl, no_input (Some Replay) bytes line found, line, found, h)
refused watchers (Some Audit) bytes line before after quiet failed same under is found h =
    subst (λ s. IsAnswer watchers (Some Audit) bytes before after quiet failed same s) (one_some is) (refl, no_input (Some Audit) bytes line found, line, found, h)
refused watchers (Some (Bound cap)) bytes line before after quiet failed same under is found h =
    subst (λ s. IsAnswer watchers (Some (Bound cap)) bytes before after quiet failed same s) (one_some is) (refl, no_input (Some (Bound cap)) bytes line found, line, found, h)
refused watchers (Some (Drill count)) bytes line before after quiet failed same under is found h = absurd found

-- a fault was reported, or memory ran out for it
pub told : (watchers : List Seen) (asked : Option Command) (bytes line : List ℕ) (before after : Option (List ℕ)) (quiet failed same : Type 0) (under s : ToolStatus)
    → refusal_of asked ≡ Some under → IsFaultLine asked bytes line → IsTold line before after quiet failed same under s → IsAnswer watchers asked bytes before after quiet failed same s
told watchers asked bytes line before after quiet failed same under s is found (inl h) =
    subst (λ (t : ToolStatus). IsAnswer watchers asked bytes before after quiet failed same t) (sym h.0) (refused watchers asked bytes line before after quiet failed same under is found h.1)
told watchers asked bytes line before after quiet failed same under s is found (inr h) =
    subst (λ (t : ToolStatus). IsAnswer watchers asked bytes before after quiet failed same t) (sym h.0) h.1

-- a text that was written, and then another
module _ (first second : List ℕ) (before between after : Option (List ℕ)) (faults then later : ℕ) where
  pub written_both : (same : Type 0) (s : ToolStatus) → Appends before between first → then ≡ faults → IsWritten second between after (later ≡ then) (Rose then later) ⊥ s
      → IsWritten (first ++ second) before after (later ≡ faults) (Rose faults later) same s
  written_both same status.Done whole quiet h = (h.0 ∙ quiet, appends_both first second before between after whole h.1)
  written_both same status.WriteFault whole quiet h = (subst (λ n. Rose n later) quiet h.0, prefix_behind first second before between after whole h.1)
  written_both same status.NoMemory whole quiet h = absurd h
  written_both same status.Script whole quiet h = absurd h
  written_both same status.Trace whole quiet h = absurd h
  written_both same status.Words whole quiet h = absurd h
  written_both same status.ReadFault whole quiet h = absurd h
  written_both same status.TooLong whole quiet h = absurd h
