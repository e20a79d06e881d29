-- A run that ends well has kept its promise.
use Rattle.std.proofs.Common.{◌≡◌, ℕ, false, List, [], ◌∷◌, Option, Some, None, refl, sym, ap, subst}
use Rattle.std.specs.Prelude.{is_some, map, length, slice_get}
use Rattle.std.specs.List.{list_any}
use Rattle.std.proofs.lemmas.List.{length-map}
use Rattle.rclaim.specs.Events.{seat_of}
use Rattle.rlock.specs.Known.{entries_by}
use Rattle.rvalue.specs.declared.ledger.Edit.{Edit}
use Rattle.rvalue.specs.Entries.{EntryFields}
use Rattle.rtrace_form.specs.Reports.{Entry, Report}
use Rattle.rrun.specs.Report.{ReportFields, told_by}
use Rattle.rrun.specs.Scripts.{ScriptFields, IsScript}
use Rattle.rrun.specs.Reporting.{IsReportOf, IsReportOfRun, HasTold}
use Rattle.rrun.proofs.Left.{not_stopped}
use Rattle.rrun.proofs.Telling.{may_be_written}
use Rattle.rwatch.specs.Seen.{Seen}
use Rattle.rnlp_cli.proofs.RunReports.{headline}
use Rattle.rnlp_cli.specs.Forms.{HasRun, IsReported}
use Rattle.rnlp_cli.specs.Headline.{IsHeadline}
use Rattle.rnlp_cli.specs.Leaving.{RunLeaves}
use Rattle.rnlp_cli.specs.Promise.{KeepsItsPromise}
use Rattle.rnlp_cli.specs.Watched.{Leaves}
use Rattle.rnlp_cli.specs.declared.command.Command.{Command}
use Rattle.rnlp_cli.specs.declared.command.Command.TheVariants.{Run}
use Rattle.rnlp_cli.specs.declared.command.RunForm.{RunForm}
use Rattle.rnlp_cli.specs.declared.command.RunForm.TheVariants as forms
use Rattle.rnlp_cli.specs.declared.status.ToolStatus.{ToolStatus}
use Rattle.rnlp_cli.specs.declared.status.ToolStatus.TheVariants as status

abbrev none : Option ℕ
none = None

-- no task was stopped
abbrev none_stopped : List (List ℕ) → List (Option ℕ)
none_stopped names = map (λ (name : List ℕ). none) names

none_is_stopped : (names : List (List ℕ)) → list_any is_some (none_stopped names) ≡ false
none_is_stopped [] = refl
none_is_stopped (name ∷ names) = none_is_stopped names

-- the report of a whole run is one of a run in which no task was stopped
of_whole_run : (p : ScriptFields) (r : ReportFields) → IsReportOf p r → IsReportOfRun p (none_stopped p.tasks) r
of_whole_run p r run = record {
  count = length-map p.tasks (λ (name : List ℕ). none);
  is = record {
    head = run.head;
    lawful = run.lawful;
    each = λ k statements steps_is o there.
        subst (λ (o : Option ℕ). HasTold o k statements (entries_by (λ (entry : EntryFields Edit). seat_of entry.event) k r.entries))
        (sym (not_stopped (none_stopped p.tasks) k o (none_is_stopped p.tasks) there)) (run.each k statements steps_is);
    over = run.over;
    ledgers = run.ledgers;
  };
}

-- the report of a run keeps the headline
kept_by : (p : ScriptFields) (report : Report) → IsScript p → IsReported p report → IsHeadline p report
kept_by p report script is =
    let r = is.0 in
    let run = is.1 in
    let head = run.head in
    subst (λ (x : Report). IsHeadline p x) (sym is.2)
    (headline p (told_by r) script (may_be_written p script (none_stopped p.tasks) r (of_whole_run p r run)) head.resources (ap (λ g. g.groups) head.groups) head.tasks head.cap run.each)

-- what is said of a report is said of a run in each form
headline_run : (form : RunForm) (p : ScriptFields) (ws : List Seen) (text : List ℕ) (histories : List (List Entry)) (heard : List Seen) → IsScript p → HasRun IsReported form p ws text histories heard → HasRun IsHeadline form p ws text histories heard
headline_run forms.Report p ws text histories heard script run = record { report = run.report; is = kept_by p run.report script run.is; said = run.said; kept = run.kept; watched = run.watched }
headline_run forms.Tally p ws text histories heard script run = record { report = run.report; is = kept_by p run.report script run.is; said = run.said; kept = run.kept; watched = run.watched }
headline_run forms.Watch p ws text histories heard script run = record { report = run.report; is = kept_by p run.report script run.is; said = run.said; kept = run.kept; watched = run.watched }

module _ (form : RunForm) (left written written_after : Option (List ℕ)) (receipts later : List (List Entry)) (ws heard : List Seen) where
  -- *A run that ends Done has kept its promise*
  done_keeps : RunLeaves form left written written_after receipts later ws heard status.Done → KeepsItsPromise form left written written_after receipts later ws heard
  done_keeps h = record {
    script = h.script;
    is_script = h.is_script;
    came = h.came;
    text = h.text;
    written = h.written;
    histories = h.histories;
    more = h.more;
    run = headline_run form h.script ws h.text h.histories heard h.is_script h.run;
  }

  pub promise_kept : (asked : Option Command) (answer : ToolStatus) → Leaves asked left written written_after receipts later ws heard answer → asked ≡ Some (Run form) → answer ≡ status.Done → KeepsItsPromise form left written written_after receipts later ws heard
  promise_kept asked answer leaves run done =
      done_keeps
      (subst (λ (a : ToolStatus). RunLeaves form left written written_after receipts later ws heard a) done
      (subst (λ (o : Option Command). Leaves o left written written_after receipts later ws heard answer) run leaves))
