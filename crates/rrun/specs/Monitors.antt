-- A run that monitors look at.
use Rattle.std.specs.Prelude.{◌≡◌, ℕ, All, Option, Some, None, List, length, map}
use Rattle.rclaim.specs.declared.event.Event.{Event}
use Rattle.rlock.specs.Known.{Site, newcomer}
use Rattle.rlooks.specs.Looks.{AreLooksAt}
use Rattle.rmon.specs.declared.look.Look.{Look}
use Rattle.rmon.specs.declared.rule.Opening.{Opening}
use Rattle.rstate.specs.Contents.{Contents}
use Rattle.rtrace_form.specs.Heads.{opening_of}
use Rattle.rtrace_form.specs.Reports.{Entry, Report}
use Rattle.rvalue.specs.declared.ledger.Edit.{Edit}
use Rattle.rvalue.specs.declared.ledger.Ledger.{Ledger}
use Rattle.rvalue.specs.Entries.{EntryFields}
use Rattle.rvalue.specs.Ledgers.{value_after, is_taken}
use Rattle.rguard.specs.Closing.{IsClosedBy}
use Rattle.rguard.specs.Scribes.{IsScribeOf}
use Rattle.rrun.specs.Endings.{waiting}
use Rattle.rrun.specs.GuardSeats.{SeatOf}
use Rattle.rrun.specs.Reporting.{beginning_of, HasOpened, HaveEnded}
use Rattle.rrun.specs.Scripts.{ScriptFields}
use Rattle.rrun.specs.Tasks.{AreSeatsFor}
use Rattle.rrun.specs.declared.jobs.Job.{Job}

-- the looks of one monitor at a run with this report: each is one at the state after a beginning of its history, in order, and the
-- last has the whole history
abbrev pub AreLooksOf : Report → List Look → Type 0
AreLooksOf report looks = AreLooksAt (opening_of report.head) (map (λ (entry : Entry). entry.event) report.entries) looks

-- how a watch of the runtime of a script begins
abbrev pub watch_for : ScriptFields → Opening
watch_for p = record { groups = record { q = length p.resources; groups = p.groups }; seats = length p.tasks; cap = length p.tasks }

-- the runtime of a script has just begun, with a job for each task that was not done yet, and its scribe at its place
pub record HasGathered (p : ScriptFields) (site : Site) (jobs : List (Job (SeatOf Ledger Edit))) (place : Option (SeatOf Ledger Edit)) : Type 0 where
  pub seats : List (SeatOf Ledger Edit)
  pub opened : HasOpened p None site seats
  pub count : site.seats ≡ length p.tasks
  pub jobs_are : jobs ≡ map waiting seats
  pub scribe : SeatOf Ledger Edit
  pub there : place ≡ Some scribe
  pub of : IsScribeOf site scribe
  pub contents : Contents Ledger Edit
  pub new : scribe ≡ newcomer site.gate site.seats (beginning_of p None) contents

-- the runtime of a script was closed with these entries and values: each of its tasks has run, or a part of it if it was stopped
pub record HasClosedFed (p : ScriptFields) (entries : List (EntryFields Edit)) (values : List Ledger) (stopped : List (Option ℕ)) : Type 0 where
  pub site : Site
  pub seats : List (SeatOf Ledger Edit)
  pub opened : HasOpened p None site seats
  pub later : List (SeatOf Ledger Edit)
  pub are : AreSeatsFor site p later
  pub count : length stopped ≡ length p.tasks
  pub ended : HaveEnded p stopped seats later
  pub closed : All (λ seat. IsClosedBy value_after is_taken (λ (ledger : Ledger). ledger.balance) entries values seat) later
