-- A run that monitors look at, from its seats to its looks.
use Rattle.std.proofs.Common.{arith, ◌≡◌, ◌<◌, ℕ, List, map, length, Option, Some, None, Ok, sym, ap, subst, ◌∙◌}
use Rattle.std.proofs.lemmas.List.{length-map}
use Rattle.std.specs.Prelude.{All, Any, IsSome}
use Rattle.rexpand.specs.Groups.{ReadGroups}
use Rattle.rlock.specs.Known.{Site}
use Rattle.rmodel.specs.State.{LockState, opening}
use Rattle.rmon.specs.declared.look.Look.{Look}
use Rattle.rmon.specs.Opened.{opening_of}
use Rattle.rvalue.specs.declared.ledger.Edit.{Edit}
use Rattle.rvalue.specs.declared.ledger.Ledger.{Ledger}
use Rattle.rvalue.specs.Entries.{EntryFields}
use Rattle.rvalue.specs.Ledgers.{value_after, is_taken}
use Rattle.rguard.specs.Closing.{IsClosedBy}
use Rattle.rlooks.specs.declared.lookout.TheConstants.{ROUNDS}
use Rattle.rlooks.specs.declared.watch.Watch.{Watch}
use Rattle.rlooks.specs.Lookouts.{Looking, GoesOn}
use Rattle.rlooks.specs.Looks.{AreLooksAt}
use Rattle.rlooks.specs.Watches.{IsNew, Watches, MayWatch, HasWatched, MayEnd}
use Rattle.rlooks.specs.Workers.{events_in}
use Rattle.rlooks.proofs.Beginning.{watches_at_first}
use Rattle.rlooks.proofs.Closed.{may_end}
use Rattle.rlooks.proofs.Going.{goes_further}
use Rattle.rtrace_form.specs.Heads.{opening_of as begins_by}
use Rattle.rtrace_write.specs.Report.{ReportFields, told_by}
use Rattle.rrun.specs.Scripts.{ScriptFields, IsScript}
use Rattle.rrun.specs.GuardSeats.{SeatOf, IsOf, IsIdle}
use Rattle.rrun.specs.Endings.{waiting, AreEnded, AreLeftBy}
use Rattle.rrun.specs.Jobs.{AreReady, AreDone}
use Rattle.rrun.specs.Monitors.{AreLooksOf, watch_for, HasGathered, HasClosedFed}
use Rattle.rrun.specs.Reporting.{beginning_of, TellsHeadOf, HaveEnded, IsReportOfRun}
use Rattle.rrun.specs.Tasks.{AreSeatsFor}
use Rattle.rrun.specs.declared.jobs.Job.{Job}
use Rattle.rrun.specs.declared.tasks.Ended.{Ended}
use Rattle.rrun.proofs.Ending.{are_ready, are_there, are_ended}
use Rattle.rrun.proofs.Left.{are_left, have_ended}
use Rattle.rrun.proofs.Reported.{all_of, all_idle, all_there, is_report}

-- looks that were not kept come after the rounds
pub rounds_and_more : (rounds : ℕ) (a b c : Looking) → GoesOn rounds a b → GoesOn 0 b c → GoesOn rounds a c
rounds_and_more rounds a b c p q =
    let all = goes_further rounds 0 a b c p q in
    record { feed = all.feed; opening = all.opening; seen = all.seen; looks = all.looks; count = omega (arith, p.count, q.count) }

abbrev balance : Ledger → ℕ
balance ledger = ledger.balance

module _ (p : ScriptFields) (script : IsScript p) (site : Site) (jobs : List (Job (SeatOf Ledger Edit))) (place : Option (SeatOf Ledger Edit)) (is : HasGathered p site jobs place) where
  pub jobs_ready : AreReady site p jobs
  jobs_ready = are_ready site p is.seats is.opened.seats_are jobs is.jobs_are

  pub jobs_count : length jobs ≡ length p.tasks
  jobs_count = ap length is.jobs_are ∙ length-map is.seats waiting ∙ is.opened.seats_are.count

  watches : (w : Watch) → IsNew (watch_for p) w → Watches value_after is_taken balance 0 site (beginning_of p None) is.scribe w
  watches w new = watches_at_first value_after is_taken balance site is.scribe (beginning_of p None) site.seats is.contents is.of is.new w new

  pub may_watch : (w : Watch) → IsNew (watch_for p) w → MayWatch value_after is_taken balance site place w
  may_watch w new = (is.scribe, (is.there, (beginning_of p None, watches w new)))

  -- all rounds were made, and the scribe came back
  pub all_rounds : (w later : Watch) → IsNew (watch_for p) w → (scribe : SeatOf Ledger Edit) → HasWatched value_after is_taken balance site place w (Ok scribe) later
      → Watches value_after is_taken balance ROUNDS site (beginning_of p None) scribe later
  all_rounds w later new scribe watched = watched is.scribe (beginning_of p None) is.there (watches w new)

  -- the watch may end once the runtime is closed
  pub watch_may_end : (w later : Watch) → IsNew (watch_for p) w → (scribe : SeatOf Ledger Edit) → HasWatched value_after is_taken balance site place w (Ok scribe) later
      → (entries : List (EntryFields Edit)) (values : List Ledger) → IsClosedBy value_after is_taken balance entries values scribe → MayEnd (events_in entries) later
  watch_may_end w later new scribe watched entries values closed = may_end value_after is_taken balance site (beginning_of p None) scribe later (all_rounds w later new scribe watched) entries values closed

  module _ (after : List (Job (SeatOf Ledger Edit))) (count : length after ≡ length jobs) (done : AreDone site p jobs after) where
    pub all_there_after : All (λ (job : Job (SeatOf Ledger Edit)). IsSome job.seat) after
    all_there_after = are_there site p is.seats is.opened.seats_are jobs is.jobs_are script.paired after count done

    module _ {M : Type 0} (later : List (SeatOf Ledger Edit)) (stopped : List (Option ℕ)) (left : AreLeftBy M after later stopped) where
      ended_are : AreEnded {M = M} site p is.seats left.ended
      ended_are = are_ended site p is.seats is.opened.seats_are jobs is.jobs_are script.paired after count done {M = M} left.ended left.jobs_are

      pub seats_left : AreSeatsFor site p later
      seats_left = are_left {M = M} site p is.seats left.ended ended_are later left.seats_are

      pub tasks_ended : HaveEnded p stopped is.seats later
      tasks_ended = have_ended {M = M} site p is.seats left.ended ended_are later left.seats_are stopped left.stopped_are

      stopped_count : length stopped ≡ length p.tasks
      stopped_count = ap length left.stopped_are ∙ length-map left.ended (λ (e : Ended M). e.stopped) ∙ ended_are.count

      pub seats_of_it : All (λ seat. IsOf site seat) later
      seats_of_it = all_of p script None site is.seats is.opened later seats_left

      pub seats_idle : All (λ seat. IsIdle seat) later
      seats_idle = all_idle p script None site is.seats is.opened later seats_left

      pub every_seat : (n : ℕ) → n < site.seats → Any (λ seat. seat.number ≡ n) later
      every_seat = all_there p script None site is.seats is.opened later seats_left site.seats is.count

      pub closed_fed : (entries : List (EntryFields Edit)) (values : List Ledger) → All (λ seat. IsClosedBy value_after is_taken balance entries values seat) later → HasClosedFed p entries values stopped
      closed_fed entries values closed = record { site = site; seats = is.seats; opened = is.opened; later = later; are = seats_left; count = stopped_count; ended = tasks_ended; closed = closed }

-- the report of such a run
pub report_of_closed : (p : ScriptFields) (script : IsScript p) (entries : List (EntryFields Edit)) (values : List Ledger) (stopped : List (Option ℕ)) → HasClosedFed p entries values stopped
    → (r : ReportFields) → TellsHeadOf p r → r.entries ≡ entries → r.ledgers ≡ values → IsReportOfRun p stopped r
report_of_closed p script entries values stopped is = is_report p script None is.site is.seats is.opened is.later is.are stopped is.count is.ended entries values is.closed

-- looks at its history are looks at the report
pub looks_of_report : (p : ScriptFields) (r : ReportFields) (entries : List (EntryFields Edit)) (looks : List Look) → TellsHeadOf p r → r.entries ≡ entries
    → AreLooksAt (opening_of (watch_for p)) (events_in entries) looks → AreLooksOf (told_by r) looks
looks_of_report p r entries looks head entries_are are =
    let groups = ap (λ (g : ReadGroups). g.groups) head.groups in
    let start : opening_of (watch_for p) ≡ begins_by (told_by r).head = λ i. opening (record { q = length (sym head.resources i); groups = sym groups i }) (length (sym head.tasks i)) (sym head.cap i) in
    subst (λ (s : LockState). AreLooksAt s (events_in r.entries) looks) start (subst (λ (es : List (EntryFields Edit)). AreLooksAt (opening_of (watch_for p)) (events_in es) looks) (sym entries_are) are)
