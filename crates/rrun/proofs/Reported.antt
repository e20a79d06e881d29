-- The run of a script, from its seats to its report.
use Rattle.std.proofs.Common.{◌≡◌, ◌<◌, ℕ, false, List, [], ◌∷◌, ◌++◌, map, length, replicate, Option, Some, None, sym, ap, subst, ◌∙◌, arith}
use Rattle.std.proofs.lemmas.Bool.{true≢false}
use Rattle.std.proofs.lemmas.List.{length-replicate}
use Rattle.std.proofs.lemmas.List.FromFn.{fill_by_all}
use Rattle.std.proofs.lemmas.Option.{get_or_from_slice_get}
use Rattle.std.specs.List.{range_with_len, list_any}
use Rattle.std.specs.Prelude.{is_some, slice_get, All, Any}
use Rattle.rclaim.specs.Events.{seat_of}
use Rattle.rlock.specs.Known.{Site, newcomer, entries_by}
use Rattle.rexpand.specs.Groups.{ReadGroups}
use Rattle.rmodel.specs.State.{LockState, opening}
use Rattle.rmodel.specs.Watching.{steps_of}
use Rattle.rvalue.specs.declared.ledger.Edit.{Edit}
use Rattle.rvalue.specs.declared.ledger.Ledger.{Ledger}
use Rattle.rvalue.specs.Entries.{EntryFields}
use Rattle.rvalue.specs.Ledgers.{opening_ledger, is_taken, value_after}
use Rattle.rvalue.specs.Lawful.{AreOpenings}
use Rattle.rvalue.proofs.InTurnLemmas.{AllInTurn-weaker}
use Rattle.rstate.specs.Contents.{Contents}
use Rattle.rstate.specs.Histories.{Beginning, IsListed, MayFollow}
use Rattle.rstate.proofs.homes.Lists.{same_item, get_there, get_replicate}
use Rattle.rtrace_form.specs.Heads.{Head, is_nil}
use Rattle.rtrace_form.specs.Reports.{IsLawful, IsRightEntry, ledger_after}
use Rattle.rtrace_write.specs.Report.{ReportFields, told_by}
use Rattle.rrun.specs.Statement.{Statement}
use Rattle.rrun.specs.Scripts.{ScriptFields, IsScript}
use Rattle.rguard.specs.Closing.{IsClosedBy, IsLeft, IsToldTo}
use Rattle.rrun.specs.GuardSeats.{SeatOf, IsOf, IsIdle, Goes}
use Rattle.rrun.specs.Seats.{IsSeatFor}
use Rattle.rrun.specs.Reporting.{beginning_of, HasOpened, TellsHeadOf, HasTold, IsReportOf, IsReportOfRun, HaveEnded}
use Rattle.rrun.specs.Steps.{list_steps}
use Rattle.rrun.specs.Tasks.{AreSeatsFor, HasEnded}
use Rattle.rwatch.specs.Seen.{Seen, watched_after}
use Rattle.rrun.proofs.Ending.{less_from_slice_get}
use Rattle.rrun.proofs.Left.{not_stopped}

-- ---- the beginning

-- what the machine and the values of a runtime say of how it began
abbrev pub began_by : LockState → List Ledger → Option (List Seen) → Beginning Ledger
began_by state values watched = record { groups = state.groups; seats = state.seats; cap = state.cap; values = values; watched = watched }

pub begun_so : (p : ScriptFields) (watched : Option (List Seen)) (state : LockState) (values : List Ledger) (n : ℕ)
    → state ≡ opening (record { q = length p.resources; groups = p.groups }) n n → values ≡ replicate (length p.resources) opening_ledger → n ≡ length p.tasks → began_by state values watched ≡ beginning_of p watched
begun_so p watched state values n state_is values_are n_is =
    (λ i. began_by (state_is i) (values_are i) watched) ∙ ap (λ (m : ℕ). record { groups = record { q = length p.resources; groups = p.groups }; seats = m; cap = m; values = replicate (length p.resources) opening_ledger; watched = watched }) n_is

pub has_opened : (p : ScriptFields) (watched : Option (List Seen)) (site : Site) (seats : List (SeatOf Ledger Edit)) (state : LockState) (values : List Ledger) (contents : Contents Ledger Edit) (n : ℕ)
    → state ≡ opening (record { q = length p.resources; groups = p.groups }) n n → values ≡ replicate (length p.resources) opening_ledger → n ≡ length p.tasks
    → length seats ≡ n → All (λ seat. IsOf site seat × IsIdle seat) seats
    → ((k : ℕ) → k < n → slice_get seats k ≡ Some (newcomer site.gate k (began_by state values watched) contents))
    → HasOpened p watched site seats
has_opened p watched site seats state values contents n state_is values_are n_is count all each = record {
  seats_are = record { count = count ∙ n_is; each = for_seat };
  begins = begins;
  nothing_made = λ k seat there. ap (λ (s : SeatOf Ledger Edit). s.mine) (is_new k seat there);
}
  where
    began_is : began_by state values watched ≡ beginning_of p watched
    began_is = begun_so p watched state values n state_is values_are n_is

    is_new : (k : ℕ) (seat : SeatOf Ledger Edit) → slice_get seats k ≡ Some seat → seat ≡ newcomer site.gate k (began_by state values watched) contents
    is_new k seat there = same_item seat (newcomer site.gate k (began_by state values watched) contents) (sym there ∙ each k (subst (λ m. k < m) count (less_from_slice_get seats k seat there)))

    begins : (k : ℕ) (seat : SeatOf Ledger Edit) → slice_get seats k ≡ Some seat → seat.opening ≡ Some (beginning_of p watched)
    begins k seat there = ap (λ (s : SeatOf Ledger Edit). s.opening) (is_new k seat there) ∙ ap Some began_is

    for_seat : (k : ℕ) (seat : SeatOf Ledger Edit) → slice_get seats k ≡ Some seat → IsSeatFor site p k seat
    for_seat k seat there =
        let is = subst (λ (s : SeatOf Ledger Edit). IsOf site s × IsIdle s) (get_or_from_slice_get seats k seat seat there) (all k seat (less_from_slice_get seats k seat there)) in
        record {
          of = is.0;
          idle = is.1;
          number = ap (λ (s : SeatOf Ledger Edit). s.number) (is_new k seat there);
          over = λ b opens. ap (λ (d : Beginning Ledger). d.groups) (same_item b (beginning_of p watched) (sym opens ∙ begins k seat there));
        }

-- ---- the end

-- a seat has gone on with the entries of its task, or of a part of it
record HasGone (o : Option ℕ) (statements : List Statement) (seat last : SeatOf Ledger Edit) : Type 0 where
  more : List (EntryFields Edit)
  goes : Goes seat more last
  told : HasTold o seat.number statements more

has_gone : (o : Option ℕ) (statements : List Statement) (seat last : SeatOf Ledger Edit) → HasEnded statements seat o last → HasGone o statements seat last
has_gone None statements seat last ran = record { more = ran.more; goes = ran.goes; told = ran.run }
has_gone (Some k) statements seat last broken = record { more = broken.more; goes = broken.goes; told = broken.run }

module _ (p : ScriptFields) (script : IsScript p) (watched : Option (List Seen)) (site : Site) (seats : List (SeatOf Ledger Edit)) (opened : HasOpened p watched site seats) (later : List (SeatOf Ledger Edit)) (are : AreSeatsFor site p later) where
  at : (k : ℕ) → k < length p.tasks → (last : SeatOf Ledger Edit) × (slice_get later k ≡ Some last)
  at k less = get_there later k (subst (λ n. k < n) (sym are.count) less)

  within : (k : ℕ) → k < length later → k < length p.tasks
  within k less = subst (λ n. k < n) are.count less

  pub all_of : All (λ seat. IsOf site seat) later
  all_of k d less = let last = at k (within k less) in subst (λ (s : SeatOf Ledger Edit). IsOf site s) (sym (get_or_from_slice_get later k last.0 d last.1)) (are.each k last.0 last.1).of

  pub all_idle : All (λ seat. IsIdle seat) later
  all_idle k d less = let last = at k (within k less) in subst (λ (s : SeatOf Ledger Edit). IsIdle s) (sym (get_or_from_slice_get later k last.0 d last.1)) (are.each k last.0 last.1).idle

  pub all_there : (many : ℕ) → many ≡ length p.tasks → (n : ℕ) → n < many → Any (λ seat. seat.number ≡ n) later
  all_there many all n less =
      let some = subst (λ m. n < m) all less in
      let last = at n some in
      (n, last.0, subst (λ m. n < m) (sym are.count) some, get_or_from_slice_get later n last.0 last.0 last.1, (are.each n last.0 last.1).number)

  module _ (stopped : List (Option ℕ)) (count : length stopped ≡ length p.tasks) (ran : HaveEnded p stopped seats later) (entries : List (EntryFields Edit)) (values : List Ledger)
      (closed : All (λ seat. IsClosedBy value_after is_taken (λ (ledger : Ledger). ledger.balance) entries values seat) later) where
    closed_at : (k : ℕ) (last : SeatOf Ledger Edit) → slice_get later k ≡ Some last → IsClosedBy value_after is_taken (λ (ledger : Ledger). ledger.balance) entries values last
    closed_at k last there =
        subst (IsClosedBy value_after is_taken (λ (ledger : Ledger). ledger.balance) entries values) (get_or_from_slice_get later k last last there) (closed k last (less_from_slice_get later k last there))

    seat_at : (k : ℕ) → k < length p.tasks → (seat : SeatOf Ledger Edit) × (slice_get seats k ≡ Some seat)
    seat_at k less = get_there seats k (subst (λ n. k < n) (sym opened.seats_are.count) less)

    steps_within : (k : ℕ) (statements : List Statement) → slice_get p.steps k ≡ Some statements → k < length p.tasks
    steps_within k statements steps_is = subst (λ n. k < n) script.paired (less_from_slice_get p.steps k statements steps_is)

    -- how a task ended
    went : (k : ℕ) → k < length p.tasks → (statements : List Statement) → slice_get p.steps k ≡ Some statements → (o : Option ℕ) → slice_get stopped k ≡ Some o
        → (seat last : SeatOf Ledger Edit) → slice_get seats k ≡ Some seat → slice_get later k ≡ Some last → HasGone o statements seat last
    went k less statements steps_is o stopped_is seat last seat_is last_is = has_gone o statements seat last (ran k statements o seat last steps_is stopped_is seat_is last_is)

    pub each_told : (k : ℕ) (statements : List Statement) → slice_get p.steps k ≡ Some statements → (o : Option ℕ) → slice_get stopped k ≡ Some o
        → HasTold o k statements (entries_by (λ (entry : EntryFields Edit). seat_of entry.event) k entries)
    each_told k statements steps_is o stopped_is =
        let less = steps_within k statements steps_is in
        let seat = seat_at k less in
        let last = at k less in
        let gone = went k less statements steps_is o stopped_is seat.0 last.0 seat.1 last.1 in
        let own : entries_by (λ (entry : EntryFields Edit). seat_of entry.event) k entries ≡ gone.more =
        ap (λ n. entries_by (λ (entry : EntryFields Edit). seat_of entry.event) n entries) (sym (are.each k last.0 last.1).number) ∙ (closed_at k last.0 last.1).own ∙ gone.goes.mine ∙ ap (λ (es : List (EntryFields Edit)). es ++ gone.more) (opened.nothing_made k seat.0 seat.1) in
        subst (HasTold o k statements) (sym own) (subst (λ n. HasTold o n statements gone.more) (opened.seats_are.each k seat.0 seat.1).number gone.told)

    some_task : 0 < length p.tasks
    some_task = filled p.tasks script.some_task
      where
        filled : {X : Type 0} (xs : List X) → is_nil xs ≡ false → 0 < length xs
        filled [] h = absurd (true≢false h)
        filled (x ∷ xs) h = omega arith

    -- the first seat knows at the end how the runtime began
    last_opens : (at 0 some_task).0.opening ≡ Some (beginning_of p watched)
    last_opens =
        let seat = seat_at 0 some_task in
        let last = at 0 some_task in
        let statements = get_there p.steps 0 (subst (λ n. 0 < n) (sym script.paired) some_task) in
        let it = get_there stopped 0 (subst (λ n. 0 < n) (sym count) some_task) in
        let gone = went 0 some_task statements.0 statements.1 it.0 it.1 seat.0 last.0 seat.1 last.1 in
        gone.goes.same.2 ∙ opened.begins 0 seat.0 seat.1

    is_left : IsLeft value_after is_taken (λ (ledger : Ledger). ledger.balance) (beginning_of p watched) entries values
    is_left = (closed_at 0 (at 0 some_task).0 (at 0 some_task).1).left (beginning_of p watched) last_opens

    -- what each value begins with
    told_of : (openings : ℕ → Ledger) → ((l : ℕ) (ledger : Ledger) → ledger ≡ opening_ledger → openings l ≡ ledger) → AreOpenings (IsListed (beginning_of p watched).values) openings
    told_of openings opens l value listed = opens l value (get_replicate (length p.resources) l opening_ledger value listed)

    pub lawful_report : (head : Head) → head.resources ≡ p.resources → head.groups ≡ p.groups → head.tasks ≡ p.tasks → head.cap ≡ length p.tasks → IsLawful head entries
    lawful_report head resources groups tasks cap =
        subst (λ (h : Head). IsLawful h entries) (λ i. record { resources = sym resources i; groups = sym groups i; tasks = sym tasks i; cap = sym cap i })
        (AllInTurn-weaker (MayFollow value_after is_taken (λ (ledger : Ledger). ledger.balance) (beginning_of p watched)) (IsRightEntry (record { resources = p.resources; groups = p.groups; tasks = p.tasks; cap = length p.tasks }))
        (λ earlier entry right. record { comes = right.comes; stand = right.stand; held = right.held; answers = λ openings opens. right.answers openings (told_of openings opens) })
        [] entries is_left.lawful)

    pub its_ledgers : values ≡ map (ledger_after entries) (range_with_len 0 (length p.resources))
    its_ledgers = fill_by_all (ledger_after entries) values (length p.resources) opening_ledger is_left.count (λ l less.
        get_or_from_slice_get values l (ledger_after entries l) opening_ledger (is_left.each l opening_ledger (opens l less)))
      where
        opens : (l : ℕ) → l < length p.resources → slice_get (replicate (length p.resources) opening_ledger) l ≡ Some opening_ledger
        opens l less =
            let there = get_there (replicate (length p.resources) opening_ledger) l (subst (λ n. l < n) (sym (length-replicate (length p.resources) opening_ledger)) less) in
            there.1 ∙ ap Some (get_replicate (length p.resources) l opening_ledger there.0 there.1)

    pub is_report : (r : ReportFields) → TellsHeadOf p r → r.entries ≡ entries → r.ledgers ≡ values → IsReportOfRun p stopped r
    is_report r head entries_are ledgers_are = record {
      count = count;
      is = record {
        head = head;
        lawful = subst (λ (es : List (EntryFields Edit)). IsLawful (told_by r).head es) (sym entries_are) (lawful_report (told_by r).head head.resources (ap (λ g. g.groups) head.groups) head.tasks head.cap);
        each = λ k statements steps_is o stopped_is.
            subst (λ (es : List (EntryFields Edit)). HasTold o k statements (entries_by (λ (entry : EntryFields Edit). seat_of entry.event) k es)) (sym entries_are) (each_told k statements steps_is o stopped_is);
        over = ap (λ g. g.q) head.groups ∙ ap length (sym head.resources);
        ledgers = ledgers_are ∙ its_ledgers ∙ (λ i. map (ledger_after (sym entries_are i)) (range_with_len 0 (length (sym head.resources i))));
      };
    }

    -- watchers that were given the steps of the history were given those of the report
    pub told_steps : (told : Option (List Seen)) → All (λ seat. IsToldTo told entries seat) later → (r : ReportFields) → TellsHeadOf p r → r.entries ≡ entries → told ≡ watched_after (list_steps (told_by r)) watched
    told_steps told all r head entries_are =
        let last = at 0 some_task in
        let given : IsToldTo told entries last.0 = subst (λ (s : SeatOf Ledger Edit). IsToldTo told entries s) (get_or_from_slice_get later 0 last.0 last.0 last.1) (all 0 last.0 (less_from_slice_get later 0 last.0 last.1)) in
        let groups = ap (λ (g : ReadGroups). g.groups) head.groups in
        given (beginning_of p watched) last_opens
        ∙ (λ i. watched_after
        (steps_of (opening (record { q = length (sym head.resources i); groups = sym groups i }) (length (sym head.tasks i)) (sym head.cap i)) (map (λ (entry : EntryFields Edit). entry.event) (sym entries_are i)))
        watched)

-- the run of a script in which no task was stopped
pub is_whole : (p : ScriptFields) (script : IsScript p) (stopped : List (Option ℕ)) (r : ReportFields) → list_any is_some stopped ≡ false → IsReportOfRun p stopped r → IsReportOf p r
is_whole p script stopped r none run = record {
  head = run.is.head;
  lawful = run.is.lawful;
  each = λ k statements steps_is.
      let it = get_there stopped k (subst (λ n. k < n) (script.paired ∙ sym run.count) (less_from_slice_get p.steps k statements steps_is)) in
      subst (λ (o : Option ℕ). HasTold o k statements (entries_by (λ (entry : EntryFields Edit). seat_of entry.event) k r.entries)) (not_stopped stopped k it.0 none it.1) (run.is.each k statements steps_is it.0 it.1);
  over = run.is.over;
  ledgers = run.is.ledgers;
}
