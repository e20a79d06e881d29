-- The reported bounds, one more record at a time, and the first wrong one in the end.
use Rattle.std.proofs.Common.{◌≡◌, ℕ, ◌+◌, Bool, true, false, cond, nat_lt, List, [], ◌∷◌, ◌++◌, length, map, Option, Some, None, refl, sym, ap, subst, ◌∙◌, arith, true≢false, length-append}
use Rattle.std.specs.Prelude.{option_map, option_to_list, IsSome, IfOk, Result, Ok, Err, unwrap_or}
use Rattle.std.proofs.lemmas.List.{map-append, append-nil}
use Rattle.rexpand.specs.Groups.{ReadGroups}
use Rattle.rclaim.specs.declared.event.Event.{Event}
use Rattle.rmodel.specs.Steps.{AreAccepted}
use Rattle.rmodel.specs.WellFormed.{Among}
use Rattle.rplain.specs.Machine.{Standing}
use Rattle.rbound.specs.Bounds.{Numbers, numbers_in}
use Rattle.rcover_laws.specs.declared.wait_end.WaitEnd.{WaitEnd}
use Rattle.rcover.specs.Past.{Past, start_of, with_event}
use Rattle.rcover.specs.declared.following.Following.{Following}
use Rattle.rbound_history.specs.Keys.{IsLastEnded}
use Rattle.rbound_history.specs.Knows.{bound_by}
use Rattle.rtrace.specs.Told.{Told, said, waits_of, AreBefore}
use Rattle.rtrace.specs.Knows.{KnowsTold}
use Rattle.rtrace.specs.declared.told_bounds.ToldBounds.{ToldBounds}
use Rattle.rtrace_form.specs.Heads.{Head, is_nil, read_groups}
use Rattle.rtrace_form.specs.Records.{Row}
use Rattle.rtrace_form.specs.Waits.{all_ended, bound_in, ended_in, events_of}
use Rattle.rtrace_form.specs.Reports.{Entry}
use Rattle.rtrace_form.specs.SoFar.{SoFar, nothing_yet, at_groups, head_in, entries_in, names_in, with_act, with_row, bare}
use Rattle.rtrace_form.specs.Faults.{code_of, read_all}
use Rattle.rtrace_form.specs.WrongBounds.{bound_said, bounds_said, bounds_due, or_more, first_other, first_wrong_bound, wrong_bound}
use Rattle.rtrace_form.proofs.facts.Choices.{some_is}
use Rattle.rtrace_form.proofs.texts.Lists.{read_more, bounds_more}
use Rattle.rtrace.specs.declared.bounds.BoundsKept.{BoundsKept}
use Rattle.rtrace_read.specs.declared.reading.ReportReader.{ReportReader}
use Rattle.rtrace_read.specs.declared.taken.BoundTold.{BoundTold}
use Rattle.rtrace_read.specs.declared.taken.TakenRecord.{TakenRecord}
use Rattle.rtrace_read.specs.declared.taken.TakenRecord.TheVariants as taken
use Rattle.rtrace_read.specs.Knows.{Knows, StandBehind, past_in, ended_at, waits_due}
use Rattle.rtrace_read.specs.Takes.{Adds, bound_of}
use Rattle.rtrace.specs.ToldBounds.{AreTold, IsMade, KnowsBounds, HasRead}
use Rattle.rtrace_read.proofs.Steps.{events_push}
use Rattle.rtrace_read.proofs.DueWaits.{among_drop}
use Rattle.rtrace.proofs.WaitSteps.{AreAll, row_on, row_wait, row_head, all_at_end, some_not}

-- ---- the past

-- the events so far are accepted one after another, once there is one
accepted_by : (machine : Option Standing) (o : Option Following) (latest : Option Entry) (p : Past) → StandBehind machine o latest p → IsSome latest → AreAccepted (start_of p) p.events
accepted_by None None latest p h some = absurd (some_not h.0 some)
accepted_by (Some m) None latest p h some = absurd h
accepted_by None (Some f) latest p h some = absurd h
accepted_by (Some m) (Some f) latest p h some = h.1.accepted

-- where there are events there is a latest entry
latest_by : (machine : Option Standing) (o : Option Following) (latest : Option Entry) (p : Past) → StandBehind machine o latest p → is_nil p.events ≡ false → IsSome latest
latest_by None None latest p h some = absurd (true≢false (sym (ap is_nil h.1) ∙ some))
latest_by (Some m) None latest p h some = absurd h
latest_by None (Some f) latest p h some = absurd h
latest_by (Some m) (Some f) latest p h some = h.0

-- the past by its head and its events
abbrev pub past_by : Head → List Event → Past
past_by head events = record { groups = read_groups head; seats = length head.tasks; cap = head.cap; events = events }

module _ (s t : SoFar) where
  -- an act is of the latest event
  same_events : (what : TakenRecord) → Adds what s t → ((e : Event) → what ≡ taken.Event e → ⊥) → events_of (entries_in t) ≡ events_of (entries_in s)
  same_events (taken.Event e) adds other = absurd (other e refl)
  same_events (taken.Act act) adds other = (λ i. events_of (adds.0 i ++ option_to_list (adds.1 i))) ∙ at s.latest
    where
      at : (l : Option Entry) → events_of (s.earlier ++ option_to_list (option_map (with_act act) l)) ≡ events_of (s.earlier ++ option_to_list l)
      at None = refl
      at (Some entry) = events_push s.earlier (with_act act entry) ∙ sym (events_push s.earlier entry)
  same_events (taken.Wait told) adds other = λ i. events_of (adds.0 i ++ option_to_list (adds.1 i))
  same_events taken.Other adds other = λ i. events_of (adds.0 i ++ option_to_list (adds.1 i))

  latest_stays : (what : TakenRecord) → Adds what s t → IsSome s.latest → IsSome t.latest
  latest_stays (taken.Event e) adds some = subst (λ (l : Option Entry). IsSome l) (sym adds.1) refl
  latest_stays (taken.Act act) adds some = subst (λ (l : Option Entry). IsSome l) (sym adds.1) (at s.latest some)
    where
      at : (l : Option Entry) → IsSome l → IsSome (option_map (with_act act) l)
      at None h = h
      at (Some entry) h = refl
  latest_stays (taken.Wait told) adds some = subst (λ (l : Option Entry). IsSome l) (sym adds.1) some
  latest_stays taken.Other adds some = subst (λ (l : Option Entry). IsSome l) (sym adds.1) some

  -- what was reported follows from what was said
  told_on : (o : Option ToldBounds) (items : List Told) → events_of (entries_in t) ≡ events_of (entries_in s) → (is_nil (events_of (entries_in s)) ≡ false → head_in t ≡ head_in s) → AreTold o (past_in s) items → AreTold o (past_in t) items
  told_on None items events head h = (events ∙ h.0, h.1)
  told_on (Some told) items events head h = subst (λ (p : Past). AreTold (Some told) p items) (λ i. past_by (sym (head h.0) i) (sym events i)) h

-- ---- what is no event

abbrev pub tells_event : TakenRecord → Bool
tells_event (taken.Event e) = true
tells_event _ = false

pub no_event : (what : TakenRecord) → tells_event what ≡ false → (e : Event) → what ≡ taken.Event e → ⊥
no_event what other e is = true≢false (sym (ap tells_event is) ∙ other)

-- ---- waits

-- the first wait that is due was ended by the last event
pub last_ended_is : (old : ReportReader) (s : SoFar) (w : WaitEnd) (rest : List WaitEnd) → Knows true old s → waits_due s ≡ w ∷ rest → IsLastEnded (past_in s).groups (past_in s).seats (past_in s).cap (past_in s).events w
unfolding ended_in
last_ended_is old s w rest h first = at s.latest refl (among_drop (ended_at (head_in s) s.earlier s.latest) _ w rest first)
  where
    at : (latest : Option Entry) → s.latest ≡ latest → Among w (ended_at (head_in s) s.earlier s.latest) → IsLastEnded (past_in s).groups (past_in s).seats (past_in s).cap (past_in s).events w
    at None is among = absurd (subst (λ (l : Option Entry). Among w (ended_at (head_in s) s.earlier l)) is among)
    at (Some entry) is among = record {
      accepted = accepted_by old.machine old.following s.latest (past_in s) h.stand (subst (λ (l : Option Entry). IsSome l) (sym is) refl);
      before = events_of s.earlier;
      last = entry.event;
      split = ap (λ (l : Option Entry). events_of (s.earlier ++ option_to_list l)) is ∙ events_push s.earlier entry;
      ended = subst (λ (l : Option Entry). Among w (ended_at (head_in s) s.earlier l)) is among;
    }

-- ---- numbers

before_more : (n : ℕ) (items : List Told) → AreBefore n items → AreBefore (n + 1) items
before_more n [] all = tt
before_more n (x ∷ items) all = let low = all.0 in (omega (arith, low), before_more n items all.1)

before_one : (n : ℕ) (items : List Told) (x : Told) → AreBefore n items → x.number ≡ n → AreBefore (n + 1) (items ++ x ∷ [])
before_one n [] x all is = (omega (arith, is), tt)
before_one n (y ∷ items) x all is = let low = all.0 in (omega (arith, low), before_one n items x all.1 is)

-- ---- one more record

module _ (rows : List Row) (row : Row) where
  more_rows : length (rows ++ row ∷ []) ≡ length rows + 1
  more_rows = length-append rows (row ∷ [])

  -- what is known of records, by what they have said
  grown : (kept : BoundsKept) (items : List Told) → kept.records ≡ length rows + 1 → bounds_said true 1 nothing_yet (rows ++ row ∷ []) ≡ said items → AreBefore (length rows + 1 + 1) items
      → AreAll (waits_of items) (with_row true (read_all true rows) row) → AreTold kept.told (past_in (with_row true (read_all true rows) row)) items → KnowsBounds kept (rows ++ row ∷ [])
  grown kept items records bounds below waits told = record {
    items = items;
    records = records ∙ sym more_rows;
    bounds = bounds;
    below = subst (λ n. AreBefore (n + 1) items) (sym more_rows) below;
    waits = subst (λ (s : SoFar). AreAll (waits_of items) s) (sym (read_more true rows row)) waits;
    told = subst (λ (s : SoFar). AreTold kept.told (past_in s) items) (sym (read_more true rows row)) told;
  }

  said_more : (o : Option Numbers) → bound_said true (names_in (read_all true rows)) row ≡ o → bounds_said true 1 nothing_yet (rows ++ row ∷ []) ≡ bounds_said true 1 nothing_yet rows ++ or_more (length rows + 1) o []
  said_more o is = bounds_more true rows row ∙ ap (λ b. bounds_said true 1 nothing_yet rows ++ or_more (length rows + 1) b []) is

module _ (old new : ReportReader) (rows : List Row) (row : Row) (what : TakenRecord) (read : HasRead old new rows row what) (kept : BoundsKept) (h : KnowsBounds kept rows) where
  abbrev pub s : SoFar
  s = read_all true rows

  abbrev pub t : SoFar
  t = with_row true s row

  took : (code_of true s row ≡ None) × Knows true new t × Adds what s t
  took = read.takes true s read.knows

  tells : bound_said true (names_in s) row ≡ bound_of what
  tells = read.tells true s read.knows

  head_on : Adds what s t → IsSome t.latest → head_in t ≡ head_in s
  head_on adds some = row_head new s row took.1 took.0 some

  bounds_on : bound_of what ≡ None → bounds_said true 1 nothing_yet (rows ++ row ∷ []) ≡ said h.items
  bounds_on none = said_more rows row None (tells ∙ none) ∙ append-nil (bounds_said true 1 nothing_yet rows) ∙ h.bounds

  kept_told : ((e : Event) → what ≡ taken.Event e → ⊥) → (o : Option ToldBounds) (items : List Told) → AreTold o (past_in s) items → AreTold o (past_in t) items
  kept_told other o items told =
      told_on s t o items (same_events s t what took.2 other)
      (λ some. head_on took.2 (latest_stays s t what took.2 (latest_by old.machine old.following s.latest (past_in s) read.knows.stand some))) told

  -- a record that is neither of a wait nor of an event
  pub bounds_same : (new_kept : BoundsKept) → bound_of what ≡ None → ((e : Event) → what ≡ taken.Event e → ⊥) → new_kept ≡ record kept { records = kept.records + 1 } → KnowsBounds new_kept (rows ++ row ∷ [])
  bounds_same new_kept none other is =
      grown rows row new_kept h.items (ap (λ (k : BoundsKept). k.records) is ∙ ap (λ n. n + 1) h.records) (bounds_on none) (before_more (length rows + 1) h.items h.below)
      (row_on new s row took.1 took.0 (waits_of h.items) (tells ∙ none) h.waits)
      (subst (λ (k : BoundsKept). AreTold k.told (past_in t) h.items) (sym is) (kept_told other kept.told h.items h.told))

  module _ (e : Event) (is_event : what ≡ taken.Event e) where
    event_adds : (t.earlier ≡ entries_in s) × (t.latest ≡ Some (bare e))
    event_adds = subst (λ (w : TakenRecord). Adds w s t) is_event took.2

    event_past : past_in t ≡ with_event (past_in s) e
    event_past =
        let head = head_on took.2 (subst (λ (l : Option Entry). IsSome l) (sym event_adds.1) refl) in
        let events = (λ i. events_of (event_adds.0 i ++ option_to_list (event_adds.1 i))) ∙ events_push (entries_in s) (bare e) in
        λ i. past_by (head i) (events i)

    -- the event is accepted after those before
    pub event_accepted : AreAccepted (start_of (past_in s)) ((past_in s).events ++ e ∷ [])
    event_accepted =
        subst (λ (p : Past). AreAccepted (start_of p) p.events) event_past
        (accepted_by new.machine new.following t.latest (past_in t) took.1.stand (subst (λ (l : Option Entry). IsSome l) (sym event_adds.1) refl))

    -- and it is of a task that was declared
    pub event_tasks : length new.tasks ≡ (past_in s).seats
    event_tasks = ap (λ xs. length xs) took.1.tasks ∙ ap (λ (p : Past). p.seats) event_past

    pub bounds_event : (new_kept : BoundsKept) → new_kept.records ≡ kept.records + 1 → AreTold new_kept.told (with_event (past_in s) e) h.items → KnowsBounds new_kept (rows ++ row ∷ [])
    bounds_event new_kept records told =
        let none = ap bound_of is_event in
        grown rows row new_kept h.items (records ∙ ap (λ n. n + 1) h.records) (bounds_on none) (before_more (length rows + 1) h.items h.below)
        (row_on new s row took.1 took.0 (waits_of h.items) (tells ∙ none) h.waits)
        (subst (λ (p : Past). AreTold new_kept.told p h.items) (sym event_past) told)

  module _ (x : BoundTold) (is_wait : what ≡ taken.Wait x) where
    wait_due : waits_due s ≡ x.wait ∷ waits_due t
    wait_due = (subst (λ (w : TakenRecord). Adds w s t) is_wait took.2).2

    pub wait_ended : IsLastEnded (past_in s).groups (past_in s).seats (past_in s).cap (past_in s).events x.wait
    wait_ended = last_ended_is old s x.wait (waits_due t) read.knows wait_due

    pub wait_below : (n : ℕ) → n ≡ kept.records + 1 → AreBefore n h.items
    wait_below n is = subst (λ m. AreBefore m h.items) (sym (is ∙ ap (λ m. m + 1) h.records)) h.below

    pub bounds_wait : (new_kept : BoundsKept) (n : ℕ) → n ≡ kept.records + 1 → new_kept.records ≡ n → AreTold new_kept.told (past_in s) (h.items ++ record { number = n; wait = x.wait; bound = numbers_in x.bound } ∷ []) → KnowsBounds new_kept (rows ++ row ∷ [])
    bounds_wait new_kept n number records told =
        let item : Told = record { number = n; wait = x.wait; bound = numbers_in x.bound } in
        let at : n ≡ length rows + 1 = number ∙ ap (λ m. m + 1) h.records in
        let tell = tells ∙ ap bound_of is_wait in
        grown rows row new_kept (h.items ++ item ∷ []) (records ∙ at)
        (said_more rows row (Some (numbers_in x.bound)) tell ∙ (λ i. h.bounds i ++ (sym at i, numbers_in x.bound) ∷ []) ∙ sym (map-append (λ (y : Told). (y.number, y.bound)) h.items (item ∷ [])))
        (before_one (length rows + 1) h.items item h.below at)
        (subst (λ (ws : List WaitEnd). AreAll ws t) (sym (map-append (λ (y : Told). y.wait) h.items (item ∷ [])))
        (row_wait new s row took.1 took.0 (waits_of h.items) x.wait (numbers_in x.bound) tell wait_due h.waits))
        (kept_told (no_event what (ap tells_event is_wait)) new_kept.told (h.items ++ item ∷ []) told)

-- ---- making

pub made_event : (tasks : ℕ) (old : Option ToldBounds) (told : ToldBounds) (p : Past) (items : List Told) → IsMade tasks old (Some told) → tasks ≡ p.seats → AreTold old p items → KnowsTold told p.groups p.seats p.cap p.events items
made_event tasks (Some kept) told p items made is h = subst (λ (k : ToldBounds). KnowsTold k p.groups p.seats p.cap p.events items) (sym (some_is made)) h.1
made_event tasks None told p items made is h =
    let none = made p.groups p.cap in
    let now = subst (λ n. KnowsTold told p.groups n p.cap [] []) is none in
    let events = subst (λ (es : List Event). KnowsTold told p.groups p.seats p.cap es []) (sym h.0) now in
    subst (λ (xs : List Told). KnowsTold told p.groups p.seats p.cap p.events xs) (sym h.1) events

pub some_events : (xs : List Event) (e : Event) → is_nil (xs ++ e ∷ []) ≡ false
some_events [] e = refl
some_events (x ∷ xs) e = refl

-- ---- the first wrong bound

module _ (kept : BoundsKept) (rows : List Row) (h : KnowsBounds kept rows) (nine : (read_all true rows).last ≡ 9) where
  abbrev pub end : SoFar
  end = read_all true rows

  waits_are : waits_of h.items ≡ all_ended (head_in end) (entries_in end)
  waits_are = all_at_end (waits_of h.items) end nine h.waits

  pub first_is : (number : Option ℕ) (groups : ReadGroups) (seats cap : ℕ) → groups ≡ read_groups (head_in end) → seats ≡ length end.tasks → cap ≡ (head_in end).cap
      → number ≡ first_other (said h.items) (map (bound_by groups seats cap (events_of (entries_in end))) (waits_of h.items)) → option_map wrong_bound number ≡ first_wrong_bound true rows
  unfolding bound_in
  first_is number groups seats cap gs ss cs is =
      ap (option_map wrong_bound)
      (is ∙ (λ i. first_other (sym h.bounds i) (map (bound_by (gs i) (ss i) (cs i) (events_of (entries_in end))) (waits_are i))))

  pub none_wrong : kept.told ≡ None → None ≡ first_wrong_bound true rows
  unfolding first_other
  none_wrong none =
      let items : h.items ≡ [] = (subst (λ (o : Option ToldBounds). AreTold o (past_in end) h.items) none h.told).1 in
      ap (option_map wrong_bound) (λ i. first_other (sym (h.bounds ∙ ap said items) i) (bounds_due (head_in end) (entries_in end)))

-- the groups of a reader after the head are those of what was said
pub groups_are : (reading : ReportReader) (s : SoFar) (g : ReadGroups) → Knows true reading s → s.last ≡ 9 → reading.groups ≡ Some g → g ≡ read_groups (head_in s)
groups_are reading s g h nine is = some_is (sym is ∙ h.groups ∙ ap (λ n. cond (nat_lt n at_groups) None (Some (read_groups (head_in s)))) nine)

-- what judges bounds names the first wrong one, by the groups and the cap of a reader after the end
pub named_first : {E : Type 0} (kept : BoundsKept) (reading : ReportReader) (told : ToldBounds) (groups : ReadGroups) (cap : ℕ) (made : Result (Option ℕ) E) → kept.told ≡ Some told → reading.groups ≡ Some groups → cap ≡ unwrap_or reading.cap (length reading.tasks)
    → IfOk made (λ first. (seats : ℕ) (events : List Event) (items : List Told) → KnowsTold told groups seats cap events items → first ≡ first_other (said items) (map (bound_by groups seats cap events) (waits_of items)))
    → IfOk made (λ number. (rows : List Row) → KnowsBounds kept rows → Knows true reading (read_all true rows) → (read_all true rows).last ≡ 9 → option_map wrong_bound number ≡ first_wrong_bound true rows)
named_first kept reading told groups cap (Err e) is there capped h = tt
named_first kept reading told groups cap (Ok number) is there capped h = λ rows k knows nine.
    let s = read_all true rows in
    let g : groups ≡ read_groups (head_in s) = groups_are reading s groups knows nine there in
    let c : cap ≡ (head_in s).cap = capped ∙ (λ i. unwrap_or (knows.cap i) (length (knows.tasks i))) in
    let those = (subst (λ (o : Option ToldBounds). AreTold o (past_in s) k.items) is k.told).1 in
    let by_groups = subst (λ (x : ReadGroups). KnowsTold told x (length s.tasks) (head_in s).cap (events_of (entries_in s)) k.items) (sym g) those in
    let by_cap = subst (λ n. KnowsTold told groups (length s.tasks) n (events_of (entries_in s)) k.items) (sym c) by_groups in
    first_is kept rows k nine number groups (length s.tasks) cap g refl c (h (length s.tasks) (events_of (entries_in s)) k.items by_cap)
