-- The lines of entries: each event, its acts, and what it changes.
use Rattle.std.proofs.Common.{◌≡◌, ℕ, ◌≤◌, ◌&&◌, Bool, true, false, not, cond, List, [], ◌∷◌, ◌++◌, map, Option, Some, None, nat_lt, refl, sym, ap, subst, ◌∙◌, arith, append_assoc, true≢false}
use Rattle.std.specs.Prelude.{option_to_list, flat_map}
use Rattle.std.specs.List.{AllByRecursion}
use Rattle.std.proofs.lemmas.Bool.{lt-ltb}
use Rattle.std.proofs.lemmas.List.{append-nil}
use Rattle.rset.specs.Sets.{Set}
use Rattle.rclaim.specs.Changes.{ChangeLists}
use Rattle.rclaim.specs.declared.changes.GrantChange.{GrantChange}
use Rattle.rclaim.specs.declared.changes.StatusChange.{StatusChange}
use Rattle.rclaim.specs.declared.claim.Status.{Status}
use Rattle.rclaim.specs.declared.claim.Status.TheVariants.{Waiting, Entitled, Satisfied}
use Rattle.rclaim.specs.declared.event.Event.{Event}
use Rattle.rclaim.specs.declared.event.Event.TheVariants as event
use Rattle.rcover_laws.specs.declared.wait_end.WaitEnd.{WaitEnd}
use Rattle.rmodel.specs.Changes.{changes_between}
use Rattle.rmodel.specs.State.{LockState}
use Rattle.rmodel.specs.Steps.{next}
use Rattle.rvalue.specs.InTurn.{AllInTurn}
use Rattle.rvalue.specs.Lawful.{stands_with}
use Rattle.rvalue.specs.declared.act.Act.{Act}
use Rattle.rvalue.specs.declared.act.Act.TheVariants.{Edited, Shown}
use Rattle.rvalue.specs.declared.ledger.Edit.{Edit}
use Rattle.rvalue.specs.declared.ledger.Edit.TheVariants as edit
use Rattle.rtrace_form.specs.Heads.{Head, cap_or}
use Rattle.rtrace_form.specs.Lines.{Line, Happens, Does, BecomesEntitled, BecomesSatisfied, Grants, Waits, event_word, act_word}
use Rattle.rtrace_form.specs.Reports.{Entry, lock_after, change_lines, status_lines, grant_line, wait_line, wait_lines, due_lines, entry_lines, history_lines, IsRightEntry}
use Rattle.rtrace_form.specs.Waits.{ended_in, no_bounds}
use Rattle.rtrace_form.specs.Events.{refusal_in}
use Rattle.rtrace_form.specs.SoFar.{SoFar, lock_in, with_line, event_place, bare, stands, at_ledgers}
use Rattle.rtrace_form.specs.Faults.{is_change, is_change_due, is_group_more, is_same_line}
use Rattle.rtrace_form.specs.declared.fault.Refusal.{Refusal}
use Rattle.rtrace_form.proofs.facts.Coming.{accepted_free}
use Rattle.rtrace_form.proofs.facts.Fine.{IsFine}
use Rattle.rtrace_form.proofs.lists.RightActs.{right_at, right_stands}
use Rattle.rtrace_form.proofs.lists.SameLines.{change_itself}
use Rattle.rtrace_form.proofs.forth.Stands.{IsNext}
use Rattle.rtrace_form.proofs.back.Runs.{Runs, runs_none, runs_on, runs_both, last_place, last_again}
use Rattle.rtrace_form.proofs.back.FineLines.{plain_fine, follows, and_false}

-- ---- what is due

all_both : {X : Type 0} (P : X → Type 0) (xs ys : List X) → AllByRecursion P xs → AllByRecursion P ys → AllByRecursion P (xs ++ ys)
all_both P [] ys a b = b
all_both P (x ∷ xs) ys a b = (a.0, all_both P xs ys a.1 b)

abbrev AreChanges : List Line → Type 0
AreChanges lines = AllByRecursion (λ line. is_change line ≡ true) lines

status_are : (seat : ℕ) (half : Bool) (status : Status) → AreChanges (status_lines seat half status)
status_are seat half Waiting = tt
status_are seat half Entitled = (refl, tt)
status_are seat half Satisfied = (refl, tt)

statuses_are : (changes : List StatusChange) → AreChanges (flat_map (λ (c : StatusChange). status_lines c.seat c.write_half c.status) changes)
statuses_are [] = tt
statuses_are (c ∷ changes) = all_both _ (status_lines c.seat c.write_half c.status) _ (status_are c.seat c.write_half c.status) (statuses_are changes)

grants_are : (changes : List GrantChange) → AreChanges (map grant_line changes)
grants_are [] = tt
grants_are (c ∷ changes) = (refl, grants_are changes)

changes_are : (whole : Bool) (s : LockState) (e : Event) → AreChanges (change_lines whole s e)
unfolding change_lines
changes_are true s e =
    let changes : ChangeLists = changes_between s (next s e) in
    all_both _ (flat_map (λ (c : StatusChange). status_lines c.seat c.write_half c.status) changes.statuses) (map grant_line changes.grants) (statuses_are changes.statuses) (grants_are changes.grants)
changes_are false s e = tt

waits_are : (ws : List WaitEnd) → AreChanges (map (wait_line no_bounds) ws)
waits_are [] = tt
waits_are (w ∷ ws) = (refl, waits_are ws)

waits_due : (whole : Bool) (head : Head) (earlier : List Entry) (e : Event) → AreChanges (wait_lines whole no_bounds head earlier e)
unfolding wait_lines
waits_due true head earlier e = waits_are (ended_in head earlier e)
waits_due false head earlier e = tt

dues_are : (whole : Bool) (head : Head) (earlier : List Entry) (e : Event) → AreChanges (due_lines whole no_bounds head earlier e)
dues_are whole head earlier e =
    all_both _ (change_lines whole (lock_after head earlier) e) (wait_lines whole no_bounds head earlier e) (changes_are whole (lock_after head earlier) e) (waits_due whole head earlier e)

-- ---- where lines of entries may come

event_stands : (e : Event) (p : ℕ) → 4 ≤ p → p ≤ 7 → ((stands (event_word e)).least ≤ p) × (p ≤ (stands (event_word e)).most)
event_stands (event.Issue seat r) p low high = (low, high)
event_stands (event.Finish seat) p low high = (low, high)
event_stands (event.Rise seat) p low high = (low, high)
event_stands (event.Ask seat part) p low high = (low, high)

event_room : (s : SoFar) (e : Event) → is_group_more s (event_word e) ≡ false
event_room s (event.Issue seat r) = refl
event_room s (event.Finish seat) = refl
event_room s (event.Rise seat) = refl
event_room s (event.Ask seat part) = refl

act_stands : (act : Act Edit) → ((stands (act_word act)).least ≤ 6) × (6 ≤ (stands (act_word act)).most)
act_stands (Shown place number) = (omega arith, omega arith)
act_stands (Edited place (edit.Add n) done) = (omega arith, omega arith)
act_stands (Edited place (edit.Take n) done) = (omega arith, omega arith)
act_stands (Edited place (edit.Set n) done) = (omega arith, omega arith)

act_room : (s : SoFar) (act : Act Edit) → is_group_more s (act_word act) ≡ false
act_room s (Shown place number) = refl
act_room s (Edited place (edit.Add n) done) = refl
act_room s (Edited place (edit.Take n) done) = refl
act_room s (Edited place (edit.Set n) done) = refl

-- acts come only with events that they may follow
acts_place : (e : Event) (act : Act Edit) → stands_with e act ≡ true → event_place e ≡ 6
acts_place (event.Finish seat) act h = refl
acts_place (event.Rise seat) act h = refl
acts_place (event.Issue seat r) act h = absurd (true≢false (sym h))
acts_place (event.Ask seat part) act h = absurd (true≢false (sym h))

event_place_within : (e : Event) → (6 ≤ event_place e) × (event_place e ≤ 7)
event_place_within (event.Issue seat r) = (omega arith, omega arith)
event_place_within (event.Finish seat) = (omega arith, omega arith)
event_place_within (event.Rise seat) = (omega arith, omega arith)
event_place_within (event.Ask seat part) = (omega arith, omega arith)

place_within : {X : Type 0} (p own : ℕ) (xs : List X) → 6 ≤ p → p ≤ 7 → 6 ≤ own → own ≤ 7 → (6 ≤ last_place p own xs) × (last_place p own xs ≤ 7)
place_within p own [] a b c d = (a, b)
place_within p own (x ∷ xs) a b c d = (c, d)

none_either : (b : Bool) (o : Option Refusal) → o ≡ None → cond b None o ≡ None
none_either true o h = refl
none_either false o h = h

module _ (whole : Bool) (rs : List (List ℕ)) (gs : List Set) (ts : List (List ℕ)) (told : Option ℕ) where
  -- the head that these declare
  abbrev pub head_of : Head
  head_of = record { resources = rs; groups = gs; tasks = ts; cap = cap_or ts told }

  -- what is said after that head
  abbrev pub living : ℕ → List Entry → Option Entry → List Line → SoFar
  living place earlier latest due = record { last = place; resources = rs; groups = gs; tasks = ts; cap = told; earlier = earlier; latest = latest; due = due }

  act_fine : (done : List Entry) (entry : Entry) (due : List Line) (before after : List (Act Edit)) (act : Act Edit) → IsRightEntry head_of done entry → entry.acts ≡ before ++ act ∷ after
      → IsFine whole (living 6 done (Some (record { event = entry.event; acts = before })) due) (Does act)
  act_fine done entry due before after act right are =
      let s = living 6 done (Some (record { event = entry.event; acts = before })) due in
      record {
        declared = refl;
        placed = follows whole s (Does act) (act_stands act).0 (act_stands act).1 refl;
        accepted = refl;
        change = and_false (is_change_due s);
        act = ap not (right_at head_of done entry before after act right are);
        ledger = refl;
      }

  acts_run : (done : List Entry) (entry : Entry) (due : List Line) → IsRightEntry head_of done entry → (p : ℕ) (before after : List (Act Edit))
      → ((act : Act Edit) → stands_with entry.event act ≡ true → p ≡ 6) → entry.acts ≡ before ++ after
      → Runs whole (living p done (Some (record { event = entry.event; acts = before })) due) (map Does after) (living (last_place p 6 after) done (Some entry) due)
  acts_run done entry due right p before [] six are =
      let all : before ≡ entry.acts = sym (are ∙ append-nil before) in
      subst (λ (acts : List (Act Edit)). Runs whole (living p done (Some (record { event = entry.event; acts = before })) due) [] (living p done (Some (record { event = entry.event; acts = acts })) due)) all
      (runs_none whole (living p done (Some (record { event = entry.event; acts = before })) due))
  acts_run done entry due right p before (act ∷ after) six are =
      let s = living 6 done (Some (record { event = entry.event; acts = before })) due in
      let u = living 6 done (Some (record { event = entry.event; acts = before ++ act ∷ [] })) due in
      let t = living 6 done (Some entry) due in
      let rest = acts_run done entry due right 6 (before ++ act ∷ []) after (λ _ _. refl) (are ∙ sym (append_assoc before (act ∷ []) after)) in
      let place = six act (right_stands head_of done entry before after act right are) in
      subst (λ n. Runs whole (living n done (Some (record { event = entry.event; acts = before })) due) (map Does (act ∷ after)) t) (sym place)
      (runs_on whole s u t (Does act) (map Does after) (record { room = act_room s act; fine = act_fine done entry due before after act right are; comes = λ _. tt }) refl
      (subst (λ n. Runs whole u (map Does after) (living n done (Some entry) due)) (last_again 6 after) rest))

  change_fine : (p : ℕ) (done : List Entry) (latest : Option Entry) (line : Line) (due : List Line) → p ≤ 7 → is_change line ≡ true
      → IsFine whole (living p done latest (line ∷ due)) line
  change_fine p done latest line due high change = fine_at line (change_itself line change) change
    where
      early : (nat_lt p at_ledgers && true) ≡ true
      early = ap (λ b. b && true) (lt-ltb p 8 (omega (arith, high)))

      unplaced : (b : Bool) → (b && not (nat_lt p at_ledgers && true)) ≡ false
      unplaced b = ap (λ c. b && not c) early ∙ and_false b

      due_now : (b : Bool) → b ≡ true → not ((nat_lt p at_ledgers && true) && b) ≡ false
      due_now b h = (λ i. not (early i && h i))

      fine_at : (l : Line) → is_same_line l l ≡ true → is_change l ≡ true → IsFine whole (living p done latest (l ∷ due)) l
      fine_at (BecomesEntitled seat half) same c = record { declared = refl; placed = unplaced _; accepted = refl; change = due_now _ same; act = refl; ledger = refl }
      fine_at (BecomesSatisfied seat half) same c = record { declared = refl; placed = unplaced _; accepted = refl; change = due_now _ same; act = refl; ledger = refl }
      fine_at (Waits seat which cover bound) same c = record { declared = refl; placed = unplaced _; accepted = refl; change = due_now _ same; act = refl; ledger = refl }
      fine_at (Grants seat set) same c = record { declared = refl; placed = unplaced _; accepted = refl; change = due_now _ same; act = refl; ledger = refl }
      fine_at _ same c = absurd (true≢false (sym c))

  change_next : (p : ℕ) (done : List Entry) (latest : Option Entry) (due : List Line) (line : Line) → is_change line ≡ true → IsFine whole (living p done latest (line ∷ due)) line
      → IsNext whole (living p done latest (line ∷ due)) line × (with_line whole (living p done latest (line ∷ due)) line ≡ living 7 done latest due)
  change_next p done latest due (BecomesEntitled seat half) change fine = (record { room = refl; fine = fine; comes = λ _. tt }, refl)
  change_next p done latest due (BecomesSatisfied seat half) change fine = (record { room = refl; fine = fine; comes = λ _. tt }, refl)
  change_next p done latest due (Waits seat which cover bound) change fine = (record { room = refl; fine = fine; comes = λ _. tt }, refl)
  change_next p done latest due (Grants seat set) change fine = (record { room = refl; fine = fine; comes = λ _. tt }, refl)
  change_next p done latest due _ change fine = absurd (true≢false (sym change))

  changes_run : (done : List Entry) (latest : Option Entry) (p : ℕ) (due : List Line) → p ≤ 7 → AreChanges due
      → Runs whole (living p done latest due) due (living (last_place p 7 due) done latest [])
  changes_run done latest p [] high all = runs_none whole (living p done latest [])
  changes_run done latest p (line ∷ due) high all =
      let one = change_next p done latest due line all.0 (change_fine p done latest line due high all.0) in
      let rest = changes_run done latest 7 due (omega arith) all.1 in
      runs_on whole (living p done latest (line ∷ due)) (living 7 done latest due) (living 7 done latest []) line due one.0 one.1
      (subst (λ n. Runs whole (living 7 done latest due) due (living n done latest [])) (last_again 7 due) rest)

  -- the lines of an entry
  entry_run : (p : ℕ) (earlier : List Entry) (latest : Option Entry) (entry : Entry) → 4 ≤ p → p ≤ 7 → IsRightEntry head_of (earlier ++ option_to_list latest) entry
      → (q : ℕ) × (6 ≤ q) × (q ≤ 7) × Runs whole (living p earlier latest []) (entry_lines whole no_bounds head_of (earlier ++ option_to_list latest) entry) (living q (earlier ++ option_to_list latest) (Some entry) [])
  entry_run p earlier latest entry low high right =
      let done = earlier ++ option_to_list latest in
      let s = living p earlier latest [] in
      let e = entry.event in
      let changes = due_lines whole no_bounds head_of done e in
      let at = event_stands e p low high in
      let free : refusal_in (lock_in s) e ≡ None = accepted_free (lock_after head_of done) e right.comes in
      let fine = plain_fine whole s (Happens e) refl refl at.0 at.1 refl refl (none_either (is_change_due s) (refusal_in (lock_in s) e) free) refl refl in
      let place = event_place_within e in
      let q = last_place (event_place e) 6 entry.acts in
      let mid = place_within (event_place e) 6 entry.acts place.0 place.1 (omega arith) (omega arith) in
      let end = last_place q 7 changes in
      let last = place_within q 7 changes mid.0 mid.1 (omega arith) (omega arith) in
      let a = acts_run done entry changes right (event_place e) [] entry.acts (acts_place e) refl in
      let c = changes_run done (Some entry) q changes mid.1 (dues_are whole head_of done e) in (
        end,
        last.0,
        last.1,
        runs_on whole s (living (event_place e) done (Some (bare e)) changes) (living end done (Some entry) []) (Happens e) (map Does entry.acts ++ changes)
            (record { room = event_room s e; fine = fine; comes = λ _ _. right.comes }) refl
            (runs_both whole (living (event_place e) done (Some (bare e)) changes) (living q done (Some entry) changes) (living end done (Some entry) []) (map Does entry.acts) changes a c),
      )

  -- these lines lead to after these entries
  pub record Reaches (s : SoFar) (lines : List Line) (entries : List Entry) : Type 0 where
    pub place : ℕ
    pub earlier : List Entry
    pub latest : Option Entry
    pub low : 4 ≤ place
    pub high : place ≤ 7
    pub all : earlier ++ option_to_list latest ≡ entries
    pub runs : Runs whole s lines (living place earlier latest [])

  pub entries_run : (p : ℕ) (earlier : List Entry) (latest : Option Entry) (entries : List Entry) → 4 ≤ p → p ≤ 7 → AllInTurn (IsRightEntry head_of) (earlier ++ option_to_list latest) entries
      → Reaches (living p earlier latest []) (history_lines whole no_bounds head_of (earlier ++ option_to_list latest) entries) ((earlier ++ option_to_list latest) ++ entries)
  unfolding history_lines
  entries_run p earlier latest [] low high lawful = record {
    place = p;
    earlier = earlier;
    latest = latest;
    low = low;
    high = high;
    all = sym (append-nil (earlier ++ option_to_list latest));
    runs = runs_none whole (living p earlier latest []);
  }
  entries_run p earlier latest (entry ∷ entries) low high lawful =
      let done = earlier ++ option_to_list latest in
      let one = entry_run p earlier latest entry low high lawful.0 in
      let rest = entries_run one.0 done (Some entry) entries (omega (arith, one.1)) one.2 lawful.1 in
      record {
        place = rest.place;
        earlier = rest.earlier;
        latest = rest.latest;
        low = rest.low;
        high = rest.high;
        all = rest.all ∙ append_assoc done (entry ∷ []) entries;
        runs = runs_both whole (living p earlier latest []) (living one.0 done (Some entry) []) (living rest.place rest.earlier rest.latest []) (entry_lines whole no_bounds head_of done entry)
            (history_lines whole no_bounds head_of (done ++ entry ∷ []) entries) one.3 rest.runs;
      }
