-- What the reader knows after one more line that adds nothing to the entries.
use Rattle.std.proofs.Common.{◌≡◌, ℕ, ◌+◌, ◌≤◌, Bool, true, false, not, ◌&&◌, cond, nat_lt, List, [], drop, Option, Some, None, ◌++◌, ◌∷◌, ◌<◌, refl, sym, ap, subst, ◌∙◌, arith, true≢false, add-one, ◌⊎◌, inl, inr}
use Rattle.std.proofs.lemmas.Bool.{and_parts, le-ltb, ltb-true, lt-ltb}
use Rattle.std.proofs.lemmas.List.{map-append}
use Rattle.std.specs.Prelude.{option_to_list, IsSome}
use Rattle.rplain.specs.Machine.{Standing}
use Rattle.rcover_laws.specs.declared.wait_end.WaitEnd.{WaitEnd}
use Rattle.rcover.specs.Follows.{Follows}
use Rattle.rcover.specs.Past.{Past, AreLastEnded}
use Rattle.rcover.specs.declared.following.Following.{Following}
use Rattle.rtrace_form.specs.Heads.{Head, is_nil, read_groups}
use Rattle.rset.specs.Sets.{Set}
use Rattle.rclaim.specs.declared.changes.StatusChange.{StatusChange}
use Rattle.rtrace_form.specs.Lines.{Line, Grants}
use Rattle.rtrace_form.specs.Reports.{Entry, ledger_lines, status_line}
use Rattle.rtrace_form.specs.Waits.{events_of, ended_in}
use Rattle.rtrace_form.specs.SoFar.{SoFar, head_in, entries_in, with_line, at_ledgers, at_groups}
use Rattle.rtrace_form.specs.Faults.{line_code, is_change, is_change_due, is_first}
use Rattle.std.proofs.Math.Seq.{drop-nil}
use Rattle.rtrace_form.proofs.facts.Choices.{some_is, some_none}
use Rattle.rtrace_form.proofs.lists.Places.{up_to_five}
use Rattle.rtrace_read.specs.declared.reading.ReportReader.{ReportReader}
use Rattle.rtrace_read.specs.Due.{change_list, due_list}
use Rattle.rtrace_read.specs.Knows.{Knows, known_groups, due_left, changes_in, ended_at, last_ended, past_in, StandBehind}
use Rattle.rtrace_read.proofs.DueLines.{drop_one, status_before_waits, grant_before_waits}
use Rattle.rtrace_read.proofs.Codes.{change_right, with_change}

-- the place after the head, where the groups are known
pub groups_on : (whole : Bool) (old : ReportReader) (s : SoFar) → Knows whole old s → 4 ≤ s.last → (place : ℕ) → 4 ≤ place → (known_groups s ≡ known_groups (record s { last = place }))
groups_on whole old s h low place high = ap (λ b. cond b None (Some (read_groups (head_in s)))) (le-ltb s.last at_groups (omega (arith, low)) ∙ sym (le-ltb place at_groups (omega (arith, high))))

-- a line after the head that adds nothing to the entries
pub still : (whole : Bool) (old : ReportReader) (s : SoFar) (place told : ℕ) (due : List Line) → Knows whole old s → 4 ≤ s.last → 7 ≤ place → place ≤ 9
    → (whole ≡ false → told ≡ 0)
    → (place ≤ 7 → due ≡ due_left whole told (due_list (changes_in old.machine) (last_ended s)))
    → (place ≡ 8 → due ≡ drop told (ledger_lines whole (head_in s) (entries_in s)))
    → Knows whole (record old { last = place; told = told }) (record s { last = place; due = due })
still whole old s place told due h low high most untold changes left = record {
  kind = h.kind;
  last = refl;
  most = most;
  resources = h.resources;
  tasks = h.tasks;
  cap = h.cap;
  capped = h.capped;
  groups = h.groups ∙ groups_on whole old s h low place (omega (arith, high));
  no_groups = λ e. absurd (omega (arith, e, high));
  some_resource = λ _. h.some_resource (omega (arith, low));
  some_task = λ _. h.some_task low;
  idle = λ e. absurd (omega (arith, e, high));
  untold = untold;
  lock = h.lock;
  stand = h.stand;
  due = changes;
  changes = h.changes;
  active = h.active;
  ledgers = record { many = h.ledgers.many; each = h.ledgers.each };
  acts = λ _ e. absurd (omega (arith, e, high));
  left = left;
}

-- where a change is due, there was an event
none_early : (whole : Bool) (told : ℕ) (machine : Option Standing) (head : Head) (earlier : List Entry) (latest : Option Entry) → machine ≡ None → latest ≡ None → told ≡ 0
    → due_left whole told (due_list (changes_in machine) (ended_at head earlier latest)) ≡ []
none_early true told machine head earlier latest none never zero = λ i. drop (zero i) (due_list (changes_in (none i)) (ended_at head earlier (never i)))
none_early false told machine head earlier latest none never zero = refl

pub due_late : (whole : Bool) (old : ReportReader) (s : SoFar) → Knows whole old s → is_change_due s ≡ true → (6 ≤ s.last) × (s.last ≤ 7)
due_late whole old s h due = at (up_to_five s.last)
  where
    parts : (nat_lt s.last at_ledgers ≡ true) × (not (is_nil s.due) ≡ true)
    parts = and_parts (nat_lt s.last at_ledgers) (not (is_nil s.due)) due

    early : s.last ≤ 7
    early = let below = ltb-true s.last 8 parts.0 in omega (arith, below)

    at : (s.last ≤ 5) ⊎ (6 ≤ s.last) → (6 ≤ s.last) × (s.last ≤ 7)
    at (inl low) =
        let idle = h.idle low in
        absurd (true≢false (sym parts.1 ∙ ap (λ (xs : List Line). not (is_nil xs)) (h.due early ∙ none_early whole old.told old.machine (head_in s) s.earlier s.latest idle.0 idle.2 idle.3)))
    at (inr high) = (high, early)

-- an event list has no line that is due
list_undue : (whole : Bool) (old : ReportReader) (s : SoFar) → Knows whole old s → is_change_due s ≡ true → whole ≡ false → ⊥
list_undue whole old s h due list =
    let parts = and_parts (nat_lt s.last at_ledgers) (not (is_nil s.due)) due in
    true≢false (sym parts.1 ∙ ap (λ (xs : List Line). not (is_nil xs)) (h.due (due_late whole old s h due).1 ∙ ap (λ w. due_left w old.told (due_list (changes_in old.machine) (last_ended s))) list))

due_more : (whole : Bool) (told : ℕ) (lines : List Line) → drop 1 (due_left whole told lines) ≡ due_left whole (told + 1) lines
due_more true told lines = drop_one lines told ∙ ap (λ n. drop n lines) (sym (add-one told))
due_more false told lines = refl

-- the change that is due was given
pub change_taken : (whole : Bool) (old : ReportReader) (s : SoFar) (line : Line) → Knows whole old s → is_change line ≡ true → (is_change_due s && is_first s.due line) ≡ true
    → (line_code whole s line ≡ None) × Knows whole (record old { told = old.told + 1; last = 7 }) (with_line whole s line)
change_taken whole old s line h change right =
    let due = (and_parts (is_change_due s) (is_first s.due line) right).0 in
    let at = due_late whole old s h due in (
      change_right whole s line change (omega (arith, at.1)) right,
      subst (λ (t : SoFar). Knows whole (record old { told = old.told + 1; last = 7 }) t) (sym (with_change whole s line change))
          (still whole old s 7 (old.told + 1) (drop 1 s.due) h (omega (arith, at.0)) (omega arith) (omega arith)
          (λ list. absurd (list_undue whole old s h due list))
          (λ _. ap (λ (xs : List Line). drop 1 xs) (h.due at.1) ∙ due_more whole old.told (due_list (changes_in old.machine) (last_ended s))) (λ e. absurd (omega (arith, e)))),
    )

-- ---- a machine and a follower

-- a follower that is there follows the events so far
pub follows_is : (machine : Option Standing) (o : Option Following) (latest : Option Entry) (p : Past) (f : Following) → StandBehind machine o latest p → o ≡ Some f → IsSome latest × Follows f p
follows_is None None latest p f h is = absurd (some_none is)
follows_is (Some m) None latest p f h is = absurd h
follows_is None (Some g) latest p f h is = absurd h
follows_is (Some m) (Some g) latest p f h is = (h.0, subst (λ (x : Following). Follows x p) (some_is is) h.1)

-- where there is no machine nothing is followed, and nothing has happened
pub none_behind : (machine : Option Standing) (o : Option Following) (latest : Option Entry) (p : Past) → StandBehind machine o latest p → machine ≡ None → (o ≡ None) × (latest ≡ None) × (p.events ≡ [])
none_behind None None latest p h none = (refl, h.0, h.1)
none_behind (Some m) o latest p h none = absurd (some_none (sym none))
none_behind None (Some g) latest p h none = absurd h

pub events_push : (earlier : List Entry) (x : Entry) → events_of (earlier ++ x ∷ []) ≡ events_of earlier ++ x.event ∷ []
events_push earlier x = map-append (λ (z : Entry). z.event) earlier (x ∷ [])

module _ (whole : Bool) (old : ReportReader) (s : SoFar) (h : Knows whole old s) where
  -- the waits that a follower answers are those that the latest event ended
  pub ended_is : (f : Following) (ends : List WaitEnd) → old.following ≡ Some f → ((p : Past) → Follows f p → AreLastEnded p ends) → ends ≡ last_ended s
  unfolding ended_in
  ended_is f ends is answers = let behind = follows_is old.machine old.following s.latest (past_in s) f h.stand is in at s.latest refl behind.0 (answers (past_in s) behind.1)
    where
      at : (latest : Option Entry) → s.latest ≡ latest → IsSome latest → AreLastEnded (past_in s) ends → ends ≡ ended_at (head_in s) s.earlier s.latest
      at None same some ended = absurd (true≢false (sym some))
      at (Some entry) same some ended =
          ended (events_of s.earlier) entry.event (ap (λ (l : Option Entry). events_of (s.earlier ++ option_to_list l)) same ∙ events_push s.earlier entry)
          ∙ ap (ended_at (head_in s) s.earlier) (sym same)

  -- what is due with a machine that is there
  pub due_beside : (machine : Standing) → old.machine ≡ Some machine → old.whole ≡ true → old.last < 8 → s.due ≡ drop old.told (due_list machine.last (last_ended s))
  due_beside machine is report low =
      let last = h.last in
      h.due (omega (arith, last, low)) ∙ (λ i. due_left ((sym h.kind ∙ report) i) old.told (due_list (changes_in (is i)) (last_ended s)))

  early_due : old.last < 8 → (lines : List Line) → s.due ≡ lines → is_change_due s ≡ not (is_nil lines)
  early_due low lines is = let last = h.last in (λ i. lt-ltb s.last at_ledgers (omega (arith, last, low)) i && not (is_nil (is i)))

  pub change_due_is : (machine : Standing) (f : Following) (ends : List WaitEnd) → old.machine ≡ Some machine → old.following ≡ Some f → old.whole ≡ true → old.last < 8 → ((p : Past) → Follows f p → AreLastEnded p ends)
      → is_change_due s ≡ not (is_nil (drop old.told (due_list machine.last ends)))
  change_due_is machine f ends is follower report low answers =
      early_due low (drop old.told (due_list machine.last ends)) (due_beside machine is report low ∙ ap (λ ws. drop old.told (due_list machine.last ws)) (sym (ended_is f ends follower answers)))

  first_is : (xs : List Line) (line : Line) → (not (is_nil xs) && is_first xs line) ≡ is_first xs line
  first_is [] line = refl
  first_is (x ∷ xs) line = refl

  pub line_due_is : (lines : List Line) (line : Line) → old.last < 8 → s.due ≡ lines → (is_change_due s && is_first s.due line) ≡ is_first lines line
  line_due_is lines line low is = (λ i. early_due low lines is i && is_first (is i) line) ∙ first_is lines line

  -- where there is no machine, or no follower, nothing is due
  pub none_due : old.last < 8 → old.machine ≡ None → is_change_due s ≡ false
  none_due low none =
      let last = h.last in
      let never = none_behind old.machine old.following s.latest (past_in s) h.stand none in
      early_due low [] (h.due (omega (arith, last, low)) ∙ none_told whole never.1)
    where
      none_told : (w : Bool) → s.latest ≡ None → due_left w old.told (due_list (changes_in old.machine) (last_ended s)) ≡ []
      none_told true never = (λ i. drop old.told (due_list (changes_in (none i)) (ended_at (head_in s) s.earlier (never i)))) ∙ drop-nil old.told
      none_told false never = refl

  -- the tests of lines, by the reader's machine and follower
  module _ (machine : Standing) (is : old.machine ≡ Some machine) (report : old.whole ≡ true) (low : old.last < 8) where
    pub status_due_is : (c : StatusChange) → is_first (drop old.told (change_list machine.last)) (status_line c) ≡ (is_change_due s && is_first s.due (status_line c))
    status_due_is c =
        sym (status_before_waits machine.last (last_ended s) c old.told)
        ∙ sym (line_due_is (drop old.told (due_list machine.last (last_ended s))) (status_line c) low (due_beside machine is report low))

    pub grant_due_is : (seat : ℕ) (set : Set) → is_first (drop old.told (change_list machine.last)) (Grants seat set) ≡ (is_change_due s && is_first s.due (Grants seat set))
    grant_due_is seat set =
        sym (grant_before_waits machine.last (last_ended s) seat set old.told)
        ∙ sym (line_due_is (drop old.told (due_list machine.last (last_ended s))) (Grants seat set) low (due_beside machine is report low))

    pub wait_due_is : (f : Following) (ends : List WaitEnd) (line : Line) → old.following ≡ Some f → ((p : Past) → Follows f p → AreLastEnded p ends)
        → is_first (drop old.told (due_list machine.last ends)) line ≡ (is_change_due s && is_first s.due line)
    wait_due_is f ends line follower answers =
        sym (line_due_is (drop old.told (due_list machine.last ends)) line low
        (due_beside machine is report low ∙ ap (λ ws. drop old.told (due_list machine.last ws)) (sym (ended_is f ends follower answers))))
