-- The head, line by line.
use Rattle.std.proofs.Common.{◌≡◌, ℕ, zero, suc, ◌≤◌, ◌<◌, ◌==◌, Bool, true, false, ◌&&◌, cond, nat_le, nat_lt, List, [], ◌∷◌, ◌++◌, length, Option, Some, None, refl, sym, ap, subst, ◌∙◌, ◌↔◌, arith, IsTrue, true≢false, length-append}
use Rattle.std.specs.Prelude.{option_to_list, slice_get, unwrap_or, IfSome}
use Rattle.std.specs.Ordering.{nat_cmp}
use Rattle.std.specs.FinSet.{empty, len, empty_of_len, len-empty}
use Rattle.std.proofs.lemmas.Bool.{le-ltb, lt-ltb, ltb-true, eqb-true}
use Rattle.rset.specs.Sets.{Set}
use Rattle.rset.specs.declared.TheConstants.{RESOURCES, SEATS}
use Rattle.rmodel.specs.Changes.{AreActive}
use Rattle.rvalue.specs.Ledgers.{opening_ledger}
use Rattle.rvalue.specs.declared.ledger.Ledger.{Ledger}
use Rattle.rplain.specs.Machine.{Standing}
use Rattle.rcover.specs.declared.following.Following.{Following}
use Rattle.rtrace_form.specs.Heads.{Head, read_groups, is_bad_name}
use Rattle.rtrace_form.specs.Waits.{events_of}
use Rattle.rtrace_form.specs.Lines.{Line, Opens, HasResource, HasGroup, HasTask, HasCap}
use Rattle.rtrace_form.specs.Reports.{Entry, lock_after, ledger_after}
use Rattle.rtrace_form.specs.Walks.{first_of}
use Rattle.rtrace_form.specs.SoFar.{SoFar, at_groups, head_in, entries_in, with_line}
use Rattle.rtrace_form.specs.Faults.{line_code, is_change_due}
use Rattle.rtrace_form.specs.declared.fault.Code.{Code}
use Rattle.rtrace_form.proofs.facts.Choices.{some_none}
use Rattle.rtrace_read.specs.declared.reading.ReportReader.{ReportReader}
use Rattle.rtrace_read.specs.Due.{due_list}
use Rattle.rtrace_read.specs.Knows.{Knows, known_groups, state_in, due_left, changes_in, ended_at, past_in, StandBehind}
use Rattle.rtrace_read.proofs.Steps.{none_behind}
use Rattle.rexpand.specs.Groups.{ReadGroups}
use Rattle.rtrace_read.specs.LineTakes.{place_code, AreMade, groups_over}
use Rattle.rtrace_read.proofs.Codes.{plain_causes, place_code_is, placed, no_plain_code, follows_both}

-- ---- what comes after the head

pub behind_head : (whole : Bool) (old : ReportReader) (s : SoFar) → Knows whole old s → place_code s 4 7 ≡ None → 4 ≤ s.last
behind_head whole old s h here = (follows_both 4 s.last 7 (placed (is_change_due s) (nat_le 4 s.last && nat_le s.last 7) here).1).0

pub groups_there : (whole : Bool) (old : ReportReader) (s : SoFar) → Knows whole old s → 4 ≤ s.last → old.groups ≡ None → ⊥
groups_there whole old s h low none =
    some_none (sym none ∙ h.groups ∙ ap (λ b. cond b None (Some (read_groups (head_in s)))) (le-ltb s.last at_groups (omega (arith, low))))

pub cap_fits : (o : Option ℕ) (n : ℕ) → IfSome o (λ m. (1 ≤ m) × (m ≤ SEATS)) → 1 ≤ n → n ≤ SEATS → (1 ≤ unwrap_or o n) × (unwrap_or o n ≤ SEATS)
cap_fits None n h low high = (low, high)
cap_fits (Some m) n h low high = h

-- the groups that are there, or that are made over all resources
pub groups_made : (whole : Bool) (old : ReportReader) (s : SoFar) (q : ℕ) (new : Option ReadGroups) → Knows whole old s → 2 ≤ s.last → q ≡ length s.resources → AreMade q old.groups new → new ≡ Some (read_groups (head_in s))
groups_made whole old s q new h low same made = at (nat_lt s.last at_groups) refl (subst (λ (o : Option ReadGroups). AreMade q o new) h.groups made)
  where
    at : (b : Bool) → nat_lt s.last at_groups ≡ b → AreMade q (cond b None (Some (read_groups (head_in s)))) new → new ≡ Some (read_groups (head_in s))
    at true e m =
        let early = ltb-true s.last at_groups e in
        let some = h.some_resource low in
        m (omega (arith, same, some)) ∙ (λ i. Some (record { q = same i; groups = sym (h.no_groups (omega (arith, early))) i }))
    at false e m = m

-- the groups that are there, or none over all resources, are those that are made
pub over_made : (q : ℕ) (old : Option ReadGroups) → AreMade q old (Some (groups_over q old))
over_made q (Some old) = refl
over_made q None = λ _. refl

-- ---- inside the head nothing has happened

pub record Begins (whole : Bool) (reading : ReportReader) (s : SoFar) : Type 0 where
  pub kind : reading.whole ≡ whole
  pub last : reading.last ≡ s.last
  pub most : s.last ≤ 5
  pub resources : reading.resources ≡ s.resources
  pub tasks : reading.tasks ≡ s.tasks
  pub cap : reading.cap ≡ s.cap
  pub capped : IfSome s.cap (λ n. (1 ≤ n) × (n ≤ SEATS))
  pub groups : reading.groups ≡ known_groups s
  pub no_groups : s.last ≤ 2 → s.groups ≡ []
  pub some_resource : 2 ≤ s.last → 0 < length s.resources
  pub some_task : 4 ≤ s.last → 0 < length s.tasks
  pub machine : reading.machine ≡ None
  pub following : reading.following ≡ None
  pub earlier : s.earlier ≡ []
  pub latest : s.latest ≡ None
  pub told : reading.told ≡ 0
  pub shown : reading.shown ≡ empty
  pub edited : reading.edited ≡ empty
  pub due : s.due ≡ []
  pub many : length reading.ledgers.items ≡ length s.resources
  pub each : (l : ℕ) → l < length s.resources → slice_get reading.ledgers.items l ≡ Some opening_ledger

none_due : (whole : Bool) (head : Head) (earlier : List Entry) → due_left whole 0 (due_list (changes_in None) (ended_at head earlier None)) ≡ []
none_due true head earlier = refl
none_due false head earlier = refl

pub begun : (whole : Bool) (reading : ReportReader) (s : SoFar) → Begins whole reading s → Knows whole reading s
begun whole reading s b =
    let none : entries_in s ≡ [] = λ i. b.earlier i ++ option_to_list (b.latest i) in
    let most = b.most in
    record {
      kind = b.kind;
      last = b.last;
      most = omega (arith, most);
      resources = b.resources;
      tasks = b.tasks;
      cap = b.cap;
      capped = b.capped;
      groups = b.groups;
      no_groups = b.no_groups;
      some_resource = b.some_resource;
      some_task = b.some_task;
      idle = λ _. (b.machine, b.earlier, b.latest, b.told, b.shown, b.edited);
      untold = λ _. b.told;
      lock = ap (state_in s) b.machine ∙ ap (lock_after (head_in s)) (sym none);
      stand = subst (λ (m : Option Standing). StandBehind m reading.following s.latest (past_in s)) (sym b.machine)
          (subst (λ (f : Option Following). StandBehind None f s.latest (past_in s)) (sym b.following) (b.latest, ap (λ xs. events_of xs) none));
      due = λ _. b.due ∙ sym (none_due whole (head_in s) s.earlier) ∙ (λ i. due_left whole (sym b.told i) (due_list (changes_in (sym b.machine i)) (ended_at (head_in s) s.earlier (sym b.latest i))));
      changes = λ entry same. absurd (some_none (sym b.latest ∙ same));
      active = subst (λ m. AreActive (changes_in m).statuses) (sym b.machine) tt;
      ledgers = record { many = b.many; each = λ l small. b.each l small ∙ ap (λ (xs : List Entry). Some (ledger_after xs l)) (sym none) };
      acts = λ _ six. absurd (omega (arith, six, most));
      left = λ eight. absurd (omega (arith, eight, most));
    }

pub begins : (whole : Bool) (reading : ReportReader) (s : SoFar) → Knows whole reading s → s.last ≤ 5 → Begins whole reading s
begins whole reading s h low =
    let idle = h.idle low in
    let none : entries_in s ≡ [] = λ i. idle.1 i ++ option_to_list (idle.2 i) in
    record {
      kind = h.kind;
      last = h.last;
      most = low;
      resources = h.resources;
      tasks = h.tasks;
      cap = h.cap;
      capped = h.capped;
      groups = h.groups;
      no_groups = h.no_groups;
      some_resource = h.some_resource;
      some_task = h.some_task;
      machine = idle.0;
      following = (none_behind reading.machine reading.following s.latest (past_in s) h.stand idle.0).0;
      earlier = idle.1;
      latest = idle.2;
      told = idle.3;
      shown = idle.4;
      edited = idle.5;
      due = h.due (omega (arith, low)) ∙ (λ i. due_left whole (idle.3 i) (due_list (changes_in (idle.0 i)) (ended_at (head_in s) s.earlier (idle.2 i)))) ∙ none_due whole (head_in s) s.earlier;
      many = h.ledgers.many;
      each = λ l small. h.ledgers.each l small ∙ ap (λ (xs : List Entry). Some (ledger_after xs l)) none;
    }

-- ---- codes

module _ (whole : Bool) (s : SoFar) where
  pub head_misplaced : (least most : ℕ) (line : Line) (code : Code) → line_code whole s line ≡ first_of (plain_causes false (is_change_due s) (nat_le least s.last && nat_le s.last most) false None false) → place_code s least most ≡ Some code
      → line_code whole s line ≡ Some code
  head_misplaced least most line code is h = is ∙ place_code_is (is_change_due s) (nat_le least s.last && nat_le s.last most) false false None code (λ _. refl) h

  pub head_right : (least most : ℕ) (line : Line) → line_code whole s line ≡ first_of (plain_causes false (is_change_due s) (nat_le least s.last && nat_le s.last most) false None false) → place_code s least most ≡ None
      → line_code whole s line ≡ None
  head_right least most line is h = is ∙ no_plain_code (is_change_due s) (nat_le least s.last && nat_le s.last most) h

  pub opens_is : line_code whole s Opens ≡ first_of (plain_causes false (is_change_due s) (nat_le 0 s.last && nat_le s.last 0) false None false)
  unfolding line_code
  opens_is = refl

  pub resource_is : (name : List ℕ) (bad : Bool) → is_bad_name RESOURCES s.resources name ≡ bad
      → line_code whole s (HasResource name) ≡ first_of (plain_causes bad (is_change_due s) (nat_le 1 s.last && nat_le s.last 2) false None false)
  unfolding line_code
  resource_is name bad is = ap (λ b. first_of (plain_causes b (is_change_due s) (nat_le 1 s.last && nat_le s.last 2) false None false)) is

  pub task_is : (name : List ℕ) (bad : Bool) → is_bad_name SEATS s.tasks name ≡ bad
      → line_code whole s (HasTask name) ≡ first_of (plain_causes bad (is_change_due s) (nat_le 2 s.last && nat_le s.last 4) false None false)
  unfolding line_code
  task_is name bad is = ap (λ b. first_of (plain_causes b (is_change_due s) (nat_le 2 s.last && nat_le s.last 4) false None false)) is

  pub group_is : (group : Set) (bad : Bool) → (len group == 0) ≡ bad
      → line_code whole s (HasGroup group) ≡ first_of (plain_causes bad (is_change_due s) (nat_le 2 s.last && nat_le s.last 3) false None false)
  unfolding line_code
  group_is group bad is = ap (λ b. first_of (plain_causes b (is_change_due s) (nat_le 2 s.last && nat_le s.last 3) false None false)) is

  pub cap_is : (n : ℕ) → line_code whole s (HasCap n) ≡ first_of (plain_causes false (is_change_due s) (nat_le 4 s.last && nat_le s.last 4) false None false)
  unfolding line_code
  cap_is n = refl

  pub stands : (least most : ℕ) → place_code s least most ≡ None → (least ≤ s.last) × (s.last ≤ most)
  stands least most h = follows_both least s.last most (placed (is_change_due s) (nat_le least s.last && nat_le s.last most) h).1

-- ---- steps

some_push : {X : Type 0} (xs : List X) (x : X) → 0 < length (xs ++ x ∷ [])
some_push xs x = let size = length-append xs (x ∷ []) in omega (arith, size)

opening_push : (xs : List Ledger) (n l : ℕ) → length xs ≡ n → ((l : ℕ) → l < n → slice_get xs l ≡ Some opening_ledger) → l < suc n → slice_get (xs ++ opening_ledger ∷ []) l ≡ Some opening_ledger
opening_push [] n zero size all h = refl
opening_push [] n (suc l) size all h = absurd (omega (arith, size, h))
opening_push (x ∷ xs) n zero size all h = all 0 (omega (arith, size))
opening_push (x ∷ xs) n (suc l) size all h = opening_push xs (length xs) l refl (λ k small. all (suc k) (omega (arith, size, small))) (omega (arith, size, h))

module _ (whole : Bool) (old : ReportReader) (s : SoFar) (h : Knows whole old s) where
  pub opens_taken : place_code s 0 0 ≡ None → (line_code whole s Opens ≡ None) × Knows whole (record old { last = 1 }) (with_line whole s Opens)
  opens_taken here =
      let there = stands whole s 0 0 here in
      let b = begins whole old s h (omega (arith, there.1)) in (
        head_right whole s 0 0 Opens (opens_is whole s) here,
        begun whole (record old { last = 1 }) (with_line whole s Opens) (record {
          kind = b.kind;
          last = refl;
          most = omega arith;
          resources = b.resources;
          tasks = b.tasks;
          cap = b.cap;
          capped = b.capped;
          groups = b.groups ∙ ap (λ c. cond c None (Some (read_groups (head_in s)))) (lt-ltb s.last at_groups (omega (arith, there.1)));
          no_groups = λ _. b.no_groups (omega (arith, there.1));
          some_resource = λ e. absurd (omega (arith, e));
          some_task = λ e. absurd (omega (arith, e));
          machine = b.machine;
          following = b.following;
          earlier = b.earlier;
          latest = b.latest;
          told = b.told;
          shown = b.shown;
          edited = b.edited;
          due = b.due;
          many = b.many;
          each = b.each;
        }),
      )

  pub resource_taken : (name : List ℕ) (new : ReportReader) → place_code s 1 2 ≡ None → is_bad_name RESOURCES old.resources name ≡ false
      → record old { last = 2; resources = old.resources ++ name ∷ []; ledgers = new.ledgers } ≡ new → new.ledgers.items ≡ old.ledgers.items ++ opening_ledger ∷ []
      → (line_code whole s (HasResource name) ≡ None) × Knows whole new (with_line whole s (HasResource name))
  resource_taken name new here good made are =
      let there = stands whole s 1 2 here in
      let b = begins whole old s h (omega (arith, there.1)) in
      let size = length-append s.resources (name ∷ []) in
      let longer = length-append old.ledgers.items (opening_ledger ∷ []) in
      let same = ap length are in
      let many = b.many in (
        head_right whole s 1 2 (HasResource name) (resource_is whole s name false (ap (λ xs. is_bad_name RESOURCES xs name) (sym b.resources) ∙ good)) here,
        begun whole new (with_line whole s (HasResource name)) (subst (λ (r : ReportReader). Begins whole r (with_line whole s (HasResource name))) made (record {
          kind = b.kind;
          last = refl;
          most = omega arith;
          resources = ap (λ xs. xs ++ name ∷ []) b.resources;
          tasks = b.tasks;
          cap = b.cap;
          capped = b.capped;
          groups = b.groups ∙ ap (λ c. cond c None (Some (read_groups (head_in s)))) (lt-ltb s.last at_groups (omega (arith, there.1)));
          no_groups = λ _. b.no_groups (omega (arith, there.1));
          some_resource = λ _. some_push s.resources name;
          some_task = λ e. absurd (omega (arith, e));
          machine = b.machine;
          following = b.following;
          earlier = b.earlier;
          latest = b.latest;
          told = b.told;
          shown = b.shown;
          edited = b.edited;
          due = b.due;
          many = omega (arith, size, longer, same, many);
          each = λ l small. ap (λ xs. slice_get xs l) are ∙ opening_push old.ledgers.items (length s.resources) l b.many b.each (omega (arith, size, small));
        })),
      )

  pub task_taken : (name : List ℕ) (new : ReportReader) → place_code s 2 4 ≡ None → is_bad_name SEATS old.tasks name ≡ false
      → record old { last = 4; tasks = old.tasks ++ name ∷ []; groups = new.groups } ≡ new → new.groups ≡ Some (read_groups (head_in s))
      → (line_code whole s (HasTask name) ≡ None) × Knows whole new (with_line whole s (HasTask name))
  task_taken name new here good made are =
      let there = stands whole s 2 4 here in
      let b = begins whole old s h (omega (arith, there.1)) in (
        head_right whole s 2 4 (HasTask name) (task_is whole s name false (ap (λ xs. is_bad_name SEATS xs name) (sym b.tasks) ∙ good)) here,
        begun whole new (with_line whole s (HasTask name)) (subst (λ (r : ReportReader). Begins whole r (with_line whole s (HasTask name))) made (record {
          kind = b.kind;
          last = refl;
          most = omega arith;
          resources = b.resources;
          tasks = ap (λ xs. xs ++ name ∷ []) b.tasks;
          cap = b.cap;
          capped = b.capped;
          groups = are;
          no_groups = λ e. absurd (omega (arith, e));
          some_resource = λ _. b.some_resource there.0;
          some_task = λ _. some_push s.tasks name;
          machine = b.machine;
          following = b.following;
          earlier = b.earlier;
          latest = b.latest;
          told = b.told;
          shown = b.shown;
          edited = b.edited;
          due = b.due;
          many = b.many;
          each = b.each;
        })),
      )

  pub group_taken : (group : Set) (new : ReportReader) → place_code s 2 3 ≡ None → (len group == 0) ≡ false
      → record old { last = 3; groups = new.groups } ≡ new → new.groups ≡ Some (record { q = length s.resources; groups = s.groups ++ group ∷ [] })
      → (line_code whole s (HasGroup group) ≡ None) × Knows whole new (with_line whole s (HasGroup group))
  group_taken group new here some made are =
      let there = stands whole s 2 3 here in
      let b = begins whole old s h (omega (arith, there.1)) in (
        head_right whole s 2 3 (HasGroup group) (group_is whole s group false some) here,
        begun whole new (with_line whole s (HasGroup group)) (subst (λ (r : ReportReader). Begins whole r (with_line whole s (HasGroup group))) made (record {
          kind = b.kind;
          last = refl;
          most = omega arith;
          resources = b.resources;
          tasks = b.tasks;
          cap = b.cap;
          capped = b.capped;
          groups = are;
          no_groups = λ e. absurd (omega (arith, e));
          some_resource = λ _. b.some_resource there.0;
          some_task = λ e. absurd (omega (arith, e));
          machine = b.machine;
          following = b.following;
          earlier = b.earlier;
          latest = b.latest;
          told = b.told;
          shown = b.shown;
          edited = b.edited;
          due = b.due;
          many = b.many;
          each = b.each;
        })),
      )

  pub cap_taken : (n : ℕ) → place_code s 4 4 ≡ None → (1 ≤ n) × (n ≤ SEATS) → (line_code whole s (HasCap n) ≡ None) × Knows whole (record old { last = 5; cap = Some n }) (with_line whole s (HasCap n))
  cap_taken n here fits =
      let there = stands whole s 4 4 here in
      let b = begins whole old s h (omega (arith, there.1)) in (
        head_right whole s 4 4 (HasCap n) (cap_is whole s n) here,
        begun whole (record old { last = 5; cap = Some n }) (with_line whole s (HasCap n)) (record {
          kind = b.kind;
          last = refl;
          most = omega arith;
          resources = b.resources;
          tasks = b.tasks;
          cap = refl;
          capped = fits;
          groups = b.groups ∙ ap (λ c. cond c None (Some (read_groups (head_in s)))) (le-ltb s.last at_groups (omega (arith, there.0)));
          no_groups = λ e. absurd (omega (arith, e));
          some_resource = λ _. b.some_resource (omega (arith, there.0));
          some_task = λ _. b.some_task there.0;
          machine = b.machine;
          following = b.following;
          earlier = b.earlier;
          latest = b.latest;
          told = b.told;
          shown = b.shown;
          edited = b.edited;
          due = b.due;
          many = b.many;
          each = b.each;
        }),
      )

-- a set is empty where the test says so
pub empty_test : (b : Bool) (set : Set) → (IsTrue b ↔ (set ≡ empty)) → (len set == 0) ≡ b
empty_test true set h = ap (λ t. len t == 0) (h.0 refl) ∙ ap (λ n. n == 0) (len-empty nat_cmp)
empty_test false set h = at (len set == 0) refl
  where
    at : (b : Bool) → (len set == 0) ≡ b → b ≡ false
    at true e = absurd (true≢false (sym (h.1 (empty_of_len set (eqb-true (len set) 0 e)))))
    at false e = refl
