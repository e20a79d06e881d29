-- Which line is due, of the changes of an event.
use Rattle.std.proofs.Common.{◌≡◌, ℕ, zero, suc, ◌+◌, ◌-◌, ◌<◌, ◌≤◌, Bool, true, false, not, cond, List, [], ◌∷◌, ◌++◌, length, map, drop, get_or, nat_lt, Some, refl, sym, ap, ◌∙◌, arith, length-append}
use Rattle.std.proofs.Math.Seq.{drop-nil, drop-append-add}
use Rattle.std.proofs.Math.ListN.{drop_of_length-le}
use Rattle.std.proofs.lemmas.Bool.{lt-ltb, le-ltb}
use Rattle.std.proofs.lemmas.Bool.Decides.{nat_tests}
use Rattle.std.proofs.lemmas.List.{length-map}
use Rattle.std.specs.Prelude.{slice_get}
use Rattle.rtrace_form.proofs.facts.Choices.{some_is, some_none}
use Rattle.rset.specs.Sets.{Set}
use Rattle.rclaim.specs.Changes.{ChangeLists}
use Rattle.rclaim.specs.declared.changes.GrantChange.{GrantChange}
use Rattle.rclaim.specs.declared.changes.StatusChange.{StatusChange}
use Rattle.rmodel.specs.Claims.{satisfied_by}
use Rattle.rtrace_form.specs.Heads.{is_nil}
use Rattle.rbound.specs.Bounds.{Numbers}
use Rattle.rcover_laws.specs.declared.wait_end.WaitEnd.{WaitEnd}
use Rattle.rtrace_form.specs.Lines.{Line, Grants, Waits, BecomesEntitled, BecomesSatisfied}
use Rattle.rtrace_form.specs.Reports.{status_line, grant_line, wait_line}
use Rattle.rtrace_form.specs.Waits.{no_bounds}
use Rattle.rtrace_form.specs.Faults.{is_first, is_same_line}
use Rattle.rtrace_form.specs.declared.word.Stage.{Stage}
use Rattle.rtrace_read.specs.Due.{change_list, due_list}

-- there is more after some items where there are more than those
pub more_is : {X : Type 0} (xs : List X) (n : ℕ) → not (is_nil (drop n xs)) ≡ nat_lt n (length xs)
more_is [] n = ap (λ ys. not (is_nil ys)) (drop-nil n) ∙ sym (le-ltb n 0 (omega arith))
more_is (x ∷ xs) zero = sym (lt-ltb 0 (length (x ∷ xs)) (omega arith))
more_is (x ∷ xs) (suc n) = more_is xs n ∙ below n (length xs)
  where
    below : (n m : ℕ) → nat_lt n m ≡ nat_lt (suc n) (suc m)
    below n m = grind (arith, nat_tests)

pub drop_one : {X : Type 0} (xs : List X) (n : ℕ) → drop 1 (drop n xs) ≡ drop (suc n) xs
drop_one [] n = ap (drop 1) (drop-nil n)
drop_one (x ∷ xs) zero = refl
drop_one (x ∷ xs) (suc n) = drop_one xs n

pub changes_many : (changes : ChangeLists) → length (change_list changes) ≡ length changes.statuses + length changes.grants
changes_many changes =
    length-append (map status_line changes.statuses) (map grant_line changes.grants) ∙ (λ i. length-map changes.statuses status_line i + length-map changes.grants grant_line i)

-- the line of a status is not that of a grant
not_grant : (g : GrantChange) (seat : ℕ) (half b : Bool) → is_same_line (grant_line g) (cond b (BecomesSatisfied seat half) (BecomesEntitled seat half)) ≡ false
not_grant g seat half true = refl
not_grant g seat half false = refl

grants_first : (gs : List GrantChange) (n : ℕ) (c : StatusChange) → is_first (drop n (map grant_line gs)) (status_line c) ≡ false
grants_first [] n c = ap (λ xs. is_first xs (status_line c)) (drop-nil n)
grants_first (g ∷ gs) zero c = not_grant g c.seat c.write_half (satisfied_by c.status)
grants_first (g ∷ gs) (suc n) c = grants_first gs n c

-- after the statuses come the grants
pub status_past : (ss : List StatusChange) (gs : List GrantChange) (n : ℕ) (c : StatusChange) → length ss ≤ n → is_first (drop n (map status_line ss ++ map grant_line gs)) (status_line c) ≡ false
status_past [] gs n c h = grants_first gs n c
status_past (x ∷ ss) gs zero c h = absurd (omega (arith, h))
status_past (x ∷ ss) gs (suc n) c h = status_past ss gs n c (omega (arith, h))

pub status_at : (ss : List StatusChange) (gs : List GrantChange) (n : ℕ) (due c : StatusChange) → n < length ss → due ≡ get_or ss n due
    → is_first (drop n (map status_line ss ++ map grant_line gs)) (status_line c) ≡ is_same_line (status_line due) (status_line c)
status_at [] gs n due c h is = absurd (omega (arith, h))
status_at (x ∷ ss) gs zero due c h is = ap (λ (d : StatusChange). is_same_line (status_line d) (status_line c)) (sym is)
status_at (x ∷ ss) gs (suc n) due c h is = status_at ss gs n due c (omega (arith, h)) is

not_status : (c : StatusChange) (seat : ℕ) (set : Set) (b : Bool) → is_same_line (cond b (BecomesSatisfied c.seat c.write_half) (BecomesEntitled c.seat c.write_half)) (Grants seat set) ≡ false
not_status c seat set true = refl
not_status c seat set false = refl

pub grant_before : (ss : List StatusChange) (gs : List GrantChange) (n seat : ℕ) (set : Set) → n < length ss → is_first (drop n (map status_line ss ++ map grant_line gs)) (Grants seat set) ≡ false
grant_before [] gs n seat set h = absurd (omega (arith, h))
grant_before (x ∷ ss) gs zero seat set h = not_status x seat set (satisfied_by x.status)
grant_before (x ∷ ss) gs (suc n) seat set h = grant_before ss gs n seat set (omega (arith, h))

grant_here : (gs : List GrantChange) (n seat : ℕ) (set : Set) (due : GrantChange) → n < length gs → due ≡ get_or gs n due → is_first (drop n (map grant_line gs)) (Grants seat set) ≡ is_same_line (grant_line due) (Grants seat set)
grant_here [] n seat set due h is = absurd (omega (arith, h))
grant_here (x ∷ gs) zero seat set due h is = ap (λ (d : GrantChange). is_same_line (grant_line d) (Grants seat set)) (sym is)
grant_here (x ∷ gs) (suc n) seat set due h is = grant_here gs n seat set due (omega (arith, h)) is

behind : (ss : List StatusChange) (gs : List GrantChange) (n k : ℕ) → n ≡ length ss + k → drop n (map status_line ss ++ map grant_line gs) ≡ drop k (map grant_line gs)
behind ss gs n k h =
    ap (λ m. drop m (map status_line ss ++ map grant_line gs)) (h ∙ ap (λ m. m + k) (sym (length-map ss status_line))) ∙ drop-append-add (map status_line ss) (map grant_line gs) k

pub grant_at : (ss : List StatusChange) (gs : List GrantChange) (n seat : ℕ) (set : Set) (due : GrantChange) → length ss ≤ n → n - length ss < length gs → due ≡ get_or gs (n - length ss) due
    → is_first (drop n (map status_line ss ++ map grant_line gs)) (Grants seat set) ≡ is_same_line (grant_line due) (Grants seat set)
grant_at ss gs n seat set due low h is = ap (λ (xs : List Line). is_first xs (Grants seat set)) (behind ss gs n (n - length ss) (omega arith)) ∙ grant_here gs (n - length ss) seat set due h is

pub grant_past : (ss : List StatusChange) (gs : List GrantChange) (n seat : ℕ) (set : Set) → length ss ≤ n → length gs ≤ n - length ss → is_first (drop n (map status_line ss ++ map grant_line gs)) (Grants seat set) ≡ false
grant_past ss gs n seat set low h =
    ap (λ (xs : List Line). is_first xs (Grants seat set)) (behind ss gs n (n - length ss) (omega arith) ∙ drop_of_length-le (map grant_line gs) (let many = length-map gs grant_line in omega (arith, many, h)))

-- the same for changes
pub due_status : (changes : ChangeLists) (n : ℕ) (due c : StatusChange) → n < length changes.statuses → due ≡ get_or changes.statuses n due
    → is_first (drop n (change_list changes)) (status_line c) ≡ is_same_line (status_line due) (status_line c)
due_status changes n due c h is = status_at changes.statuses changes.grants n due c h is

pub no_due_status : (changes : ChangeLists) (n : ℕ) (c : StatusChange) → length changes.statuses ≤ n → is_first (drop n (change_list changes)) (status_line c) ≡ false
no_due_status changes n c h = status_past changes.statuses changes.grants n c h

-- ---- waits come after changes

-- a line that is not that of any item of the second list is first where it is first of the first list
first_of_front : (xs ys : List Line) (line : Line) → ((n : ℕ) → is_first (drop n ys) line ≡ false) → (n : ℕ) → is_first (drop n (xs ++ ys)) line ≡ is_first (drop n xs) line
first_of_front [] ys line none n = none n ∙ ap (λ (zs : List Line). is_first zs line) (sym (drop-nil n))
first_of_front (x ∷ xs) ys line none zero = refl
first_of_front (x ∷ xs) ys line none (suc n) = first_of_front xs ys line none n

no_status_waits : (ws : List WaitEnd) (c : StatusChange) (n : ℕ) → is_first (drop n (map (wait_line no_bounds) ws)) (status_line c) ≡ false
no_status_waits [] c n = ap (λ (xs : List Line). is_first xs (status_line c)) (drop-nil n)
no_status_waits (w ∷ ws) c zero = at (satisfied_by c.status)
  where
    at : (b : Bool) → is_same_line (wait_line no_bounds w) (cond b (BecomesSatisfied c.seat c.write_half) (BecomesEntitled c.seat c.write_half)) ≡ false
    at true = refl
    at false = refl
no_status_waits (w ∷ ws) c (suc n) = no_status_waits ws c n

no_grant_waits : (ws : List WaitEnd) (seat : ℕ) (set : Set) (n : ℕ) → is_first (drop n (map (wait_line no_bounds) ws)) (Grants seat set) ≡ false
no_grant_waits [] seat set n = ap (λ (xs : List Line). is_first xs (Grants seat set)) (drop-nil n)
no_grant_waits (w ∷ ws) seat set zero = refl
no_grant_waits (w ∷ ws) seat set (suc n) = no_grant_waits ws seat set n

pub status_before_waits : (changes : ChangeLists) (ends : List WaitEnd) (c : StatusChange) (n : ℕ) → is_first (drop n (due_list changes ends)) (status_line c) ≡ is_first (drop n (change_list changes)) (status_line c)
status_before_waits changes ends c n = first_of_front (change_list changes) (map (wait_line no_bounds) ends) (status_line c) (no_status_waits ends c) n

pub grant_before_waits : (changes : ChangeLists) (ends : List WaitEnd) (seat : ℕ) (set : Set) (n : ℕ) → is_first (drop n (due_list changes ends)) (Grants seat set) ≡ is_first (drop n (change_list changes)) (Grants seat set)
grant_before_waits changes ends seat set n = first_of_front (change_list changes) (map (wait_line no_bounds) ends) (Grants seat set) (no_grant_waits ends seat set) n

pub due_many : (changes : ChangeLists) (ends : List WaitEnd) → length (due_list changes ends) ≡ length (change_list changes) + length ends
due_many changes ends = length-append (change_list changes) (map (wait_line no_bounds) ends) ∙ ap (λ n. length (change_list changes) + n) (length-map ends (wait_line no_bounds))

module _ (seat : ℕ) (stage : Stage) (cover bound : Numbers) where
  not_wait : (c : StatusChange) (b : Bool) → is_same_line (cond b (BecomesSatisfied c.seat c.write_half) (BecomesEntitled c.seat c.write_half)) (Waits seat stage cover bound) ≡ false
  not_wait c true = refl
  not_wait c false = refl

  wait_behind_grants : (gs : List GrantChange) (rest : List Line) (n : ℕ) → n < length gs → is_first (drop n (map grant_line gs ++ rest)) (Waits seat stage cover bound) ≡ false
  wait_behind_grants [] rest n h = absurd (omega (arith, h))
  wait_behind_grants (g ∷ gs) rest zero h = refl
  wait_behind_grants (g ∷ gs) rest (suc n) h = wait_behind_grants gs rest n (omega (arith, h))

  wait_behind : (ss : List StatusChange) (gs : List GrantChange) (rest : List Line) (n : ℕ) → n < length ss + length gs → is_first (drop n ((map status_line ss ++ map grant_line gs) ++ rest)) (Waits seat stage cover bound) ≡ false
  wait_behind [] gs rest n h = wait_behind_grants gs rest n (omega (arith, h))
  wait_behind (s ∷ ss) gs rest zero h = not_wait s (satisfied_by s.status)
  wait_behind (s ∷ ss) gs rest (suc n) h = wait_behind ss gs rest n (omega (arith, h))

  -- no wait is due before all changes
  pub wait_before : (changes : ChangeLists) (ends : List WaitEnd) (n : ℕ) → n < length (change_list changes) → is_first (drop n (due_list changes ends)) (Waits seat stage cover bound) ≡ false
  wait_before changes ends n h = let many = changes_many changes in wait_behind changes.statuses changes.grants (map (wait_line no_bounds) ends) n (omega (arith, many, h))

  past_changes : (changes : ChangeLists) (ends : List WaitEnd) (n k : ℕ) → n ≡ length (change_list changes) + k → drop n (due_list changes ends) ≡ drop k (map (wait_line no_bounds) ends)
  past_changes changes ends n k h = ap (λ m. drop m (due_list changes ends)) h ∙ drop-append-add (change_list changes) (map (wait_line no_bounds) ends) k

  wait_here : (ws : List WaitEnd) (n : ℕ) (due : WaitEnd) → slice_get ws n ≡ Some due
      → is_first (drop n (map (wait_line no_bounds) ws)) (Waits seat stage cover bound) ≡ is_same_line (wait_line no_bounds due) (Waits seat stage cover bound)
  wait_here [] n due is = absurd (some_none is)
  wait_here (w ∷ ws) zero due is = ap (λ (d : WaitEnd). is_same_line (wait_line no_bounds d) (Waits seat stage cover bound)) (some_is is)
  wait_here (w ∷ ws) (suc n) due is = wait_here ws n due is

  pub wait_at : (changes : ChangeLists) (ends : List WaitEnd) (n before : ℕ) (due : WaitEnd) → before ≡ length (change_list changes) → before ≤ n → slice_get ends (n - before) ≡ Some due
      → is_first (drop n (due_list changes ends)) (Waits seat stage cover bound) ≡ is_same_line (wait_line no_bounds due) (Waits seat stage cover bound)
  wait_at changes ends n before due size low is =
      ap (λ (xs : List Line). is_first xs (Waits seat stage cover bound)) (past_changes changes ends n (n - before) (omega (arith, size, low))) ∙ wait_here ends (n - before) due is

  pub wait_past : (changes : ChangeLists) (ends : List WaitEnd) (n before : ℕ) → before ≡ length (change_list changes) → before ≤ n → length ends ≤ n - before → is_first (drop n (due_list changes ends)) (Waits seat stage cover bound) ≡ false
  wait_past changes ends n before size low h =
      ap (λ (xs : List Line). is_first xs (Waits seat stage cover bound))
      (past_changes changes ends n (n - before) (omega (arith, size, low)) ∙ drop_of_length-le (map (wait_line no_bounds) ends) (let many = length-map ends (wait_line no_bounds) in omega (arith, many, h)))
