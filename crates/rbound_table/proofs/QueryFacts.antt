-- What tables answer: the longest of the claims that matter for a wait.
use Rattle.std.proofs.Common.{◌≡◌, ◌<◌, ◌&&◌, ◌==◌, ℕ, Bool, true, false, List, [], ◌∷◌, refl, sym, ap, subst, ◌∙◌}
use Rattle.std.specs.List.{list_any}
use Rattle.std.specs.FinSet.{contains}
use Rattle.std.proofs.lemmas.Bool.{eq-eqb, eqb-true}
use Rattle.rset.specs.Sets.{Set, meets, rising, all_below}
use Rattle.rset.specs.declared.TheConstants.{RESOURCES}
use Rattle.rset.proofs.SetLemmas.{same_test, meets_from, meets_common, rising_has, rising_below}
use Rattle.rmodel.specs.WellFormed.{Among}
use Rattle.rmodel.proofs.ListFacts.{any_among, passing}
use Rattle.rbound.specs.Needs.{Needed}
use Rattle.rbound.specs.Longest.{longest}
use Rattle.rbound.proofs.LongestClaims.{longest_any, longest_same, longest_of_same, folded}
use Rattle.rbound_table.specs.Tables.{is_under, cell_at, longest_in, IsTable}
use Rattle.rbound_table.specs.declared.table.Cell.{Cell}

-- ---- members of lists of numbers

pub among_any : (xs : List ℕ) (l : ℕ) → Among l xs → list_any (λ y. y == l) xs ≡ true
among_any xs l there = any_among (λ y. y == l) xs l there (eq-eqb l l refl)

pub any_at : (xs : List ℕ) (l : ℕ) → list_any (λ y. y == l) xs ≡ true → Among l xs
any_at xs l h = let found = passing (λ y. y == l) xs h in subst (λ (k : ℕ). Among k xs) (eqb-true found.0 l found.2) found.1

-- ---- one table

-- a set that meets another has one of its members
pub meets_rising : (key s : Set) → all_below RESOURCES s ≡ true → list_any (contains key) (rising s) ≡ meets key s
meets_rising key s below = same_test _ _
    (λ h. let found = passing (contains key) (rising s) h in meets_from key s found.0 found.2 (sym (rising_has s below found.0) ∙ among_any (rising s) found.0 found.1))
    (λ h. let common = meets_common key s h in any_among (contains key) (rising s) common.0 (any_at (rising s) common.0 (rising_has s below common.0 ∙ common.2)) common.1)

pub any_and : (b : Bool) (p : ℕ → Bool) (xs : List ℕ) → list_any (λ x. b && p x) xs ≡ (b && list_any p xs)
any_and true p xs = refl
any_and false p [] = refl
any_and false p (x ∷ xs) = any_and false p xs

module _ (ns : List Needed) (tasks : ℕ) where
  pub in_table : (key : Needed → Set) (cells : List Cell) (t : ℕ) (s : Set) → IsTable key ns tasks cells → t < tasks → all_below RESOURCES s ≡ true
      → longest_in cells t s ≡ longest (λ n. (n.claim.seat == t) && meets (key n) s) ns
  in_table key cells t s is some below =
      folded (λ l. (cell_at cells t l).longest) (rising s)
      ∙ longest_of_same (λ l. (cell_at cells t l).longest) (λ l. longest (is_under key t l) ns) (rising s) (λ l there. ap (λ (c : Cell). c.longest) (is.has t l some (rising_below s l (among_any (rising s) l there))))
      ∙ sym (longest_any (λ l. is_under key t l) (rising s) ns)
      ∙ longest_same (λ n. list_any (λ l. is_under key t l n) (rising s)) (λ n. (n.claim.seat == t) && meets (key n) s) ns
      (λ n there. any_and (n.claim.seat == t) (contains (key n)) (rising s) ∙ ap (λ b. (n.claim.seat == t) && b) (meets_rising (key n) s below))
