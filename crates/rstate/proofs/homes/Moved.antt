-- From changes in sequence to what each home is in the end.
use Rattle.std.proofs.Common.{◌≡◌, ℕ, zero, suc, ◌<◌, ◌==◌, ◌||◌, Bool, true, false, cond, List, [], ◌∷◌, ◌++◌, length, Option, Some, None, refl, sym, ap, subst, ◌∙◌, inl, inr, arith}
use Rattle.std.specs.Prelude.{slice_get, slice_set}
use Rattle.std.specs.FinSet.{contains}
use Rattle.std.specs.List.{AllByRecursion}
use Rattle.std.proofs.lemmas.Bool.{true≢false, eqb-true, eq-eqb, or_parts, or_from, or_left, or_right}
use Rattle.std.proofs.lemmas.List.{length-set}
use Rattle.rset.specs.Sets.{Set, members_from, rising}
use Rattle.rset.specs.declared.TheConstants.{RESOURCES}
use Rattle.rmodel.proofs.ListFacts.{Among, contrary, false_from}
use Rattle.rstate.specs.Lent.{has, Once, places}
use Rattle.rstate.specs.Moves.{changed_at, change_at, after_changes, HasShare, HaveShares, loan_of, loans_from, whole_of, wholes_from, IsMissed, AreMissed, after_loans, HaveHomes, after_wholes}
use Rattle.rstate.specs.Shares.{ShareFields, less, more, absent}
use Rattle.rstate.proofs.homes.Lists.{get_here, get_else}

-- ---- no resource occurs twice in a rising list

put_before : (b : Bool) (low l : ℕ) (rest : List ℕ) → l < low → has l rest ≡ false → has l (cond b (low ∷ rest) rest) ≡ false
put_before true low l rest before none = or_from (low == l) (has l rest) (false_from (low == l) (λ h. apart low l before (eqb-true low l h))) none
  where
    apart : (a b : ℕ) → b < a → a ≡ b → ⊥
    apart a b less same = omega arith
put_before false low l rest before none = none

none_before : (n low l : ℕ) (s : Set) → l < low → has l (members_from low n s) ≡ false
unfolding members_from
none_before zero low l s before = refl
none_before (suc n) low l s before = put_before (contains s low) low l (members_from (suc low) n s) before (none_before n (suc low) l s (omega (arith, before)))

once_put : (b : Bool) (low : ℕ) (rest : List ℕ) → has low rest ≡ false → Once rest → Once (cond b (low ∷ rest) rest)
once_put true low rest none once = (none, once)
once_put false low rest none once = once

once_from : (n low : ℕ) (s : Set) → Once (members_from low n s)
unfolding members_from
once_from zero low s = tt
once_from (suc n) low s = once_put (contains s low) low (members_from (suc low) n s) (none_before n (suc low) low s (omega arith)) (once_from n (suc low) s)

pub once_rising : (s : Set) → Once (rising s)
unfolding rising
once_rising s = once_from RESOURCES 0 s

-- ---- homes that change one after another

module _ {V : Type 0} where
  change_some : (f : ShareFields V → ShareFields V) (homes : List (ShareFields V)) (l : ℕ) (home : ShareFields V) → slice_get homes l ≡ Some home → change_at f homes l ≡ slice_set homes l (f home)
  change_some f homes l home there = ap (λ o. changed_at f o homes l) there

  change_else : (f : ShareFields V → ShareFields V) (homes : List (ShareFields V)) (k l : ℕ) → (k == l) ≡ false → slice_get (change_at f homes k) l ≡ slice_get homes l
  change_else f homes k l differ = at (slice_get homes k)
    where
      at : (o : Option (ShareFields V)) → slice_get (changed_at f o homes k) l ≡ slice_get homes l
      at (Some home) = get_else homes k l (f home) differ
      at None = refl

  pub change_length : (f : ShareFields V → ShareFields V) (homes : List (ShareFields V)) (l : ℕ) → length (change_at f homes l) ≡ length homes
  change_length f homes l = at (slice_get homes l)
    where
      at : (o : Option (ShareFields V)) → length (changed_at f o homes l) ≡ length homes
      at (Some home) = length-set homes l (f home)
      at None = refl

  pub changes_length : (f : ShareFields V → ShareFields V) (homes : List (ShareFields V)) (ls : List ℕ) → length (after_changes f homes ls) ≡ length homes
  changes_length f homes [] = refl
  changes_length f homes (l ∷ ls) = changes_length f (change_at f homes l) ls ∙ change_length f homes l

  -- a home whose resource is not in the list
  pub changes_else : (f : ShareFields V → ShareFields V) (homes : List (ShareFields V)) (ls : List ℕ) (l : ℕ) → has l ls ≡ false → slice_get (after_changes f homes ls) l ≡ slice_get homes l
  changes_else f homes [] l none = refl
  changes_else f homes (k ∷ ls) l none =
      let parts = or_parts (k == l) (has l ls) none in
      changes_else f (change_at f homes k) ls l parts.1 ∙ change_else f homes k l parts.0

  -- and one whose resource is there once
  pub changes_here : (f : ShareFields V → ShareFields V) (homes : List (ShareFields V)) (ls : List ℕ) (l : ℕ) (home : ShareFields V) → Once ls → has l ls ≡ true → slice_get homes l ≡ Some home
      → slice_get (after_changes f homes ls) l ≡ Some (f home)
  changes_here f homes [] l home once here there = absurd (true≢false (sym here))
  changes_here f homes (k ∷ ls) l home once here there = at (k == l) refl (λ later same. changes_here f (change_at f homes k) ls l home once.1 later same)
    where
      at : (b : Bool) → (k == l) ≡ b → (has l ls ≡ true → slice_get (change_at f homes k) l ≡ Some home → slice_get (after_changes f (change_at f homes k) ls) l ≡ Some (f home))
          → slice_get (after_changes f (change_at f homes k) ls) l ≡ Some (f home)
      at true same rest =
          let e = eqb-true k l same in
          let at_k : slice_get homes k ≡ Some home = ap (slice_get homes) e ∙ there in
          changes_else f (change_at f homes k) ls l (ap (λ m. has m ls) (sym e) ∙ once.0)
          ∙ ap (slice_get (change_at f homes k)) (sym e)
          ∙ ap (λ hs. slice_get hs k) (change_some f homes k home at_k)
          ∙ get_here homes k home (f home) at_k
      at false differ rest = rest (sym (ap (λ b. b || has l ls) differ) ∙ here) (change_else f homes k l differ ∙ there)

  -- a share of each is at home when its turn comes, if it is at first
  pub have_from : (f : ShareFields V → ShareFields V) (homes : List (ShareFields V)) (ls : List ℕ) → Once ls → ((l : ℕ) → has l ls ≡ true → HasShare homes l) → HaveShares f homes ls
  have_from f homes [] once each = tt
  have_from f homes (k ∷ ls) once each = (
    each k (or_left (k == k) (has k ls) (eq-eqb k k refl)),
    have_from f (change_at f homes k) ls once.1 (λ l later.
        let has_it = each l (or_right (k == l) (has l ls) later) in
        let differ = false_from (k == l) (λ h. contrary (has l ls) later (ap (λ m. has m ls) (sym (eqb-true k l h)) ∙ once.0)) in
        (has_it.0, change_else f homes k l differ ∙ has_it.1, has_it.2)),
  )

  -- ---- what is lent

  -- the loans are of the resources in the list
  pub loans_places : (homes : List (ShareFields V)) (ls : List ℕ) → HaveShares less homes ls → places (loans_from homes ls) ≡ ls
  loans_places homes [] have = refl
  loans_places homes (l ∷ ls) have =
      ap (λ o. places (loan_of o l ++ loans_from (change_at less homes l) ls)) have.0.1
      ∙ ap (λ ks. l ∷ ks) (loans_places (change_at less homes l) ls have.1)

  pub wholes_places : (homes : List (ShareFields V)) (ls : List ℕ) → HaveShares absent homes ls → places (wholes_from homes ls) ≡ ls
  wholes_places homes [] have = refl
  wholes_places homes (l ∷ ls) have =
      ap (λ o. places (whole_of o l ++ wholes_from (change_at absent homes l) ls)) have.0.1
      ∙ ap (λ ks. l ∷ ks) (wholes_places (change_at absent homes l) ls have.1)

  -- what holds of each home in the list holds of each loan
  pub loans_are : (Q : ℕ → V → Type 0) (homes : List (ShareFields V)) (ls : List ℕ) → Once ls → HaveShares less homes ls
      → ((l : ℕ) (home : ShareFields V) → has l ls ≡ true → slice_get homes l ≡ Some home → Q l home.value) → AllByRecursion (λ loan. Q loan.0 loan.1) (loans_from homes ls)
  loans_are Q homes [] once have each = tt
  loans_are Q homes (k ∷ ls) once have each =
      subst (λ o. AllByRecursion (λ loan. Q loan.0 loan.1) (loan_of o k ++ loans_from (change_at less homes k) ls)) (sym have.0.1) (
        each k have.0.0 (or_left (k == k) (has k ls) (eq-eqb k k refl)) have.0.1,
        loans_are Q (change_at less homes k) ls once.1 have.1 (λ l home later there.
            let differ = false_from (k == l) (λ h. contrary (has l ls) later (ap (λ m. has m ls) (sym (eqb-true k l h)) ∙ once.0)) in
            each l home (or_right (k == l) (has l ls) later) (sym (change_else less homes k l differ) ∙ there)),
      )

  pub wholes_are : (Q : ℕ → ShareFields V → Type 0) (homes : List (ShareFields V)) (ls : List ℕ) → Once ls → HaveShares absent homes ls
      → ((l : ℕ) (home : ShareFields V) → has l ls ≡ true → slice_get homes l ≡ Some home → Q l home) → AllByRecursion (λ whole. Q whole.0 whole.1) (wholes_from homes ls)
  wholes_are Q homes [] once have each = tt
  wholes_are Q homes (k ∷ ls) once have each =
      subst (λ o. AllByRecursion (λ whole. Q whole.0 whole.1) (whole_of o k ++ wholes_from (change_at absent homes k) ls)) (sym have.0.1) (
        each k have.0.0 (or_left (k == k) (has k ls) (eq-eqb k k refl)) have.0.1,
        wholes_are Q (change_at absent homes k) ls once.1 have.1 (λ l home later there.
            let differ = false_from (k == l) (λ h. contrary (has l ls) later (ap (λ m. has m ls) (sym (eqb-true k l h)) ∙ once.0)) in
            each l home (or_right (k == l) (has l ls) later) (sym (change_else absent homes k l differ) ∙ there)),
      )

  -- ---- what comes home

  -- loans that come home in sequence change homes by `more`
  pub loans_change : (homes : List (ShareFields V)) (loans : List (ℕ × V)) → after_loans homes loans ≡ after_changes more homes (places loans)
  loans_change homes [] = refl
  loans_change homes (loan ∷ loans) = loans_change (change_at more homes loan.0) loans

  missed_beside : (homes : List (ShareFields V)) (k : ℕ) (loans : List (ℕ × V)) → has k (places loans) ≡ false → AllByRecursion (IsMissed homes) loans → AllByRecursion (IsMissed (change_at more homes k)) loans
  missed_beside homes k [] none all = tt
  missed_beside homes k (loan ∷ loans) none all =
      let parts = or_parts (loan.0 == k) (has k (places loans)) none in
      let differ : (k == loan.0) ≡ false = false_from (k == loan.0) (λ h. contrary (loan.0 == k) (eq-eqb loan.0 k (sym (eqb-true k loan.0 h))) parts.0) in
      ((all.0.0, change_else more homes k loan.0 differ ∙ all.0.1, all.0.2, all.0.3), missed_beside homes k loans parts.1 all.1)

  pub missed_from : (homes : List (ShareFields V)) (loans : List (ℕ × V)) → Once (places loans) → AllByRecursion (IsMissed homes) loans → AreMissed homes loans
  missed_from homes [] once all = tt
  missed_from homes (loan ∷ loans) once all = (all.0, missed_from (change_at more homes loan.0) loans once.1 (missed_beside homes loan.0 loans once.0 all.1))

  pub wholes_else : (homes : List (ShareFields V)) (wholes : List (ℕ × ShareFields V)) (l : ℕ) → has l (places wholes) ≡ false → slice_get (after_wholes homes wholes) l ≡ slice_get homes l
  wholes_else homes [] l none = refl
  wholes_else homes (w ∷ wholes) l none =
      let parts = or_parts (w.0 == l) (has l (places wholes)) none in
      wholes_else (slice_set homes w.0 w.1) wholes l parts.1 ∙ get_else homes w.0 l w.1 parts.0

  pub wholes_length : (homes : List (ShareFields V)) (wholes : List (ℕ × ShareFields V)) → length (after_wholes homes wholes) ≡ length homes
  wholes_length homes [] = refl
  wholes_length homes (w ∷ wholes) = wholes_length (slice_set homes w.0 w.1) wholes ∙ length-set homes w.0 w.1

  -- a home whose resource came home whole: it has what came, and this holds of that
  pub wholes_here : (s : ShareFields V) (homes : List (ShareFields V)) (wholes : List (ℕ × ShareFields V)) (l : ℕ) (home : ShareFields V) → Once (places wholes) → has l (places wholes) ≡ true → slice_get homes l ≡ Some home
      → AllByRecursion (λ w. (w.0 == l) ≡ true → w.1 ≡ s) wholes → slice_get (after_wholes homes wholes) l ≡ Some s
  wholes_here s homes [] l home once here there all = absurd (true≢false (sym here))
  wholes_here s homes (w ∷ wholes) l home once here there all =
      by_test (w.0 == l) refl (λ later. wholes_here s (slice_set homes w.0 w.1) wholes l home once.1 later)
    where
      by_test : (b : Bool) → (w.0 == l) ≡ b → (has l (places wholes) ≡ true → slice_get (slice_set homes w.0 w.1) l ≡ Some home → AllByRecursion (λ w. (w.0 == l) ≡ true → w.1 ≡ s) wholes
          → slice_get (after_wholes (slice_set homes w.0 w.1) wholes) l ≡ Some s) → slice_get (after_wholes (slice_set homes w.0 w.1) wholes) l ≡ Some s
      by_test true same rest =
          let e = eqb-true w.0 l same in
          wholes_else (slice_set homes w.0 w.1) wholes l (ap (λ m. has m (places wholes)) (sym e) ∙ once.0)
          ∙ ap (slice_get (slice_set homes w.0 w.1)) (sym e)
          ∙ get_here homes w.0 home w.1 (ap (slice_get homes) e ∙ there)
          ∙ ap Some (all.0 same)
      by_test false differ rest = rest (sym (ap (λ b. b || has l (places wholes)) differ) ∙ here) (get_else homes w.0 l w.1 differ ∙ there) all.1

-- a loan that is among the loans has its resource among theirs
pub place_among : {X : Type 0} (loan : ℕ × X) (loans : List (ℕ × X)) → Among loan loans → has loan.0 (places loans) ≡ true
place_among loan [] among = elim among [ ]
place_among loan (x ∷ loans) (inl same) = or_left (x.0 == loan.0) (has loan.0 (places loans)) (eq-eqb x.0 loan.0 (ap (λ y. y.0) (sym same)))
place_among loan (x ∷ loans) (inr later) = or_right (x.0 == loan.0) (has loan.0 (places loans)) (place_among loan loans later)

pub homes_for : {V : Type 0} (n : ℕ) (wholes : List (ℕ × ShareFields V)) → ((w : ℕ × ShareFields V) → Among w wholes → w.0 < n) → HaveHomes n wholes
homes_for n [] each = tt
homes_for n (w ∷ wholes) each = (each w (inl refl), homes_for n wholes (λ x there. each x (inr there)))
