-- Lists of which each pair, or each element, satisfies something.
use Rattle.std.proofs.Common.{drop, add-one, drop-cons, ◌≡◌, ℕ, zero, suc, ◌<◌, ◌+◌, ◌++◌, get_or, arith, List, [], ◌∷◌, length, sym, ap}
use Rattle.rmodel.specs.declared.claimed.Claimed.{Claimed}
use Rattle.std.proofs.Math.ListN.{set}
use Rattle.std.specs.List.{AllByRecursion}
use Rattle.rmodel.specs.WellFormed.{EachPair}
use Rattle.rmodel.proofs.ListFacts.{all_at, all_from, behind}
use Rattle.rmodel.proofs.reaching.Came.{in_append}

pub all_set : {X : Type 0} (P : X → Type 0) (xs : List X) (i : ℕ) (y : X) → AllByRecursion P xs → P y → AllByRecursion P (set xs i y)
all_set P [] i y all here = tt
all_set P (x ∷ xs) zero y all here = (here, all.1)
all_set P (x ∷ xs) (suc i) y all here = (all.0, all_set P xs i y all.1 here)

pub all_get : {X : Type 0} (P : X → Type 0) (xs : List X) (i : ℕ) (d : X) → AllByRecursion P xs → i < length xs → P (get_or xs i d)
all_get P [] i d all h = absurd (omega arith)
all_get P (x ∷ xs) zero d all h = all.0
all_get P (x ∷ xs) (suc i) d all h = all_get P xs i d all.1 (omega arith)

-- the pairs of a front part
pub pairs_front : {X : Type 0} (R : X → X → Type 0) (xs ys : List X) → EachPair R (xs ++ ys) → EachPair R xs
pairs_front R [] ys pairs = tt
pairs_front R (x ∷ xs) ys pairs = (all_from (R x) xs (λ z there. all_at (R x) (xs ++ ys) z pairs.0 (in_append xs ys z there)), pairs_front R xs ys pairs.1)

-- the pairs that an element of a list makes with those before it, and with those after it
pub pairs_before : {X : Type 0} (R : X → X → Type 0) (xs : List X) (x : X) (ys : List X) → EachPair R (xs ++ x ∷ ys) → AllByRecursion (λ y. R y x) xs
pairs_before R [] x ys pairs = tt
pairs_before R (z ∷ zs) x ys pairs = ((behind (R z) zs (x ∷ ys) pairs.0).0, pairs_before R zs x ys pairs.1)

pub pairs_after : {X : Type 0} (R : X → X → Type 0) (xs : List X) (x : X) (ys : List X) → EachPair R (xs ++ x ∷ ys) → AllByRecursion (R x) ys
pairs_after R [] x ys pairs = pairs.0
pairs_after R (z ∷ zs) x ys pairs = pairs_after R zs x ys pairs.1

-- what is left from a place on
pub drop_more : (xs : List Claimed) (i : ℕ) (x : Claimed) → i < length xs → x ≡ get_or xs i x → drop i xs ≡ x ∷ drop (i + 1) xs
drop_more xs i x h is = rw (add-one, drop-cons xs i x) (ap (λ y. y ∷ drop (suc i) xs) (sym is))
