-- What is in a list from a place on.
use Rattle.std.proofs.Common.{◌≡◌, ℕ, ◌<◌, List, [], ◌∷◌, zero, suc, arith, drop, get_or, length, take, subst, inl, inr}
use Rattle.std.proofs.lemmas.List.{take-append-drop}
use Rattle.rmodel.specs.WellFormed.{Among, EachPair}
use Rattle.rmodel.proofs.ListFacts.{all_at, among_behind}

-- an element after a place is among those from it on
pub later_in : {X : Type 0} (i : ℕ) (xs : List X) (y : X) → Among y (drop (suc i) xs) → Among y (drop i xs)
later_in i [] y there = absurd there
later_in zero (x ∷ xs) y there = inr there
later_in (suc i) (x ∷ xs) y there = later_in i xs y there

-- and among all
pub within : {X : Type 0} (i : ℕ) (xs : List X) (y : X) → Among y (drop i xs) → Among y xs
within i xs y there = subst (λ (l : List _). Among y l) (take-append-drop i xs) (among_behind (take i xs) (drop i xs) y there)

-- the element at a place is among those from it on
pub here_from : {X : Type 0} (xs : List X) (i : ℕ) (x : X) → i < length xs → x ≡ get_or xs i x → Among x (drop i xs)
here_from [] i x low is = absurd (omega arith)
here_from (y ∷ xs) zero x low is = inl is
here_from (y ∷ xs) (suc i) x low is = here_from xs i x (omega arith) is

-- the element at a place is related to those after it as each is to all that come after it
pub pair_behind : {X : Type 0} (R : X → X → Type 0) (xs : List X) (i : ℕ) (d y : X) → EachPair R xs → i < length xs → Among y (drop (suc i) xs) → R (get_or xs i d) y
pair_behind R [] i d y all low there = absurd (omega arith)
pair_behind R (x ∷ xs) zero d y all low there = all_at (R x) xs y all.0 there
pair_behind R (x ∷ xs) (suc i) d y all low there = pair_behind R xs i d y all.1 (omega arith) there
