-- The first passes, one after another.
use Rattle.std.proofs.Common.{◌≡◌, ℕ, zero, suc, ◌+◌, ◌<◌, List, [], ◌∷◌, ◌++◌, length, refl, ap, ◌∙◌, arith, Some}
use Rattle.std.specs.Prelude.{All, slice_get}
use Rattle.std.proofs.lemmas.List.Elements.{All-nil, All-cons}
use Rattle.rlock.specs.Known.{GateId, Known, newcomer, newcomers}

module _ {S O : Type 0} (E : Type 0) (gate : GateId) (o : O) (state : S) where
  abbrev from : ℕ → ℕ → List (Known S O E)
  from first count = newcomers gate o state first count

  abbrev one : ℕ → List (Known S O E)
  one n = newcomer gate n o state ∷ []

  pub newcomers-push : (first count : ℕ) → from first count ++ one (first + count) ≡ from first (count + 1)
  newcomers-push first zero = let a : first + 0 ≡ first = omega arith in let b : 1 ≡ 0 + 1 = omega arith in ap one a ∙ ap (from first) b
  newcomers-push first (suc count) = let a : first + suc count ≡ (first + 1) + count = omega arith in let b : suc (count + 1) ≡ suc count + 1 = omega arith in
      ap (λ (n : ℕ). newcomer gate first o state ∷ (from (first + 1) count ++ one n)) a ∙ (ap (λ (l : List (Known S O E)). newcomer gate first o state ∷ l) (newcomers-push (first + 1) count) ∙ ap (from first) b)

  pub length-newcomers : (first count : ℕ) → length (from first count) ≡ count
  length-newcomers first zero = refl
  length-newcomers first (suc count) = omega (arith, length-newcomers (first + 1) count)

  pub newcomers-at : (first count k : ℕ) → k < count → slice_get (from first count) k ≡ Some (newcomer gate (first + k) o state)
  newcomers-at first zero k h = absurd (omega arith)
  newcomers-at first (suc count) zero h = let a : first ≡ first + 0 = omega arith in ap (λ (n : ℕ). let x : Known S O E = newcomer gate n o state in Some x) a
  newcomers-at first (suc count) (suc k) h = let a : (first + 1) + k ≡ first + suc k = omega arith in newcomers-at (first + 1) count k (omega arith) ∙ ap (λ (n : ℕ). let x : Known S O E = newcomer gate n o state in Some x) a

  pub all-newcomers : (P : Known S O E → Type 0) → ((n : ℕ) → P (newcomer gate n o state)) → (first count : ℕ) → All P (from first count)
  all-newcomers P each first zero = All-nil P
  all-newcomers P each first (suc count) = All-cons P (newcomer gate first o state) (from (first + 1) count) (each first) (all-newcomers P each (first + 1) count)
