-- Items that are moved from one list to another, one after another.
use Rattle.std.proofs.Common.{◌≡◌, ℕ, zero, suc, List, [], ◌∷◌, ◌++◌, map, length, take, refl, sym, ap, ◌∙◌, append_assoc, append-nil, arith}
use Rattle.std.proofs.lemmas.List.{map-append}

module _ {A B W : Type 0} (f : A → W) (h : B → W) where
  -- one more was moved
  pub one_over : (done later : List A) (x : A) (left rest : List B) (y : B) (all : List W) → later ≡ done ++ x ∷ [] → left ≡ y ∷ rest → f x ≡ h y → map f done ++ map h left ≡ all → map f later ++ map h rest ≡ all
  one_over done later x left rest y all items steps same due =
      ap (λ (l : List A). map f l ++ map h rest) items ∙ ap (λ (l : List W). l ++ map h rest) (map-append f done (x ∷ [])) ∙ append_assoc (map f done) (f x ∷ []) (map h rest)
      ∙ ap (λ (w : W). map f done ++ w ∷ map h rest) same ∙ ap (λ (l : List B). map f done ++ map h l) (sym steps) ∙ due

  -- none is left
  pub none_over : (done : List A) (left : List B) (all : List W) → length left ≡ 0 → map f done ++ map h left ≡ all → map f done ≡ all
  none_over done [] all none due = sym (append-nil (map f done)) ∙ due
  none_over done (y ∷ left) all none due = absurd (omega arith)

-- as many as there are in the first list
pub take_all : {A : Type 0} (ys zs : List A) (n : ℕ) → n ≡ length ys → take n (ys ++ zs) ≡ ys
take_all [] zs zero count = refl
take_all [] zs (suc n) count = absurd (omega arith)
take_all (y ∷ ys) zs zero count = absurd (omega arith)
take_all (y ∷ ys) zs (suc n) count = ap (λ l. y ∷ l) (take_all ys zs n (omega arith))
