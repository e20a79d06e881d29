-- Copies, looked through from the front: what is found at one of them, or after it.
use Rattle.std.proofs.Common.{◌≡◌, ℕ, suc, ◌+◌, ◌<◌, ◌==◌, Bool, true, false, cond, List, ◌∷◌, ◌++◌, [], take, drop, length, get_or, Some, refl, sym, ap, ◌∙◌, arith}
use Rattle.std.specs.Prelude.{slice_index_or, is_some}
use Rattle.std.proofs.lemmas.Bool.{eq-eqb, eqb-true, true≢false}
use Rattle.std.proofs.lemmas.List.{drop_more, take_more, map-append}
use Rattle.rmodel.proofs.ListFacts.{false_from}
use Rattle.rstate.specs.Lent.{at_place, index_of}
use Rattle.rstate.specs.Shares.{ShareFields, whole}
use Rattle.rstate.proofs.homes.Lists.{same_item}
use Rattle.rguard.specs.Copies.{shares_of}

-- the copy is at this place of the list
module _ {X : Type 0} (copies : List (ℕ × X)) (i l : ℕ) (copy : ℕ × X) (there : i < length copies) (is : copy ≡ get_or copies i copy) where
  ahead : drop i copies ≡ copy ∷ drop (i + 1) copies
  ahead = drop_more copies i copy there ∙ ap (λ (c : ℕ × X). c ∷ drop (i + 1) copies) (sym is)

  else_same : (copy.0 ≡ l → ⊥) → (copy.0 == l) ≡ false
  else_same differ = false_from (copy.0 == l) (λ h. differ (eqb-true copy.0 l h))

  pub found_here : copy.0 ≡ l → at_place (drop i copies) l ≡ at_place copies l → Some copy.1 ≡ at_place copies l
  found_here same was =
      sym (ap (λ (b : Bool). cond b (Some copy.1) (at_place (drop (i + 1) copies) l)) (eq-eqb copy.0 l same)) ∙ ap (λ (xs : List (ℕ × X)). at_place xs l) (sym ahead) ∙ was

  pub found_behind : (copy.0 ≡ l → ⊥) → at_place (drop i copies) l ≡ at_place copies l → at_place (drop (i + 1) copies) l ≡ at_place copies l
  found_behind differ was =
      sym (ap (λ (b : Bool). cond b (Some copy.1) (at_place (drop (i + 1) copies) l)) (else_same differ)) ∙ ap (λ (xs : List (ℕ × X)). at_place xs l) (sym ahead) ∙ was

  pub index_here : copy.0 ≡ l → i + index_of (drop i copies) l ≡ index_of copies l → i ≡ index_of copies l
  index_here same was =
      let none : index_of (drop i copies) l ≡ 0 = ap (λ (xs : List (ℕ × X)). index_of xs l) ahead ∙ ap (λ (b : Bool). cond b 0 (index_of (drop (i + 1) copies) l + 1)) (eq-eqb copy.0 l same) in
      omega arith

  pub index_behind : (copy.0 ≡ l → ⊥) → i + index_of (drop i copies) l ≡ index_of copies l → (i + 1) + index_of (drop (i + 1) copies) l ≡ index_of copies l
  index_behind differ was =
      let more : index_of (drop i copies) l ≡ index_of (drop (i + 1) copies) l + 1 = ap (λ (xs : List (ℕ × X)). index_of xs l) ahead ∙ ap (λ (b : Bool). cond b 0 (index_of (drop (i + 1) copies) l + 1)) (else_same differ) in
      omega arith

-- one more copy has its shares
pub shares_more : {V : Type 0} (n : ℕ) (copies : List (ℕ × V)) (i : ℕ) (copy : ℕ × V) (made more : List (ℕ × ShareFields V)) → i < length copies → copy ≡ get_or copies i copy
    → made ≡ shares_of n (take i copies) → more ≡ shares_of n (copy ∷ []) → made ++ more ≡ shares_of n (take (i + 1) copies)
shares_more {V} n copies i copy made more there is was one =
    (λ j. was j ++ one j)
    ∙ sym (ap (shares_of n) (take_more copies i copy there ∙ ap (λ (c : ℕ × V). take i copies ++ c ∷ []) (sym is)) ∙ map-append (λ (c : ℕ × V). (c.0, whole n c.1)) (take i copies) (copy ∷ []))

module _ {X : Type 0} where
  -- the item at the index of a resource that is there
  pub index_gives : (loans : List (ℕ × X)) (l : ℕ) (x : X) (d : ℕ × X) → at_place loans l ≡ Some x → slice_index_or loans (index_of loans l) d ≡ (l, x)
  index_gives [] l x d there = absurd (true≢false (sym (ap is_some there)))
  index_gives (loan ∷ loans) l x d there = at (loan.0 == l) refl (index_gives loans l x d)
    where
      plus_one : (n : ℕ) → n + 1 ≡ suc n
      plus_one n = omega arith

      at : (b : Bool) → (loan.0 == l) ≡ b → (at_place loans l ≡ Some x → slice_index_or loans (index_of loans l) d ≡ (l, x)) → slice_index_or (loan ∷ loans) (cond b 0 (index_of loans l + 1)) d ≡ (l, x)
      at true is rest = (λ i. (eqb-true loan.0 l is i, same_item loan.1 x (ap (λ (c : Bool). cond c (Some loan.1) (at_place loans l)) (sym is) ∙ there) i))
      at false is rest = ap (λ n. slice_index_or (loan ∷ loans) n d) (plus_one (index_of loans l)) ∙ rest (ap (λ (c : Bool). cond c (Some loan.1) (at_place loans l)) (sym is) ∙ there)
