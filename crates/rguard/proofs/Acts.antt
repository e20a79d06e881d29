-- Edits that a guard makes one after another: for proofs above.
use Rattle.std.proofs.Common.{◌≡◌, ℕ, Bool, true, List, [], ◌∷◌, ◌++◌, map, sym, ap, ◌∙◌, append_assoc, append-nil}
use Rattle.rvalue.specs.declared.act.Act.{Act}
use Rattle.rvalue.specs.declared.act.Act.TheVariants.{Edited}
use Rattle.rguard.specs.Guards.{GuardFields}

-- edits of these resources in turn, each of which is taken
abbrev pub each_taken : {E : Type 0} → List ℕ → E → List (Act E)
each_taken places edit = map (λ l. Edited l edit true) places

-- with the edits of the resources that are left, the guard has all acts that it is to have
module _ {V E : Type 0} (guard : GuardFields V E) (left : List ℕ) (edit : E) (all : List (Act E)) (due : guard.acts ++ each_taken left edit ≡ all) where
  -- the first of them is edited, and the others are left
  pub one_more : (later : GuardFields V E) (l : ℕ) (more : List ℕ) (done : Bool) → left ≡ l ∷ more → done ≡ true → later ≡ record guard { acts = guard.acts ++ Edited l edit done ∷ [] } → later.acts ++ each_taken more edit ≡ all
  one_more later l more done steps taken act =
      ap (λ (g : GuardFields V E). g.acts ++ each_taken more edit) act ∙ ap (λ (d : Bool). (guard.acts ++ Edited l edit d ∷ []) ++ each_taken more edit) taken
      ∙ append_assoc guard.acts (Edited l edit true ∷ []) (each_taken more edit) ∙ ap (λ (places : List ℕ). guard.acts ++ each_taken places edit) (sym steps) ∙ due

  -- no resource is left
  pub all_made : left ≡ [] → guard.acts ≡ all
  all_made none = sym (append-nil guard.acts) ∙ ap (λ (places : List ℕ). guard.acts ++ each_taken places edit) (sym none) ∙ due
