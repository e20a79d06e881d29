-- Acts: the edits among them, the value that they leave, and whether their answers are right.
use Rattle.std.specs.Prelude.{◌≡◌, ◌⊎◌, ℕ, Bool, List, [], ◌∷◌, ◌++◌, ◌==◌, fold, if◌then◌else◌, refl}
use Rattle.std.specs.Coded.{Coded, code_by, coded_ℕ, coded_bool, coded×, coded⊎}
use Rattle.std.proofs.Common.{inl, inr}
use Rattle.rvalue.specs.InTurn.{AllInTurn}
use Rattle.rvalue.specs.declared.act.Act.{Act}
use Rattle.rvalue.specs.declared.act.Act.TheVariants.{Edited, Shown}

module _ {E : Type 0} where
  -- the resource of the act
  abbrev pub place_of : Act E → ℕ
  place_of (Edited place edit done) = place
  place_of (Shown place number) = place

  -- the edit on the resource, if the act is one, whether it was taken or not
  abbrev pub edit_on : Act E → ℕ → List E
  edit_on (Edited place edit done) l = if place == l then edit ∷ [] else []
  edit_on (Shown place number) l = []

  -- the edits on the resource among the acts, in order
  abbrev pub edits_in : List (Act E) → ℕ → List E
  edits_in [] l = []
  edits_in (act ∷ acts) l = edit_on act l ++ edits_in acts l

module _ {V E : Type 0} where
  -- the value of the act's resource after the act
  abbrev pub value_after_act : (V → E → V) → V → Act E → V
  value_after_act after value (Edited place edit done) = after value edit
  value_after_act after value (Shown place number) = value

  -- the value of the resource after the acts, which may be about others too
  abbrev pub value_within : (V → E → V) → V → List (Act E) → ℕ → V
  value_within after value acts l = fold after value (edits_in acts l)

  -- the act has the answer that this value of its resource gives: an edit, whether it is taken, and a show, the number
  abbrev pub IsAnsweredAt : (V → E → Bool) → (V → ℕ) → V → Act E → Type 0
  IsAnsweredAt taken number value (Edited place edit done) = done ≡ taken value edit
  IsAnsweredAt taken number value (Shown place shown) = shown ≡ number value

-- `values` are those of the resources before an entry
module _ {V E : Type 0} (after : V → E → V) (taken : V → E → Bool) (number : V → ℕ) (values : ℕ → V) where
  -- after the earlier acts of the entry, the act has the answer that its resource's value then gives
  abbrev pub IsAnsweredAfter : List (Act E) → Act E → Type 0
  IsAnsweredAfter earlier act =
      IsAnsweredAt taken number (value_within after (values (place_of act)) earlier (place_of act)) act

  -- all acts of the entry have the right answers
  abbrev pub AnswersAreRight : List (Act E) → Type 0
  AnswersAreRight acts = AllInTurn IsAnsweredAfter [] acts

-- how proofs distinguish acts
module _ {E : Type 0} where
  abbrev act_parts : Act E → (ℕ × (E × Bool)) ⊎ (ℕ × ℕ)
  act_parts (Edited place edit done) = inl (place, (edit, done))
  act_parts (Shown place number) = inr (place, number)

  abbrev act_from : (ℕ × (E × Bool)) ⊎ (ℕ × ℕ) → Act E
  act_from (inl p) = Edited p.0 p.1.0 p.1.1
  act_from (inr p) = Shown p.0 p.1

  pub act_from-act_parts : (act : Act E) → act_from (act_parts act) ≡ act
  act_from-act_parts (Edited place edit done) = refl
  act_from-act_parts (Shown place number) = refl

  -- an act is coded as its parts
  abbrev pub act_code : Coded E → Coded (Act E)
  act_code code =
      code_by ((ℕ × (E × Bool)) ⊎ (ℕ × ℕ)) (coded⊎ (coded× coded_ℕ (coded× code coded_bool)) (coded× coded_ℕ coded_ℕ))
      act_parts act_from act_from-act_parts
