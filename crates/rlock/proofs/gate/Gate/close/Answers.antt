use Rattle.std.proofs.Common.{◌≡◌, ◌⊎◌, List, [], ◌∷◌, ◌++◌, sym, ap, ◌∙◌, subst, inl, inr, ⊎_elim}
use Rattle.std.specs.Prelude.{All, Any, Contains}
use Rattle.std.specs.Option.{option_to_list}
use Rattle.std.proofs.lemmas.List.Elements.{All-push, Contains-push_cases}
use Rattle.rlock.specs.Known.{Known, IsTrueOf}
use Rattle.rlock.proofs.gate.Gate.close.Goals as goal

-- some element of a list is among those before the last one, or is the last one
any_cases : {X : Type 0} (P : X → Type 0) (xs zs : List X) (y : X) → zs ≡ xs ++ y ∷ [] → Any P zs → Any P xs ⊎ P y
any_cases P xs zs y e (k, x, inside, is, p) = ⊎_elim (λ (h : Contains xs x). inl (h.0, x, h.1, h.2, p)) (λ (h : y ≡ x). inr (subst P (sym h) p))
    (Contains-push_cases xs y x (subst (λ (l : List _). Contains l x) e (k, inside, is)))

pub close_and-requires-clause-all : goal.close_and-requires-clause-all
close_and-requires-clause-all g c = λ n low. any_cases (λ (p : Known g.row.S.Denot g.row.S-Opening.Denot g.row.S-Entry.Denot). p.number ≡ n) c.pop.new.self.items c.args.passes.items c.unwrap-last.result
    (c.pop.ensures.items ∙ ap (λ r. c.pop.new.self.items ++ option_to_list r) c.unwrap-last.ensures) (c.requires.all n low)

pub returns-clause-passes : goal.returns-clause-passes
returns-clause-passes g c = let P : Known g.row.S.Denot g.row.S-Opening.Denot g.row.S-Entry.Denot → Type 0 = λ p. IsTrueOf g.S.Kept.number g.S.Kept.stays p (g.S.Kept.opening c.close_and.result) (g.S.Kept.entries c.close_and.result) c.close_and.result in
    subst (All P) (sym (c.pop.ensures.items ∙ ap (λ r. c.pop.new.self.items ++ option_to_list r) c.unwrap-last.ensures))
    (All-push P c.pop.new.self.items c.unwrap-last.result c.close_and.ensures.passes c.close_and.ensures.last)
