use Rattle.std.proofs.Common.{rules, ◌≡◌, ◌≢◌, Bool, true, false, Ok, Err, refl, sym, ◌∙◌, inl, inr}
use Rattle.std.specs.FinSet.{empty, is_subset, union}
use Rattle.rclaim.specs.Requests.{is_part}
use Rattle.rclaim.specs.declared.request.RequestErr.TheVariants.{FirstOutside}
use Rattle.rnlp_lock.proofs.Refusing.{outside}
use Rattle.rnlp_lock.proofs.MayAsk.{may_nest}
use Rattle.rnlp_lock.proofs.asking.to_nested.Goals as goal

-- what is not false is true
true_from : (b : Bool) → (b ≡ false → ⊥) → b ≡ true
true_from true h = refl
true_from false h = absurd (h refl)

pub returns-in-Ok-clause-may : goal.returns-in-Ok-clause-may
returns-in-Ok-clause-may c =
    let inside : is_subset c.args.reads c.args.all ≡ true = search rules in
    let within : is_subset c.args.writes c.args.all ≡ true = search rules in
    let some : c.args.writes ≢ empty = search rules in
    let fits : is_part c.args.first (union c.args.reads c.args.writes) ≡ true =
    true_from _ (λ out. let refused : Ok c.in-Ok.request ≡ Err FirstOutside = sym c.in-Ok.is ∙ c.new.ensures.outside.1 (some, out) in absurd cc) in
    may_nest c.args.groups.now c.args.all c.requires.below c.args.reads c.args.writes c.args.first some fits inside within

pub returns-then-not-within-clause-cause : goal.returns-then-not-within-clause-cause
returns-then-not-within-clause-cause c = inr (inl (outside c.args.groups.now.q c.args.all c.args.reads c.requires.all (sym c.within.ensures ∙ c.if-not-within.true)))

pub returns-then-not-within-2-clause-cause : goal.returns-then-not-within-2-clause-cause
returns-then-not-within-2-clause-cause c = inr (inr (inl (outside c.args.groups.now.q c.args.all c.args.writes c.requires.all (sym c.within-2.ensures ∙ c.if-not-within-2.true))))
