use Rattle.std.proofs.Common.{rules, ◌≡◌, true, sym, ◌∙◌, inl, inr}
use Rattle.std.proofs.lemmas.Bool.{true≢false}
use Rattle.std.specs.FinSet.{is_subset}
use Rattle.rexpand.specs.Groups.{is_declared}
use Rattle.rset.proofs.SetsBelow.{all_below_within}
use Rattle.rnlp_lock.proofs.Refusing.{outside}
use Rattle.rnlp_lock.proofs.MayAsk.{may_rise}
use Rattle.rnlp_lock.proofs.asking.to_upgrade.Goals as goal

pub returns-in-Ok-clause-may : goal.returns-in-Ok-clause-may
returns-in-Ok-clause-may c =
    let inside : is_subset c.args.set c.args.all ≡ true = search rules in
    let declared : is_declared c.args.groups.now.groups c.args.set ≡ true = search rules in
    may_rise c.args.groups.now c.args.all c.requires.below c.args.set c.in-Ok.request c.in-Ok.ensures.made inside declared

pub returns-then-is_empty-clause-cause : goal.returns-then-is_empty-clause-cause
returns-then-is_empty-clause-cause c = inl (c.is_empty.ensures.0 c.if-is_empty.true)

pub returns-then-not-within-clause-cause : goal.returns-then-not-within-clause-cause
returns-then-not-within-clause-cause c = inr (outside c.args.groups.now.q c.args.all c.args.set c.requires.all (sym c.within.ensures ∙ c.if-not-within.true))

pub returns-then-not-declared-clause-cause : goal.returns-then-not-declared-clause-cause
returns-then-not-declared-clause-cause c = (
  λ is. true≢false (sym (c.is_empty.ensures.1 is) ∙ c.if-is_empty.false),
  all_below_within c.args.groups.now.q c.args.set c.args.all (sym c.within.ensures ∙ c.if-not-within.false) c.requires.below,
  sym c.declared.ensures ∙ c.if-not-declared.true,
)
