use Rattle.std.proofs.Common.{sym, subst, ◌∙◌}
use Rattle.std.specs.Prelude.{IsTrue}
use Rattle.rset.specs.Sets.{all_below}
use Rattle.rexpand.specs.Groups.{ReadGroups}
use Rattle.rset.proofs.SetsBelow.{all_below_within}
use Rattle.rnlp_lock.proofs.Refusing.{outside, no_group_beyond, no_groups_at, not_declared}
use Rattle.rnlp_lock.proofs.lock.declared.Goals as goal

pub declare-requires : goal.declare-requires
declare-requires c =
    subst (λ (g : ReadGroups). IsTrue (all_below g.q c.set-item.result)) (sym c.loop-set.invariant) (all_below_within c.args.q c.set-item.result c.args.all (sym c.within.ensures ∙ c.if-not-within.false) c.requires.below)

pub returns-then-not-within-clause-cause : goal.returns-then-not-within-clause-cause
returns-then-not-within-clause-cause c =
    no_groups_at c.args.q c.args.sets.now c.loop-set.set-index c.set-item.result c.loop-set-test.true (sym c.set-item.is)
    (no_group_beyond c.args.q c.set-item.result (outside c.args.q c.args.all c.set-item.result c.requires.all (sym c.within.ensures ∙ c.if-not-within.true)))

pub returns-in-Err-clause-cause : goal.returns-in-Err-clause-cause
returns-in-Err-clause-cause c =
    not_declared c.args.q c.loop-set.groups c.args.sets.now c.loop-set.set-index c.set-item.result c.in-Err.e c.loop-set-test.true (sym c.set-item.is) c.loop-set.invariant c.in-Err.ensures.cause
