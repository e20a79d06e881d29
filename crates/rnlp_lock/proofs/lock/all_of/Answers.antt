use Rattle.std.proofs.Common.{◌+◌, sym, subst, arith}
use Rattle.std.specs.Prelude.{IsTrue}
use Rattle.rset.specs.Sets.{Set, all_below}
use Rattle.rset.proofs.SetsBelow.{all_below_empty, all_below_insert}
use Rattle.rnlp_lock.specs.Causes.{HasAll}
use Rattle.rnlp_lock.proofs.Refusing.{has_one_more, has_none}
use Rattle.rnlp_lock.proofs.lock.all_of.Goals as goal

pub loop-l-init : goal.loop-l-init
loop-l-init c = subst (λ (s : Set). IsTrue (all_below c.args.q s) × HasAll 0 s) (sym c.empty-all.ensures) (all_below_empty c.args.q, has_none _)

pub loop-l-preserved : goal.loop-l-preserved
loop-l-preserved c =
    subst (λ (s : Set). IsTrue (all_below c.args.q s) × HasAll (c.loop-l.l + 1) s) (sym c.with-all.ensures)
    (all_below_insert c.args.q c.loop-l.all c.loop-l.l c.loop-l.invariant.0 c.loop-l-test.true, has_one_more c.loop-l.l c.loop-l.all c.loop-l.invariant.1)

pub returns-clause-all : goal.returns-clause-all
returns-clause-all c = λ l less. c.loop-l.invariant.1 l (omega (arith, less, c.loop-l-test.false))
