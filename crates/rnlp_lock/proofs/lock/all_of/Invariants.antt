use Rattle.std.specs.Prelude.{IsTrue}
use Rattle.rset.specs.Sets.{all_below}
use Rattle.rnlp_lock.specs.Causes.{HasAll}
use Rattle.rnlp_lock.proofs.lock.all_of.Given as goal

abbrev pub invariant-loop-l : goal.invariant-loop-l
invariant-loop-l l = IsTrue (all_below l.fn.q l.all) × HasAll l.l l.all
