use Rattle.std.proofs.Common.{◌≡◌, take}
use Rattle.rnlp_lock.proofs.lock.declared.Given as goal

abbrev pub invariant-loop-set : goal.invariant-loop-set
invariant-loop-set l = l.groups ≡ record { q = l.q; groups = take l.set-index l.sets }
