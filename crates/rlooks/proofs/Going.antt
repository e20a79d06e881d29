-- A lookout goes on look by look.
use Rattle.std.proofs.Common.{◌+◌, ℕ, refl, ◌∙◌, arith}
use Rattle.rmon.proofs.Prefixes.{prefix_self, prefix_trans}
use Rattle.rlooks.specs.Lookouts.{Looking, GoesOn}

pub stays : (l : Looking) → GoesOn 0 l l
stays l = record {
  feed = refl;
  opening = refl;
  seen = prefix_self l.monitor.seen;
  looks = prefix_self l.looks;
  count = omega arith;
}

pub goes_further : (m n : ℕ) (a b c : Looking) → GoesOn m a b → GoesOn n b c → GoesOn (m + n) a c
goes_further m n a b c p q = record {
  feed = q.feed ∙ p.feed;
  opening = q.opening ∙ p.opening;
  seen = prefix_trans a.monitor.seen b.monitor.seen c.monitor.seen p.seen q.seen;
  looks = prefix_trans a.looks b.looks c.looks p.looks q.looks;
  count = omega (arith, p.count, q.count);
}
