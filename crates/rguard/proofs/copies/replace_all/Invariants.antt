use Rattle.std.proofs.Common.{◌≡◌}
use Rattle.std.specs.Vec.Iter.{drain_items}
use Rattle.rguard.specs.Copies.{with_shares, CanReplace}
use Rattle.rguard.proofs.copies.replace_all.Given as goal

abbrev pub invariant-loop-one : goal.invariant-loop-one
invariant-loop-one g l =
    CanReplace l.lent.writes (drain_items l.one-iterator)
    × (record l.lent { writes = with_shares l.lent.writes (drain_items l.one-iterator) } ≡ record l.initial.lent { writes = with_shares l.initial.lent.writes l.fn.shares })
