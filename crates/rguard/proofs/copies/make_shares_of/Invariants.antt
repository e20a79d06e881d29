use Rattle.std.proofs.Common.{◌≡◌, ◌≤◌, length, take, vec_capacity}
use Rattle.rguard.specs.Copies.{shares_of}
use Rattle.rguard.proofs.copies.make_shares_of.Given as goal

abbrev pub invariant-loop-copy : goal.invariant-loop-copy
invariant-loop-copy g l = (l.into-inside.made.items ≡ shares_of l.n (take l.copy-index l.own)) × (length l.own ≤ vec_capacity l.into-inside.made)
