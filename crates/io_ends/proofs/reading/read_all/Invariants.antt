use Rattle.std.proofs.Common.{◌≡◌, ◌+◌, ◌-◌, ◌≤◌, vec_len}
use Rattle.io_ends.proofs.Taking.{HoldsTaken}
use Rattle.io_ends.proofs.reading.read_all.Given as goal

abbrev pub invariant-loop-filled : goal.invariant-loop-filled
invariant-loop-filled g l = record {
  filled : l.filled ≤ vec_len l.bytes;
  short : vec_len l.bytes ≤ l.limit + 1;
  held : HoldsTaken (g.S.Source.left l.initial.source) (g.S.Source.left l.source) l.bytes.items l.filled;
  quiet : g.S.Source.faults l.source ≡ g.S.Source.faults l.initial.source;
}

abbrev pub decreases-loop-filled : goal.decreases-loop-filled
decreases-loop-filled g l = l.limit + 1 - l.filled
