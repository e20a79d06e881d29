use Rattle.std.proofs.Common.{◌≡◌, length, take}
use Rattle.rcover.specs.Shares.{TellWrites}
use Rattle.rcover.proofs.shares.note_writes.Given as goal

abbrev pub invariant-loop-i : goal.invariant-loop-i
invariant-loop-i l = record {
  len : length l.shares ≡ length l.fn.shares;
  told : TellWrites l.writers l.shares (take l.i l.moment);
}
