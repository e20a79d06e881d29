use Rattle.std.proofs.Common.{◌≡◌, length, take}
use Rattle.rcover.specs.Heads.{StayWithoutWrite}
use Rattle.rcover.specs.Lines.{HoldBehind, TellAt}
use Rattle.rcover.proofs.lines.tell_heads.Given as goal

abbrev pub invariant-loop-i : goal.invariant-loop-i
invariant-loop-i l = record {
  len : length l.heads ≡ length l.fn.heads;
  behind_len : length l.behind ≡ length l.fn.behind;
  others : StayWithoutWrite l.fn.heads l.heads l.moment;
  told : TellAt l.heads l.moment (take l.i l.moment);
  behind : HoldBehind l.behind l.moment (take l.i l.moment);
}
