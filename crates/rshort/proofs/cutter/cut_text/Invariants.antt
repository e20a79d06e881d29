use Rattle.std.proofs.Common.{take}
use Rattle.rshort.specs.Cutters.{HasRead}
use Rattle.rshort.proofs.cutter.cut_text.Given as goal

abbrev pub invariant-loop-c : goal.invariant-loop-c
invariant-loop-c l = HasRead l.cutter (take l.c-index l.bytes)
