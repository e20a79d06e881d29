use Rattle.std.proofs.Common.{◌≡◌, take}
use Rattle.std.specs.Prelude.{vec_capacity}
use Rattle.rcover.proofs.section.copy_sections.Given as goal

abbrev pub invariant-loop-s : goal.invariant-loop-s
invariant-loop-s l = record {
  items : l.to.items ≡ take l.s-index l.from;
  capacity : vec_capacity l.to ≡ vec_capacity l.fn.to;
}
