use Rattle.std.proofs.Common.{◌≡◌, ◌≤◌, ◌*◌, ◌^◌, take}
use Rattle.std.specs.List.{sum_by}
use Rattle.rcover.proofs.section.sum_of.Given as goal

abbrev pub invariant-loop-s : goal.invariant-loop-s
invariant-loop-s l = record {
  sum : l.sum ≡ sum_by (λ s. s.len) (take l.s-index l.sections);
  small : l.sum ≤ 2 ^ 32 * l.s-index;
}
