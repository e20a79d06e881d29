use Rattle.std.proofs.Common.{◌≡◌, take}
use Rattle.std.specs.List.{filter_map}
use Rattle.rcover_plain.specs.Lists.{moments_in}
use Rattle.rcover_laws.specs.Line.{read_for}
use Rattle.rcover_laws.specs.Sections.{different}
use Rattle.rcover_plain.proofs.leasts.reads_for.Given as goal

abbrev pub invariant-loop-d : goal.invariant-loop-d
invariant-loop-d l = l.reads.items ≡ different (filter_map (read_for l.c (moments_in l.moments)) (take l.d-index l.leasts))
