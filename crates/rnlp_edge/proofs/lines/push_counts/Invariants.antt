use Rattle.std.proofs.Common.{◌≡◌, ◌++◌, take, flat_map, string_bytes}
use Rattle.rnlp_edge.specs.Lines.{watcher_line}
use Rattle.rnlp_edge.proofs.lines.push_counts.Given as goal

abbrev pub invariant-loop-i : goal.invariant-loop-i
invariant-loop-i g l = string_bytes l.lines ≡ string_bytes l.fn.lines ++ flat_map watcher_line (take l.i (g.A.Audience.all l.audience))
