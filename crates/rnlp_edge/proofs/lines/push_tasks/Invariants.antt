use Rattle.std.proofs.Common.{◌≡◌, ◌++◌, flat_map, string_bytes}
use Rattle.std.specs.List.{range_with_len}
use Rattle.std.specs.Prelude.{slice_get}
use Rattle.rtrace_form.specs.SetFields.{name_at}
use Rattle.rnlp_edge.specs.Lines.{stopped_line}
use Rattle.rnlp_edge.proofs.lines.push_tasks.Given as goal

abbrev pub invariant-loop-task : goal.invariant-loop-task
invariant-loop-task l = string_bytes l.lines ≡ string_bytes l.fn.lines ++ flat_map (λ task. stopped_line (name_at l.names task) (slice_get l.sections task)) (range_with_len 0 l.task)
