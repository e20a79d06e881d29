use Rattle.std.proofs.Common.{◌≡◌, ◌++◌}
use Rattle.std.specs.List.{flat_map, range_with_len}
use Rattle.rtrace_form.specs.SetFields.{name_at}
use Rattle.rtrace_form.specs.Texts.{text_of}
use Rattle.rnlp_cli.specs.BoundText.{task_rows}
use Rattle.rnlp_cli.proofs.bound_lines.push_tasks.Given as goal

abbrev pub invariant-loop-task : goal.invariant-loop-task
invariant-loop-task l = l.text.items ≡ l.fn.text.items ++ text_of (flat_map (λ task. task_rows l.bounds.needs l.bounds.cap (name_at l.tasks task) task) (range_with_len 0 l.task))
