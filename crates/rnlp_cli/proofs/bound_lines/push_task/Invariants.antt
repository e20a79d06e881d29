use Rattle.std.proofs.Common.{◌≡◌, ◌++◌}
use Rattle.std.specs.List.{flat_map, range_with_len}
use Rattle.rtrace_form.specs.Texts.{text_of}
use Rattle.rnlp_cli.specs.BoundText.{request_rows}
use Rattle.rnlp_cli.proofs.bound_lines.push_task.Given as goal

abbrev pub invariant-loop-number : goal.invariant-loop-number
invariant-loop-number l = l.text.items ≡ l.fn.text.items ++ text_of (flat_map (request_rows l.bounds.needs l.bounds.cap l.name l.task) (range_with_len 0 l.number))
