use Rattle.std.proofs.Common.{◌≡◌, ◌++◌, ℕ, flat_map, length, string_bytes, subst, ◌∙◌, arith}
use Rattle.std.specs.List.{range_with_len}
use Rattle.std.specs.Prelude.{slice_get}
use Rattle.rtrace_form.specs.SetFields.{name_at}
use Rattle.rnlp_edge.specs.Lines.{stopped_line}
use Rattle.rnlp_edge.proofs.TaskLines.{lines_more}
use Rattle.rnlp_edge.proofs.lines.push_tasks.Goals as goal

pub loop-task-preserved : goal.loop-task-preserved
loop-task-preserved c =
    lines_more (string_bytes c.args.lines.now) (string_bytes c.loop-task.lines) (string_bytes c.push_task.new.lines) (λ (task : ℕ). stopped_line (name_at c.args.names.now task) (slice_get c.args.sections.now task)) c.loop-task.task
    c.loop-task.invariant (c.in_ok-push_task.ensures ∙ (λ i. string_bytes c.loop-task.lines ++ stopped_line (c.name_in-name.ensures i) (c.stopped_at.ensures i)))

pub returns : goal.returns
returns c =
    let all : c.loop-task.task ≡ length c.args.names.now = omega (arith, c.loop-task.auto.task-end, c.loop-task-test.false, c.len-task-end.ensures.value) in
    subst (λ (n : ℕ). string_bytes c.loop-task.lines ≡ string_bytes c.args.lines.now ++ flat_map (λ (task : ℕ). stopped_line (name_at c.args.names.now task) (slice_get c.args.sections.now task)) (range_with_len 0 n)) all c.loop-task.invariant
