use Rattle.std.proofs.Common.{◌++◌, ap, ◌∙◌}
use Rattle.rtrace_form.specs.Texts.{text_of}
use Rattle.rnlp_cli.specs.BoundText.{request_rows}
use Rattle.rnlp_cli.proofs.LinesBehind.{rows_more}
use Rattle.rnlp_cli.proofs.bound_lines.push_task.Goals as goal

pub loop-number-preserved : goal.loop-number-preserved
loop-number-preserved c =
    let rows = request_rows c.args.bounds.now.needs c.args.bounds.now.cap c.args.name.now c.args.task in
    c.in_ok-push_request.ensures ∙ ap (λ text. text ++ text_of (rows c.loop-number.number)) c.loop-number.invariant ∙ rows_more rows c.args.text.now.items c.loop-number.number
