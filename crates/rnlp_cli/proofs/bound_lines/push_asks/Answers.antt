use Rattle.std.proofs.Common.{◌++◌, ℕ, ap, ◌∙◌, rules}
use Rattle.rtrace_form.specs.Texts.{line_text}
use Rattle.rbound.specs.declared.which.Which.TheVariants.{Ask}
use Rattle.rnlp_cli.specs.BoundText.{wait_row}
use Rattle.rnlp_cli.proofs.LinesBehind.{row_more}
use Rattle.rnlp_cli.proofs.bound_lines.push_asks.Goals as goal

pub loop-i-preserved : goal.loop-i-preserved
loop-i-preserved c =
    let row = λ (i : ℕ). wait_row c.args.bounds.now.needs c.args.bounds.now.cap c.args.name.now c.args.task c.args.number (Ask i) in
    c.in_ok-push_wait.ensures ∙ ap (λ text. text ++ line_text (row c.loop-i.i)) c.loop-i.invariant ∙ row_more row c.args.text.now.items c.loop-i.i

pub loop-i-init : goal.loop-i-init
loop-i-init c = search rules
