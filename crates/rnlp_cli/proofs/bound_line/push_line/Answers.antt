use Rattle.std.proofs.Common.{◌++◌, codes, decimal, ap, ◌∙◌}
use Rattle.rtrace_form.specs.Texts.{behind_comma}
use Rattle.rnlp_cli.specs.BoundText.{which_word}
use Rattle.rnlp_cli.proofs.LinesBehind.{line_put}
use Rattle.rnlp_cli.proofs.bound_line.push_line.Goals as goal

pub returns : goal.returns
returns c =
    let b = c.args.bound.now in
    line_put c.args.text.now.items c.extend_from_slice.new.self.items c.push_field.new.text.items c.push_number.new.text.items c.push_field-2.new.text.items c.push_number-2.new.text.items c.push_number-3.new.text.items c.push_number-4.new.text.items
    c.push.new.self.items (codes "bound") (behind_comma c.args.name.now) (behind_comma (decimal c.args.number)) (behind_comma (which_word c.args.which)) (behind_comma (decimal b.reads)) (behind_comma (decimal b.writes)) (behind_comma (decimal b.units))
    c.in_ok-extend_from_slice.ensures.items c.in_ok-push_field.ensures c.in_ok-push_number.ensures (c.in_ok-push_field-2.ensures ∙ ap (λ word. c.push_number.new.text.items ++ behind_comma word) c.which_word.ensures) c.in_ok-push_number-2.ensures
    c.in_ok-push_number-3.ensures c.in_ok-push_number-4.ensures c.in_ok-push.ensures.items
