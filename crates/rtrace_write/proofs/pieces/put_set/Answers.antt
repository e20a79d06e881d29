use Rattle.std.proofs.Common.{◌++◌, take, refl, sym, ap, ◌∙◌}
use Rattle.std.proofs.lemmas.Bool.{true≢false}
use Rattle.rtrace_form.specs.SetFields.{name_at, set_text}
use Rattle.rtrace_form.specs.Texts.{behind_comma}
use Rattle.rtrace_write.proofs.Puts.{same}
use Rattle.rtrace_write.proofs.Sets.{empty_text, set_separated, all_written}
use Rattle.rtrace_write.proofs.pieces.put_set.Goals as goal

pub returns-then-is_empty-clause-text : goal.returns-then-is_empty-clause-text
returns-then-is_empty-clause-text c =
    same _ _ _ (behind_comma (set_text c.args.names.now.resources c.args.set)) c.put.ensures.text (empty_text c.args.names.now.resources c.args.set (c.if-is_empty.ensures.0 refl))

pub returns-clause-text : goal.returns-clause-text
returns-clause-text c =
    all_written (name_at c.args.names.now.resources) (take c.loop-member.at c.loop-member.page) _ c.loop-member.separator _ c.loop-member.invariant.put c.in-None.ensures.steps.0
    ∙ ap (λ xs. take c.args.at c.args.page.now ++ xs) (set_separated c.args.names.now.resources c.args.set c.iter-member-items.ensures.within
    (λ e. true≢false (sym (c.is_empty.ensures.1 e) ∙ c.if-is_empty.false)))
