use Rattle.std.proofs.Common.{List, Option, ℕ, [], ◌∷◌, ◌++◌, sym, ap, ◌∙◌}
use Rattle.std.proofs.lemmas.List.{append-nil}
use Rattle.std.proofs.lemmas.Result.{on_err_weaker}
use Rattle.rtrace_form.specs.Lines.{Happens}
use Rattle.rtrace_write.specs.Told.{step_told}
use Rattle.rtrace_write.specs.Open.{open_line}
use Rattle.rtrace_write.proofs.Opening.{line_alone, grew_none, grew_more}
use Rattle.rtrace_write.proofs.Results.{always_on_err}
use Rattle.rtrace_write.proofs.step.push_step.Goals as goal

pub returns-then-is_untold-clause-ok : goal.returns-then-is_untold-clause-ok
returns-then-is_untold-clause-ok c = line_alone c.args.names.now (Happens c.args.event.now) (step_told c.args.changes.now c.args.ended.now) c.args.text.now c.push_event.new.self c.in_ok-push_event.ensures.ok (c.is_untold.ensures c.if-is_untold.true)

pub returns-in_err-push_event-clause-err : goal.returns-in_err-push_event-clause-err
returns-in_err-push_event-clause-err c = always_on_err _ (grew_none c.args.names.now c.args.text.now c.push_event.new.self (Happens c.args.event.now ∷ step_told c.args.changes.now c.args.ended.now) c.in_err-push_event.ensures.err)

pub returns-clause-err : goal.returns-clause-err
returns-clause-err c =
    on_err_weaker c.push_told.result
    (grew_more c.args.names.now c.args.text.now c.push_event.new.self c.push_told.new.text (Happens c.args.event.now ∷ []) (step_told c.args.changes.now c.args.ended.now)
    (c.in_ok-push_event.ensures.ok ∙ ap (λ (t : List (Option ℕ)). c.args.text.now ++ t) (sym (append-nil (open_line c.args.names.now (Happens c.args.event.now))))))
    c.push_told.ensures.err
