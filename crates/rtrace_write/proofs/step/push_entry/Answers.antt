use Rattle.std.proofs.Common.{List, Option, ℕ, [], ◌∷◌, ◌++◌, map, sym, ap, subst, ◌∙◌}
use Rattle.std.proofs.lemmas.List.{append-nil}
use Rattle.std.proofs.lemmas.Result.{on_err_weaker}
use Rattle.rvalue.specs.declared.act.Act.{Act}
use Rattle.rvalue.specs.declared.ledger.Edit.{Edit}
use Rattle.rtrace_form.specs.Lines.{Happens, Does}
use Rattle.rtrace_form.specs.Reports.{Entry}
use Rattle.rtrace_write.specs.Told.{entry_told, step_told}
use Rattle.rtrace_write.specs.Open.{open_line, open_told, GrewBySome}
use Rattle.rtrace_write.proofs.Opening.{grew_none, grew_less, grew_more}
use Rattle.rtrace_write.proofs.Results.{always_on_err}
use Rattle.rtrace_write.proofs.step.push_entry.Goals as goal

pub returns-in_err-push_event-clause-err : goal.returns-in_err-push_event-clause-err
returns-in_err-push_event-clause-err c = always_on_err _ (grew_none c.args.names.now c.args.text.now c.push_event.new.self (entry_told c.args.entry.now c.args.changes.now c.args.ended.now) c.in_err-push_event.ensures.err)

pub returns-in_err-push_acts-clause-err : goal.returns-in_err-push_acts-clause-err
returns-in_err-push_acts-clause-err c =
    let names = c.args.names.now in
    let event = Happens c.entry.inside.event in
    let acts = map Does c.entry.inside.acts.items in
    let told = step_told c.args.changes.now c.args.ended.now in
    let begun = c.in_ok-push_event.ensures.ok ∙ ap (λ (t : List (Option ℕ)). c.args.text.now ++ t) (sym (append-nil (open_line names event))) in
    let some = subst (λ (items : List (Act Edit)). GrewBySome names c.push_event.new.self c.push_acts.new.text (map Does items)) c.deref.ensures.value c.in_err-push_acts.ensures.err in
    always_on_err _ (subst (λ (entry : Entry). GrewBySome names c.args.text.now c.push_acts.new.text (entry_told entry c.args.changes.now c.args.ended.now)) c.entry.view_is
    (grew_more names c.args.text.now c.push_event.new.self c.push_acts.new.text (event ∷ []) (acts ++ told) begun (grew_less names c.push_event.new.self c.push_acts.new.text acts told some)))

pub returns-clause-err : goal.returns-clause-err
returns-clause-err c =
    let names = c.args.names.now in
    let event = Happens c.entry.inside.event in
    let acts = map Does c.entry.inside.acts.items in
    let told = step_told c.args.changes.now c.args.ended.now in
    let begun = c.in_ok-push_event.ensures.ok ∙ ap (λ (t : List (Option ℕ)). c.args.text.now ++ t) (sym (append-nil (open_line names event))) in
    let done = c.in_ok-push_acts.ensures.ok ∙ ap (λ (items : List (Act Edit)). c.push_event.new.self ++ open_told names (map Does items)) c.deref.ensures.value in
    on_err_weaker c.push_told.result
    (λ (some : GrewBySome names c.push_acts.new.text c.push_told.new.text told).
    subst (λ (entry : Entry). GrewBySome names c.args.text.now c.push_told.new.text (entry_told entry c.args.changes.now c.args.ended.now)) c.entry.view_is
    (grew_more names c.args.text.now c.push_event.new.self c.push_told.new.text (event ∷ []) (acts ++ told) begun
    (grew_more names c.push_event.new.self c.push_acts.new.text c.push_told.new.text acts told done some)))
    c.push_told.ensures.err
