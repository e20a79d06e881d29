use Rattle.std.proofs.Common.{sym, ap, subst, ◌∙◌}
use Rattle.csv.specs.Records.{fields_of}
use Rattle.rset.specs.Names.{number_in}
use Rattle.rclaim.specs.declared.changes.StatusChange.{StatusChange}
use Rattle.rtrace_form.specs.Reports.{status_line}
use Rattle.rtrace_form.specs.Told.{Says, names_by, change_by}
use Rattle.rtrace_form.proofs.Said.{change_says, change_seat, change_unknown}
use Rattle.rtrace_form.proofs.state.change_of.Goals as goal

pub returns-in-Some-clause-told : goal.returns-in-Some-clause-told
returns-in-Some-clause-told c =
    let said = change_says c.args.resources.now c.args.tasks.now (fields_of c.args.fields.now) c.args.word c.in-Some.seat c.requires.change c.requires.form
    (ap (number_in c.args.tasks.now) (sym c.field_of.ensures) ∙ sym c.number_of.ensures.value ∙ c.in-Some.is) in
    subst (λ (change : StatusChange). Says (names_by c.args.resources.now c.args.tasks.now) c.args.word (fields_of c.args.fields.now) (status_line change)) (sym c.change_by.ensures) said

pub returns-in-Some-clause-change : goal.returns-in-Some-clause-change
returns-in-Some-clause-change c =
    let same = ap (λ (change : StatusChange). change.seat) c.change_by.ensures ∙ change_seat c.args.word c.in-Some.seat in
    c.change_by.ensures ∙ ap (change_by c.args.word) (sym same)

pub returns-in-None-clause-wrong : goal.returns-in-None-clause-wrong
returns-in-None-clause-wrong c =
    change_unknown c.args.resources.now c.args.tasks.now (fields_of c.args.fields.now) c.args.word c.requires.change c.requires.form
    (ap (number_in c.args.tasks.now) (sym c.field_of.ensures) ∙ sym c.number_of.ensures.value ∙ c.in-None.is)
