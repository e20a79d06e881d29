use Rattle.std.proofs.Common.{sym, ap, subst, ◌∙◌}
use Rattle.csv.specs.Records.{fields_of}
use Rattle.rset.specs.Names.{number_in}
use Rattle.rvalue.specs.declared.act.Act.{Act}
use Rattle.rvalue.specs.declared.ledger.Edit.{Edit}
use Rattle.rtrace_form.specs.Numbers.{number_told}
use Rattle.rtrace_form.specs.Lines.{Does}
use Rattle.rtrace_form.specs.Told.{Says, names_by}
use Rattle.rtrace_form.proofs.Said.{act_says, act_unknown, act_uncounted}
use Rattle.rtrace_form.proofs.act.act_of.Goals as goal

pub returns-in_default-clause-wrong : goal.returns-in_default-clause-wrong
returns-in_default-clause-wrong c =
    act_uncounted c.args.resources.now c.args.tasks.now (fields_of c.args.fields.now) c.args.word c.requires.act c.requires.form
    (ap number_told (sym c.field_of.ensures) ∙ sym c.number_of.ensures ∙ c.in_default.is)

pub returns-in_default-number_of-clause-wrong : goal.returns-in_default-number_of-clause-wrong
returns-in_default-number_of-clause-wrong c =
    act_unknown c.args.resources.now c.args.tasks.now (fields_of c.args.fields.now) c.args.word c.in-Some.number c.requires.act c.requires.form
    (ap (number_in c.args.resources.now) (sym c.field_of-2.ensures) ∙ sym c.number_of-2.ensures.value ∙ c.in_default-number_of.is)
    (ap number_told (sym c.field_of.ensures) ∙ sym c.number_of.ensures ∙ c.in-Some.is)

pub returns-clause-told : goal.returns-clause-told
returns-clause-told c =
    let said = act_says c.args.resources.now c.args.tasks.now (fields_of c.args.fields.now) c.args.word c.in-Some-number_of.place c.in-Some.number c.requires.act c.requires.form
    (ap (number_in c.args.resources.now) (sym c.field_of-2.ensures) ∙ sym c.number_of-2.ensures.value ∙ c.in-Some-number_of.is)
    (ap number_told (sym c.field_of.ensures) ∙ sym c.number_of.ensures ∙ c.in-Some.is) in
    subst (λ (act : Act Edit). Says (names_by c.args.resources.now c.args.tasks.now) c.args.word (fields_of c.args.fields.now) (Does act)) (sym c.act_by.ensures.act) said
