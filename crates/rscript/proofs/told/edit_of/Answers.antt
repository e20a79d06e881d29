use Rattle.std.proofs.Common.{sym, ap, subst, ◌∙◌}
use Rattle.csv.specs.Records.{fields_of}
use Rattle.rset.specs.Names.{number_in}
use Rattle.rvalue.specs.declared.ledger.Edit.{Edit}
use Rattle.rtrace_form.specs.Numbers.{number_told}
use Rattle.rscript.specs.Told.{Tells}
use Rattle.rscript.specs.declared.statement.Statement.TheVariants as statement
use Rattle.rscript.proofs.record_facts.Tells.{edit_tells, edit_unknown, edit_no_number}
use Rattle.rscript.proofs.told.edit_of.Goals as goal

pub returns-in_default-clause-wrong : goal.returns-in_default-clause-wrong
returns-in_default-clause-wrong c =
    edit_unknown c.args.resources.now c.args.word (fields_of c.args.fields.now) c.requires.form c.requires.edit
    (ap (number_in c.args.resources.now) (sym c.field_of.ensures) ∙ sym c.number_of.ensures.value ∙ c.in_default.is)

pub returns-in_default-number_of-clause-wrong : goal.returns-in_default-number_of-clause-wrong
returns-in_default-number_of-clause-wrong c =
    edit_no_number c.args.resources.now c.args.word (fields_of c.args.fields.now) c.requires.form c.requires.edit c.in-Some.place
    (ap (number_in c.args.resources.now) (sym c.field_of.ensures) ∙ sym c.number_of.ensures.value ∙ c.in-Some.is)
    (ap number_told (sym c.field_of-2.ensures) ∙ sym c.number_of-2.ensures ∙ c.in_default-number_of.is)

pub returns-clause-told : goal.returns-clause-told
returns-clause-told c =
    subst (λ (e : Edit). Tells c.args.resources.now c.args.word (fields_of c.args.fields.now) (statement.Edit c.in-Some.place e)) (sym c.edit_by.ensures)
    (edit_tells c.args.resources.now c.args.word (fields_of c.args.fields.now) c.requires.form c.requires.edit c.in-Some.place c.in-Some-number_of.number
    (ap (number_in c.args.resources.now) (sym c.field_of.ensures) ∙ sym c.number_of.ensures.value ∙ c.in-Some.is)
    (ap number_told (sym c.field_of-2.ensures) ∙ sym c.number_of-2.ensures ∙ c.in-Some-number_of.is))
