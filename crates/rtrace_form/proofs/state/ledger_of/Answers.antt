use Rattle.std.proofs.Common.{sym, ap, ◌∙◌}
use Rattle.csv.specs.Records.{fields_of}
use Rattle.rset.specs.Names.{number_in}
use Rattle.rtrace_form.specs.Numbers.{number_told}
use Rattle.rtrace_form.proofs.Said.{ledger_says, ledger_unknown, ledger_no_balance, ledger_no_edits}
use Rattle.rtrace_form.proofs.state.ledger_of.Goals as goal

pub returns-in_default-clause-wrong : goal.returns-in_default-clause-wrong
returns-in_default-clause-wrong c =
    ledger_no_balance c.args.resources.now c.args.tasks.now (fields_of c.args.fields.now) c.requires
    (ap number_told (sym c.field_of.ensures) ∙ sym c.number_of.ensures ∙ c.in_default.is)

pub returns-in_default-number_of-clause-wrong : goal.returns-in_default-number_of-clause-wrong
returns-in_default-number_of-clause-wrong c =
    ledger_no_edits c.args.resources.now c.args.tasks.now (fields_of c.args.fields.now) c.requires
    (ap number_told (sym c.field_of-2.ensures) ∙ sym c.number_of-2.ensures ∙ c.in_default-number_of.is)

pub returns-in-Some-number_of-2-clause-told : goal.returns-in-Some-number_of-2-clause-told
returns-in-Some-number_of-2-clause-told c =
    ledger_says c.args.resources.now c.args.tasks.now (fields_of c.args.fields.now) c.in-Some-number_of-2.place c.in-Some.balance c.in-Some-number_of.edits c.requires
    (ap (number_in c.args.resources.now) (sym c.field_of-3.ensures) ∙ sym c.number_of-3.ensures.value ∙ c.in-Some-number_of-2.is)
    (ap number_told (sym c.field_of.ensures) ∙ sym c.number_of.ensures ∙ c.in-Some.is)
    (ap number_told (sym c.field_of-2.ensures) ∙ sym c.number_of-2.ensures ∙ c.in-Some-number_of.is)

pub returns-in-None-clause-wrong : goal.returns-in-None-clause-wrong
returns-in-None-clause-wrong c =
    ledger_unknown c.args.resources.now c.args.tasks.now (fields_of c.args.fields.now) c.in-Some.balance c.in-Some-number_of.edits c.requires
    (ap (number_in c.args.resources.now) (sym c.field_of-3.ensures) ∙ sym c.number_of-3.ensures.value ∙ c.in-None.is)
    (ap number_told (sym c.field_of.ensures) ∙ sym c.number_of.ensures ∙ c.in-Some.is)
    (ap number_told (sym c.field_of-2.ensures) ∙ sym c.number_of-2.ensures ∙ c.in-Some-number_of.is)
