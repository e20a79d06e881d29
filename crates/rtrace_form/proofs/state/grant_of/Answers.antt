use Rattle.std.proofs.Common.{sym, ap, ◌∙◌}
use Rattle.csv.specs.Records.{fields_of}
use Rattle.rset.specs.Names.{number_in}
use Rattle.rtrace_form.specs.SetFields.{set_told}
use Rattle.rtrace_form.proofs.Said.{grant_says, grant_no_task, grant_unknown}
use Rattle.rtrace_form.proofs.state.grant_of.Goals as goal

pub returns-in_default-clause-wrong : goal.returns-in_default-clause-wrong
returns-in_default-clause-wrong c =
    grant_no_task c.args.resources.now c.args.tasks.now (fields_of c.args.fields.now) c.requires
    (ap (number_in c.args.tasks.now) (sym c.field_of.ensures) ∙ sym c.number_of.ensures.value ∙ c.in_default.is)

pub returns-in-Some-set_of-clause-told : goal.returns-in-Some-set_of-clause-told
returns-in-Some-set_of-clause-told c =
    grant_says c.args.resources.now c.args.tasks.now (fields_of c.args.fields.now) c.in-Some.seat c.in-Some-set_of.set c.requires
    (ap (number_in c.args.tasks.now) (sym c.field_of.ensures) ∙ sym c.number_of.ensures.value ∙ c.in-Some.is)
    (ap (set_told c.args.resources.now) (sym c.field_of-2.ensures) ∙ sym c.set_of.ensures.value ∙ c.in-Some-set_of.is)

pub returns-in-None-clause-wrong : goal.returns-in-None-clause-wrong
returns-in-None-clause-wrong c =
    grant_unknown c.args.resources.now c.args.tasks.now (fields_of c.args.fields.now) c.in-Some.seat c.requires
    (ap (number_in c.args.tasks.now) (sym c.field_of.ensures) ∙ sym c.number_of.ensures.value ∙ c.in-Some.is)
    (ap (set_told c.args.resources.now) (sym c.field_of-2.ensures) ∙ sym c.set_of.ensures.value ∙ c.in-None.is)
