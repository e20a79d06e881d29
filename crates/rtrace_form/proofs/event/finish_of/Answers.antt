use Rattle.std.proofs.Common.{sym, ap, ◌∙◌}
use Rattle.csv.specs.Records.{fields_of}
use Rattle.rset.specs.Names.{number_in}
use Rattle.rtrace_form.proofs.Said.{finish_says, finish_unknown}
use Rattle.rtrace_form.proofs.event.finish_of.Goals as goal

pub returns-in-Some-clause-told : goal.returns-in-Some-clause-told
returns-in-Some-clause-told c =
    finish_says c.args.resources.now c.args.tasks.now (fields_of c.args.fields.now) c.in-Some.seat c.requires
    (ap (number_in c.args.tasks.now) (sym c.field_of.ensures) ∙ sym c.number_of.ensures.value ∙ c.in-Some.is)

pub returns-in-None-clause-wrong : goal.returns-in-None-clause-wrong
returns-in-None-clause-wrong c =
    finish_unknown c.args.resources.now c.args.tasks.now (fields_of c.args.fields.now) c.requires
    (ap (number_in c.args.tasks.now) (sym c.field_of.ensures) ∙ sym c.number_of.ensures.value ∙ c.in-None.is)
