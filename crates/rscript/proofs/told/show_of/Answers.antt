use Rattle.std.proofs.Common.{sym, ap, ◌∙◌}
use Rattle.csv.specs.Records.{fields_of}
use Rattle.rset.specs.Names.{number_in}
use Rattle.rscript.proofs.record_facts.Tells.{show_tells, show_unknown}
use Rattle.rscript.proofs.told.show_of.Goals as goal

pub returns-in-Some-clause-told : goal.returns-in-Some-clause-told
returns-in-Some-clause-told c =
    show_tells c.args.resources.now (fields_of c.args.fields.now) c.in-Some.place c.requires (ap (number_in c.args.resources.now) (sym c.field_of.ensures) ∙ sym c.number_of.ensures.value ∙ c.in-Some.is)

pub returns-in-None-clause-wrong : goal.returns-in-None-clause-wrong
returns-in-None-clause-wrong c =
    show_unknown c.args.resources.now (fields_of c.args.fields.now) c.requires (ap (number_in c.args.resources.now) (sym c.field_of.ensures) ∙ sym c.number_of.ensures.value ∙ c.in-None.is)
