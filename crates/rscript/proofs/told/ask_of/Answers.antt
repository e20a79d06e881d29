use Rattle.std.proofs.Common.{sym, ap, ◌∙◌}
use Rattle.csv.specs.Records.{fields_of}
use Rattle.rtrace_form.specs.SetFields.{set_told}
use Rattle.rscript.proofs.record_facts.Tells.{ask_tells, ask_unknown}
use Rattle.rscript.proofs.told.ask_of.Goals as goal

pub returns-in-Some-clause-told : goal.returns-in-Some-clause-told
returns-in-Some-clause-told c =
    ask_tells c.args.resources.now (fields_of c.args.fields.now) c.in-Some.set c.requires (ap (set_told c.args.resources.now) (sym c.field_of.ensures) ∙ sym c.set_of.ensures.value ∙ c.in-Some.is)

pub returns-in-None-clause-wrong : goal.returns-in-None-clause-wrong
returns-in-None-clause-wrong c =
    ask_unknown c.args.resources.now (fields_of c.args.fields.now) c.requires (ap (set_told c.args.resources.now) (sym c.field_of.ensures) ∙ sym c.set_of.ensures.value ∙ c.in-None.is)
