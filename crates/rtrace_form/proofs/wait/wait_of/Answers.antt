use Rattle.std.proofs.Common.{sym, ap, ◌∙◌}
use Rattle.std.specs.Prelude.{option_map}
use Rattle.csv.specs.Records.{fields_of}
use Rattle.rset.specs.Names.{number_in}
use Rattle.rtrace_form.specs.Bounds.{numbers_in}
use Rattle.rtrace_form.proofs.WaitRecords.{wait_says, wait_unknown, wait_no_cover, wait_no_bound}
use Rattle.rtrace_form.proofs.wait.wait_of.Goals as goal

pub returns-in_default-clause-wrong : goal.returns-in_default-clause-wrong
returns-in_default-clause-wrong c =
    wait_no_cover c.args.resources.now c.args.tasks.now (fields_of c.args.fields.now) c.args.stage c.requires
    (sym c.numbers_at.ensures ∙ ap (option_map numbers_in) c.in_default.is)

pub returns-in_default-numbers_at-clause-wrong : goal.returns-in_default-numbers_at-clause-wrong
returns-in_default-numbers_at-clause-wrong c =
    wait_no_bound c.args.resources.now c.args.tasks.now (fields_of c.args.fields.now) c.args.stage c.requires (numbers_in c.in-Some.cover)
    (sym c.numbers_at.ensures ∙ ap (option_map numbers_in) c.in-Some.is)
    (sym c.numbers_at-2.ensures ∙ ap (option_map numbers_in) c.in_default-numbers_at.is)

pub returns-in-Some-number_of-clause-told : goal.returns-in-Some-number_of-clause-told
returns-in-Some-number_of-clause-told c =
    wait_says c.args.resources.now c.args.tasks.now (fields_of c.args.fields.now) c.args.stage c.requires
    c.in-Some-number_of.seat (numbers_in c.in-Some.cover) (numbers_in c.in-Some-numbers_at.bound)
    (ap (number_in c.args.tasks.now) (sym c.field_of.ensures) ∙ sym c.number_of.ensures.value ∙ c.in-Some-number_of.is)
    (sym c.numbers_at.ensures ∙ ap (option_map numbers_in) c.in-Some.is)
    (sym c.numbers_at-2.ensures ∙ ap (option_map numbers_in) c.in-Some-numbers_at.is)

pub returns-in-None-clause-wrong : goal.returns-in-None-clause-wrong
returns-in-None-clause-wrong c =
    wait_unknown c.args.resources.now c.args.tasks.now (fields_of c.args.fields.now) c.args.stage c.requires
    (numbers_in c.in-Some.cover) (numbers_in c.in-Some-numbers_at.bound)
    (ap (number_in c.args.tasks.now) (sym c.field_of.ensures) ∙ sym c.number_of.ensures.value ∙ c.in-None.is)
    (sym c.numbers_at.ensures ∙ ap (option_map numbers_in) c.in-Some.is)
    (sym c.numbers_at-2.ensures ∙ ap (option_map numbers_in) c.in-Some-numbers_at.is)
