use Rattle.std.proofs.Common.{sym, ap, ◌∙◌}
use Rattle.csv.specs.Records.{fields_of}
use Rattle.rset.specs.Names.{number_in}
use Rattle.rclaim.specs.declared.event.Event.TheVariants.{Issue}
use Rattle.rtrace_form.specs.Requests.{request_told}
use Rattle.rtrace_form.proofs.Issues.{issue_says, issue_unknown, issue_no_task, issue_uncounted}
use Rattle.rtrace_form.proofs.event.issue_of.Goals as goal

pub returns-in_default-clause-wrong : goal.returns-in_default-clause-wrong
returns-in_default-clause-wrong c =
    issue_uncounted c.args.resources.now c.args.tasks.now (fields_of c.args.fields.now) c.args.kind c.requires (sym c.lengths_of.ensures.value ∙ c.in_default.is)

pub returns-in_default-number_of-clause-wrong : goal.returns-in_default-number_of-clause-wrong
returns-in_default-number_of-clause-wrong c =
    issue_no_task c.args.resources.now c.args.tasks.now (fields_of c.args.fields.now) c.args.kind c.in-Some.lengths c.requires (sym c.lengths_of.ensures.value ∙ c.in-Some.is)
    (ap (number_in c.args.tasks.now) (sym c.field_of.ensures) ∙ sym c.number_of.ensures.value ∙ c.in_default-number_of.is)

pub returns-in_default-sets_of-clause-wrong : goal.returns-in_default-sets_of-clause-wrong
returns-in_default-sets_of-clause-wrong c =
    issue_unknown c.args.resources.now c.args.tasks.now (fields_of c.args.fields.now) c.args.kind c.in-Some.lengths c.in-Some-number_of.seat c.requires (sym c.lengths_of.ensures.value ∙ c.in-Some.is)
    (ap (number_in c.args.tasks.now) (sym c.field_of.ensures) ∙ sym c.number_of.ensures.value ∙ c.in-Some-number_of.is)
    (sym c.sets_of.ensures.value ∙ c.in_default-sets_of.is)

pub returns-in-Ok-clause-told : goal.returns-in-Ok-clause-told
returns-in-Ok-clause-told c = (
  Issue c.in-Some-number_of.seat (request_told c.args.kind c.in-Some-sets_of.sets c.in-Some.lengths),
  issue_says c.args.resources.now c.args.tasks.now (fields_of c.args.fields.now) c.args.kind c.in-Some.lengths c.in-Some-number_of.seat c.in-Some-sets_of.sets c.requires (sym c.lengths_of.ensures.value ∙ c.in-Some.is)
      (ap (number_in c.args.tasks.now) (sym c.field_of.ensures) ∙ sym c.number_of.ensures.value ∙ c.in-Some-number_of.is)
      (sym c.sets_of.ensures.value ∙ c.in-Some-sets_of.is),
  (ap (Issue c.in-Some-number_of.seat) (sym c.in-Ok.ensures.0), c.in-Ok.ensures.1),
)

pub returns-in-Err-clause-told : goal.returns-in-Err-clause-told
returns-in-Err-clause-told c = (
  Issue c.in-Some-number_of.seat (request_told c.args.kind c.in-Some-sets_of.sets c.in-Some.lengths),
  issue_says c.args.resources.now c.args.tasks.now (fields_of c.args.fields.now) c.args.kind c.in-Some.lengths c.in-Some-number_of.seat c.in-Some-sets_of.sets c.requires (sym c.lengths_of.ensures.value ∙ c.in-Some.is)
      (ap (number_in c.args.tasks.now) (sym c.field_of.ensures) ∙ sym c.number_of.ensures.value ∙ c.in-Some-number_of.is)
      (sym c.sets_of.ensures.value ∙ c.in-Some-sets_of.is),
  c.in-Err.ensures,
)
