use Rattle.std.proofs.Common.{Some, sym, ap, ◌∙◌}
use Rattle.csv.specs.Records.{fields_of}
use Rattle.rset.specs.Names.{number_in}
use Rattle.rclaim.specs.declared.event.Event.TheVariants.{Issue}
use Rattle.rtrace_form.specs.Numbers.{length_told}
use Rattle.rtrace_form.specs.SetFields.{set_told}
use Rattle.rtrace_form.specs.Requests.{request_told, with_part}
use Rattle.rtrace_form.specs.declared.requests.RequestLengths.{RequestLengths}
use Rattle.rtrace_form.proofs.Issues.{issue_says, issue_unknown, issue_no_task, issue_uncounted, plain_lengths, plain_uncounted, plain_sets, plain_unknown}
use Rattle.rtrace_form.proofs.event.plain_issue_of.Goals as goal

pub returns-in_default-clause-wrong : goal.returns-in_default-clause-wrong
returns-in_default-clause-wrong c =
    let row = fields_of c.args.fields.now in
    issue_uncounted c.args.resources.now c.args.tasks.now row c.args.kind c.requires.form
    (plain_uncounted c.args.kind row c.requires.plain (ap length_told (sym c.field_of.ensures) ∙ sym c.length_of.ensures.value ∙ c.in_default.is))

pub returns-in_default-number_of-clause-wrong : goal.returns-in_default-number_of-clause-wrong
returns-in_default-number_of-clause-wrong c =
    let row = fields_of c.args.fields.now in
    issue_no_task c.args.resources.now c.args.tasks.now row c.args.kind (record { len = c.in-Some.len; later = 0 }) c.requires.form
    (plain_lengths c.args.kind row c.in-Some.len c.requires.plain (ap length_told (sym c.field_of.ensures) ∙ sym c.length_of.ensures.value ∙ c.in-Some.is))
    (ap (number_in c.args.tasks.now) (sym c.field_of-2.ensures) ∙ sym c.number_of.ensures.value ∙ c.in_default-number_of.is)

pub returns-in_default-set_of-clause-wrong : goal.returns-in_default-set_of-clause-wrong
returns-in_default-set_of-clause-wrong c =
    let row = fields_of c.args.fields.now in
    issue_unknown c.args.resources.now c.args.tasks.now row c.args.kind (record { len = c.in-Some.len; later = 0 }) c.in-Some-number_of.seat c.requires.form
    (plain_lengths c.args.kind row c.in-Some.len c.requires.plain (ap length_told (sym c.field_of.ensures) ∙ sym c.length_of.ensures.value ∙ c.in-Some.is))
    (ap (number_in c.args.tasks.now) (sym c.field_of-2.ensures) ∙ sym c.number_of.ensures.value ∙ c.in-Some-number_of.is)
    (plain_unknown c.args.resources.now c.args.kind row c.requires.plain (ap (set_told c.args.resources.now) (sym c.field_of-3.ensures) ∙ sym c.set_of.ensures.value ∙ c.in_default-set_of.is))

pub returns-in-Ok-clause-told : goal.returns-in-Ok-clause-told
returns-in-Ok-clause-told c =
    let row = fields_of c.args.fields.now in
    let set = c.in-Some-set_of.set in
    let sets = with_part set set c.empty.result in
    let lengths : RequestLengths = record { len = c.in-Some.len; later = 0 } in
    let says = issue_says c.args.resources.now c.args.tasks.now row c.args.kind lengths c.in-Some-number_of.seat sets c.requires.form
    (plain_lengths c.args.kind row c.in-Some.len c.requires.plain (ap length_told (sym c.field_of.ensures) ∙ sym c.length_of.ensures.value ∙ c.in-Some.is))
    (ap (number_in c.args.tasks.now) (sym c.field_of-2.ensures) ∙ sym c.number_of.ensures.value ∙ c.in-Some-number_of.is)
    (plain_sets c.args.resources.now c.args.kind row set c.requires.plain (ap (set_told c.args.resources.now) (sym c.field_of-3.ensures) ∙ sym c.set_of.ensures.value ∙ c.in-Some-set_of.is)
    ∙ ap (λ first. Some (with_part set set first)) (sym c.empty.ensures)) in
    (Issue c.in-Some-number_of.seat (request_told c.args.kind sets lengths), says, (ap (Issue c.in-Some-number_of.seat) (sym c.in-Ok.ensures.0), c.in-Ok.ensures.1))

pub returns-in-Err-clause-told : goal.returns-in-Err-clause-told
returns-in-Err-clause-told c =
    let row = fields_of c.args.fields.now in
    let set = c.in-Some-set_of.set in
    let sets = with_part set set c.empty.result in
    let lengths : RequestLengths = record { len = c.in-Some.len; later = 0 } in
    let says = issue_says c.args.resources.now c.args.tasks.now row c.args.kind lengths c.in-Some-number_of.seat sets c.requires.form
    (plain_lengths c.args.kind row c.in-Some.len c.requires.plain (ap length_told (sym c.field_of.ensures) ∙ sym c.length_of.ensures.value ∙ c.in-Some.is))
    (ap (number_in c.args.tasks.now) (sym c.field_of-2.ensures) ∙ sym c.number_of.ensures.value ∙ c.in-Some-number_of.is)
    (plain_sets c.args.resources.now c.args.kind row set c.requires.plain (ap (set_told c.args.resources.now) (sym c.field_of-3.ensures) ∙ sym c.set_of.ensures.value ∙ c.in-Some-set_of.is)
    ∙ ap (λ first. Some (with_part set set first)) (sym c.empty.ensures)) in
    (Issue c.in-Some-number_of.seat (request_told c.args.kind sets lengths), says, c.in-Err.ensures)
