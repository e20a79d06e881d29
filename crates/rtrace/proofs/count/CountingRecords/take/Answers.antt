use Rattle.std.proofs.Common.{◌+◌, true, refl, arith}
use Rattle.csv.specs.Records.{fields_of}
use Rattle.rtrace_form.specs.Faults.{read_all}
use Rattle.rtrace_form.proofs.texts.Lists.{entries_few}
use Rattle.rtrace_read.proofs.Names.{one_more}
use Rattle.rtrace_read.proofs.Results.{same_err}
use Rattle.rtrace.proofs.BoundSteps.{count_on, waits_few}
use Rattle.rtrace.proofs.count.CountingRecords.take.Goals as goal

pub take-requires : goal.take-requires
take-requires c =
    let few = entries_few true c.requires.0 in
    let small = c.requires.2 in
    (true, read_all true c.requires.0, c.requires.1.knows, omega (arith, few, small))

pub overflow_add-self : goal.overflow_add-self
overflow_add-self c =
    let few = entries_few true c.requires.0 in
    let small = c.requires.2 in
    let events = c.requires.1.events in
    let one = c.one_if_event.ensures.few in
    omega (arith, few, small, events, one)

pub overflow_add-self-2 : goal.overflow_add-self-2
overflow_add-self-2 c =
    let few = waits_few c.requires.0 in
    let small = c.requires.2 in
    let waits = c.requires.1.waits in
    let one = c.one_if_wait.ensures.few in
    omega (arith, few, small, waits, one)

pub returns-in-Err-clause-bad : goal.returns-in-Err-clause-bad
returns-in-Err-clause-bad c = λ cause is rows h. c.in-Err.ensures.bad cause (same_err is) true (read_all true rows) h.knows

pub take-requires-2 : goal.take-requires-2
take-requires-2 c = (
  c.args.self.now.reading,
  c.requires.0,
  fields_of c.args.fields.now,
  c.requires.1.bounds,
  record { knows = c.requires.1.knows; takes = c.in_default.ensures.taken; tells = c.in_default.ensures.bound },
  c.requires.2,
)

pub returns-clause-taken : goal.returns-clause-taken
returns-clause-taken c = λ rows h.
    let e = c.one_if_event.ensures.value in
    let n = c.one_if_wait.ensures.value in
    let row = fields_of c.args.fields.now in
    let bounds = c.in-Ok.ensures c.args.self.now.reading rows row h.bounds (record { knows = h.knows; takes = c.in_default.ensures.taken; tells = c.in_default.ensures.bound }) in
    count_on c.args.self.now (record c.args.self.now { reading = c.take.new.reading; bounds = c.take-2.new.self; events = c.args.self.now.events + c.one_if_event.result; waits = c.args.self.now.waits + c.one_if_wait.result; taken = c.take.new.taken })
    rows row c.take.new.taken h c.in_default.ensures.taken c.in_default.ensures.bound bounds (omega (arith, e)) (omega (arith, n))

pub returns-in-Err-clause-still : goal.returns-in-Err-clause-still
returns-in-Err-clause-still c = λ cause is. (
  c.in-Err.ensures.still cause (same_err is),
  one_more c.args.self.now.reading c.take.new.reading (fields_of c.args.fields.now) (c.in-Err.ensures.names cause (same_err is)),
  refl,
  refl,
  refl,
)

pub returns-in-Err-clause-names : goal.returns-in-Err-clause-names
returns-in-Err-clause-names c = λ cause is. c.in-Err.ensures.names cause (same_err is)
