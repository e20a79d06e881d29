use Rattle.std.proofs.Common.{◌<◌, ℕ, length, Option, sym, subst, ◌∙◌, rules}
use Rattle.std.specs.Prelude.{IsSomeAnd}
use Rattle.rvalue.specs.declared.ledger.Edit.{Edit}
use Rattle.rvalue.specs.declared.ledger.Ledger.{Ledger}
use Rattle.rguard.specs.Seats.{SeatOf}
use Rattle.rrun.specs.Seats.{IsSeatFor}
use Rattle.rrun.proofs.jobs.work.Goals as goal

pub run_task-requires-clause-task : goal.run_task-requires-clause-task
run_task-requires-clause-task g c κs within =
    let is : IsSeatFor c.args.rnlp.now c.args.script.now c.args.task c.unwrap-seat.result = subst (λ (o : Option (SeatOf Ledger Edit)). IsSomeAnd o (IsSeatFor c.args.rnlp.now c.args.script.now c.args.task)) (sym c.take.ensures.value ∙ c.unwrap-seat.ensures) c.requires.ready in
    subst (λ (k : ℕ). k < length c.args.script.now.tasks) (sym (c.number-task.ensures ∙ is.number)) c.requires.task

pub run_task-requires-clause-seat : goal.run_task-requires-clause-seat
run_task-requires-clause-seat g c κs within =
    let is : IsSeatFor c.args.rnlp.now c.args.script.now c.args.task c.unwrap-seat.result = subst (λ (o : Option (SeatOf Ledger Edit)). IsSomeAnd o (IsSeatFor c.args.rnlp.now c.args.script.now c.args.task)) (sym c.take.ensures.value ∙ c.unwrap-seat.ensures) c.requires.ready in
    subst (λ (k : ℕ). IsSeatFor c.args.rnlp.now c.args.script.now k c.unwrap-seat.result) (sym (c.number-task.ensures ∙ is.number)) is

pub returns-in-Ok : goal.returns-in-Ok
returns-in-Ok g c = search rules
