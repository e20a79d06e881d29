use Rattle.std.proofs.Common.{List, subst, rules}
use Rattle.std.proofs.lemmas.List.Elements.{All-tail}
use Rattle.std.specs.Prelude.{All, IsSome}
use Rattle.std.specs.Vec.Iter.{into_iter_items}
use Rattle.rvalue.specs.declared.ledger.Edit.{Edit}
use Rattle.rvalue.specs.declared.ledger.Ledger.{Ledger}
use Rattle.rguard.specs.Seats.{SeatOf}
use Rattle.rrun.specs.declared.jobs.Job.{Job}
use Rattle.rrun.proofs.Ending.{ended_more}
use Rattle.rrun.proofs.tasks.ended_of.Goals as goal

pub loop-job-preserved : goal.loop-job-preserved
loop-job-preserved g c = (
  All-tail (λ (job : Job (SeatOf Ledger Edit)). IsSome job.seat) c.in-Some.job (into_iter_items c.next.new.self)
      (subst (λ (jobs : List (Job (SeatOf Ledger Edit))). All (λ (job : Job (SeatOf Ledger Edit)). IsSome job.seat) jobs) c.in-Some.ensures.steps.0 c.loop-job.invariant.0),
  search rules,
  ended_more {M = g.row.M.Denot} c.loop-job.ended.items c.push_reserved.new.self.items (into_iter_items c.next.new.self) c.args.jobs.items (into_iter_items c.loop-job.job-iterator) c.in-Some.job c.unwrap-seat.result
      c.in-Some.ensures.steps.0 c.unwrap-seat.ensures c.push_reserved.ensures.items c.loop-job.invariant.2,
)
