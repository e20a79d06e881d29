use Rattle.std.proofs.Common.{[], ◌∷◌, ◌++◌, ap, ◌∙◌}
use Rattle.rvalue.specs.declared.ledger.Ledger.{Ledger}
use Rattle.rvalue.specs.declared.ledger.Edit.{Edit}
use Rattle.rguard.specs.Seats.{SeatOf}
use Rattle.rguard.proofs.Taking.{one_taken, others_left}
use Rattle.bench_sections.specs.Measure.{HasMadeAll}
use Rattle.bench_sections.proofs.measure.seats_of.Goals as goal

pub loop-job-preserved-in-Continue-1 : goal.loop-job-preserved-in-Continue-1
loop-job-preserved-in-Continue-1 c =
    record {
      taken =
          one_taken (HasMadeAll c.args.asked.now c.args.lock.now) (λ j. j.seat) c.loop-job.job-iterator.rest.items c.next.new.self.rest.items c.in-Some.job c.in-Some.ensures.steps.0 c.loop-job.invariant.left
          c.loop-job.seats.items c.push.new.self.items c.in-Some-seat.seat c.loop-job.invariant.taken c.in-Some-seat.is (c.in_ok-push.ensures.items ∙ ap (λ (s : SeatOf Ledger Edit). c.loop-job.seats.items ++ s ∷ []) c.in-Some-seat.seat-is);
      left = others_left (HasMadeAll c.args.asked.now c.args.lock.now) (λ j. j.seat) c.loop-job.job-iterator.rest.items c.next.new.self.rest.items c.in-Some.job c.in-Some.ensures.steps.0 c.loop-job.invariant.left;
    }
