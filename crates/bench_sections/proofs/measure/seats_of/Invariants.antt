use Rattle.std.specs.Prelude.{All, IsSomeAnd}
use Rattle.bench_sections.specs.Measure.{HasMadeAll}
use Rattle.bench_sections.proofs.measure.seats_of.Given as goal

abbrev pub invariant-loop-job : goal.invariant-loop-job
invariant-loop-job l =
    record {
      taken : All (HasMadeAll l.fn.asked l.lock) l.seats.items;
      left : All (λ j. IsSomeAnd j.seat (HasMadeAll l.fn.asked l.lock)) l.job-iterator.rest.items;
    }
