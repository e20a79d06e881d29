use Rattle.std.specs.Prelude.{All, IsSomeAnd}
use Rattle.bench_sections.specs.Measure.{HasMade}
use Rattle.bench_sections.proofs.measure.jobs_for.Given as goal

abbrev pub invariant-loop-seat : goal.invariant-loop-seat
invariant-loop-seat g l = All (λ j. IsSomeAnd j.seat (HasMade l.asked l.lock j.set 0)) l.jobs.items
