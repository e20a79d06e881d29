use Rattle.std.specs.Prelude.{IsTrue}
use Rattle.rset.specs.declared.TheConstants.{RESOURCES}
use Rattle.rexpand.specs.Groups.{no_groups}
use Rattle.rguard.specs.Resting.{Rests}
use Rattle.bench_sections.specs.Measure.{HasMade}
use Rattle.bench_sections.proofs.measure.run_job.Given as goal

abbrev pub invariant-loop-k : goal.invariant-loop-k
invariant-loop-k g l = Rests (no_groups RESOURCES) l.lock l.seat × (IsTrue l.done → HasMade l.asked l.lock l.job.set l.k l.seat)
