use Rattle.bench_sections.proofs.Records.{HasFrom}
use Rattle.bench_sections.proofs.measure.resources_from.Given as goal

abbrev pub invariant-loop-k : goal.invariant-loop-k
invariant-loop-k l = HasFrom l.first l.k l.set
