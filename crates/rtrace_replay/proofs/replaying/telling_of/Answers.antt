use Rattle.std.proofs.Common.{ℕ, [], subst}
use Rattle.rtrace_read.specs.Past.{begun}
use Rattle.rtrace_write.specs.Gathered.{KnowsGathered}
use Rattle.rtrace_replay.proofs.replaying.telling_of.Goals as goal

pub returns-clause-gathered : goal.returns-clause-gathered
returns-clause-gathered c = λ groups cap. subst (λ (seats : ℕ). KnowsGathered c.in_ok-new-2.field-0 (begun groups seats cap) []) c.len.ensures.value (c.in_ok-new-2.ensures groups cap)
