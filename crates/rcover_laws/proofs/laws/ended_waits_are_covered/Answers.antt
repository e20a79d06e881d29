use Rattle.rcover_laws.proofs.told.EndedCovers.{ended_waits_are_covered}
use Rattle.rcover_laws.proofs.laws.ended_waits_are_covered.Goals as goal

pub returns : goal.returns
returns c = ended_waits_are_covered
