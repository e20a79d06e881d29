use Rattle.std.proofs.Common.{refl, []}
use Rattle.rtrace_form.specs.WrongBounds.{bounds_said}
use Rattle.rtrace_form.specs.Waits.{ended_from}
use Rattle.rtrace.proofs.bounds.BoundsKept.new.Goals as goal

pub returns : goal.returns
unfolding bounds_said ended_from
returns c = record { items = []; records = refl; bounds = refl; below = tt; waits = refl; told = (refl, refl) }
