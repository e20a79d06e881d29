use Rattle.std.proofs.Common.{refl}
use Rattle.rtrace_form.specs.WrongBounds.{bounds_said}
use Rattle.rtrace.proofs.count.Counting.new.Goals as goal

pub returns-clause-knows : goal.returns-clause-knows
unfolding bounds_said
returns-clause-knows c = record { knows = c.new.ensures; bounds = c.new-2.ensures; events = refl; waits = refl }
