use Rattle.std.proofs.Common.{List, map}
use Rattle.rcover_laws.specs.declared.wait_end.WaitEnd.{WaitEnd}
use Rattle.rcover.specs.Past.{Past}
use Rattle.rtrace_write.specs.Behind.{bound_by}
use Rattle.rtrace_write.specs.Gathered.{AreBoundsIn}
use Rattle.rtrace_write.proofs.Filling.{IsFilled}
use Rattle.rtrace_write.proofs.open_text.fill.Given as goal

-- the gaps so far were filled
abbrev pub invariant-loop-number : goal.invariant-loop-number
invariant-loop-number l = (p : Past) (ws : List WaitEnd) → AreBoundsIn l.bounds l.gathered p ws → IsFilled (map (bound_by p) ws) l.gaps l.text l.number l.at l.closed.items
