use Rattle.std.proofs.Common.{length, ◌==◌}
use Rattle.std.specs.List.{slice_split}
use Rattle.rtrace_form.proofs.SetNames.{IsGathered}
use Rattle.rtrace_form.proofs.sets.joined_of.Given as goal

-- the pieces so far have named the members of the set
abbrev pub invariant-loop-name : goal.invariant-loop-name
invariant-loop-name l = IsGathered l.names (slice_split (λ b. b == 43) l.fn.field) (length l.yielded) l.set
