-- How many requests are complete by some events.
use Rattle.std.specs.Prelude.{ℕ, ◌+◌, List, [], ◌∷◌}
use Rattle.rclaim.specs.declared.event.Event.{Event}
use Rattle.rclaim.specs.declared.event.Event.TheVariants.{Issue, Finish, Rise, Ask}

-- an event completes a request, or none
abbrev pub completes : Event → ℕ
completes (Issue seat request) = 0
completes (Finish seat) = 1
completes (Rise seat) = 0
completes (Ask seat part) = 0

abbrev pub completed_by : List Event → ℕ
completed_by [] = 0
completed_by (e ∷ es) = completes e + completed_by es
