-- Which wait begins with an event that is no issue.
use Rattle.std.specs.Prelude.{ℕ, ◌==◌, Bool, false}
use Rattle.rclaim.specs.declared.event.Event.{Event}
use Rattle.rclaim.specs.declared.event.Event.TheVariants.{Issue, Finish, Rise, Ask}

-- the upgrade of a seat rises by an event
abbrev pub rises_at : Event → ℕ → Bool
rises_at (Issue t r) seat = false
rises_at (Finish t) seat = false
rises_at (Rise t) seat = t == seat
rises_at (Ask t part) seat = false
