-- Events.
use Rattle.std.specs.Prelude.{ℕ}
use Rattle.rclaim.specs.declared.event.Event.{Event}
use Rattle.rclaim.specs.declared.event.Event.TheVariants.{Issue, Finish, Rise, Ask}
use Rattle.rclaim.specs.Requests.{IsNormal}

-- the seat whose event it is
abbrev pub seat_of : Event → ℕ
seat_of (Issue seat request) = seat
seat_of (Finish seat) = seat
seat_of (Rise seat) = seat
seat_of (Ask seat part) = seat

-- an issued request is in normal form, as each value of its type is
abbrev pub IsNormalEvent : Event → Type 0
IsNormalEvent (Issue seat request) = IsNormal request
IsNormalEvent (Finish seat) = Unit {0}
IsNormalEvent (Rise seat) = Unit {0}
IsNormalEvent (Ask seat part) = Unit {0}
