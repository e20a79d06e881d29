-- Seats of a lock, and what a call makes of a seat.
use Rattle.std.specs.Prelude.{◌≡◌, ◌+◌, ◌<◌, ◌≤◌, ◌⊎◌, Bool, true, false, IsTrue, Some, List, [], ◌++◌, fold}
use mathlib.Core.List.{IsPrefix}
use Rattle.rset.specs.Sets.{all_below}
use Rattle.rclaim.specs.Requests.{RequestFields}
use Rattle.rclaim.specs.declared.event.Event.{Event}
use Rattle.rclaim.specs.declared.event.Event.TheVariants.{Issue, Finish, Rise, Ask}
use Rattle.rlock.specs.Known.{Known, Site, IsSamePass}
use Rattle.rmodel.specs.Claims.{is_admitted}
use Rattle.rvalue.specs.Entries.{EntryFields}
use Rattle.rstate.specs.Contents.{Contents}
use Rattle.rstate.specs.Histories.{Beginning}

-- what contracts see of a seat: it is a pass at the gate of the locked state
abbrev pub SeatOf : Type 0 → Type 0 → Type 0
SeatOf V E = Known (Contents V E) (Beginning V) (EntryFields E)

-- an entry without acts
abbrev pub bare : {E : Type 0} → Event → EntryFields E
bare event = record { event = event; acts = [] }

-- whether a request is incomplete after the event, which was made by its own seat
abbrev pub busy_after : Bool → Event → Bool
busy_after busy (Issue seat request) = true
busy_after busy (Finish seat) = false
busy_after busy (Rise seat) = busy
busy_after busy (Ask seat part) = busy

-- whether a request is incomplete after a seat's own entries
abbrev pub is_busy : {E : Type 0} → List (EntryFields E) → Bool
is_busy {E} mine = fold (λ busy (entry : EntryFields E). busy_after busy entry.event) false mine

-- the request is of resources that exist, and is admitted
pub record Suits {V : Type 0} (b : Beginning V) (request : RequestFields) : Type 0 where
  pub reads : IsTrue (all_below b.groups.q request.reads)
  pub writes : IsTrue (all_below b.groups.q request.writes)
  pub admitted : IsTrue (is_admitted b.groups.groups request)

module _ {V E : Type 0} where
  -- The seat is one of this lock: `began` is how that began, and the cap lets each seat have a request
  pub record IsOf (site : Site) (seat : SeatOf V E) : Type 0 where
    pub gate : seat.gate ≡ site.gate
    pub began : Beginning V
    pub opening : seat.opening ≡ Some began
    pub there : seat.number < began.seats
    pub all : began.seats ≡ site.seats
    pub within : site.seats ≤ site.passes
    pub enough : began.seats ≤ began.cap

  -- each request that the seat has issued, it has finished
  abbrev pub IsIdle : SeatOf V E → Type 0
  IsIdle seat = is_busy seat.mine ≡ false

  -- the request suits how the lock of the seat began
  abbrev pub SuitsSeat : SeatOf V E → RequestFields → Type 0
  SuitsSeat seat request = (b : Beginning V) → seat.opening ≡ Some b → Suits b request

  -- The seat goes on to the later one with these entries of its own: it has seen what it had seen, and perhaps more
  pub record Goes (seat : SeatOf V E) (more : List (EntryFields E)) (later : SeatOf V E) : Type 0 where
    pub same : IsSamePass seat later
    pub seen : IsPrefix seat.seen later.seen
    pub mine : later.mine ≡ seat.mine ++ more

  -- it does so in one turn, which found a list that begins with what was seen, and these entries come last
  pub record IsOneTurn (seat : SeatOf V E) (more : List (EntryFields E)) (later : SeatOf V E) : Type 0 where
    pub found : List (EntryFields E)
    pub begins : IsPrefix seat.seen found
    pub seen : later.seen ≡ found ++ more
    pub turns : later.turns ≡ seat.turns + 1

  -- the seat comes back from a call that was refused: as it was, or after one turn without an entry
  abbrev pub ComesBack : SeatOf V E → SeatOf V E → Type 0
  ComesBack seat later = (later ≡ seat) ⊎ IsOneTurn seat [] later
