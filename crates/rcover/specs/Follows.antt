-- What a follower knows of the events that it followed.
use Rattle.std.specs.Prelude.{◌≡◌, ◌≤◌, ◌<◌, ◌*◌, ℕ, false, List, [], ◌++◌, length, replicate, slice_index, vec_capacity}
use Rattle.std.specs.FinSet.{empty}
use Rattle.std.specs.List.{AllByRecursion}
use Rattle.rset.specs.declared.TheConstants.{SEATS}
use Rattle.rclaim.specs.declared.event.Event.{Event}
use Rattle.rmodel.specs.Changes.{changes_between}
use Rattle.rmodel.specs.Steps.{AreAccepted, Comes, next}
use Rattle.rplain.specs.Machine.{Standing}
use Rattle.rcover_laws.specs.History.{length_in, asks_since}
use Rattle.rcover.specs.declared.following.Following.{Following}
use Rattle.rcover.specs.Follow.{table_of}
use Rattle.rcover.specs.Kept.{length_by, HasRoom, AreLong, AreOf, kept_in}
use Rattle.rcover.specs.Heads.{HasPlaces, TellsNow, TellsWrites}
use Rattle.rcover.specs.Past.{Past, start_of, state_of, moments_of, AreLastEnded}
use Rattle.rcover.specs.Tracked.{AreTracked, no_sections}
use Rattle.rcover.specs.NotedSeats.{HoldWaiting, TellRising, HoldAsking, HoldReading, TellWanted}
use Rattle.rcover.specs.Waiting.{ends_none}
use Rattle.rcover.specs.declared.run.Run.{Run}

-- a run keeps nothing
abbrev pub IsEmpty : Run → Type 0
IsEmpty r = kept_in r ≡ no_sections

-- a follower has its room: all that was made at first
pub record HaveRoom (a : Following) : Type 0 where
  pub last : vec_capacity a.last ≡ 2 * SEATS
  pub seats : length a.runs.items ≡ SEATS
  pub runs_room : vec_capacity a.runs ≡ SEATS
  pub runs : AllByRecursion HasRoom a.runs.items
  pub scratch : HasRoom a.scratch
  pub ended : vec_capacity a.ended ≡ 2 * SEATS
  pub lengths : length a.lengths ≡ SEATS
  pub asks : length a.asks ≡ SEATS
  pub heads : HasPlaces a.heads
  pub places : length a.places ≡ SEATS
  pub wanted : length a.wanted ≡ SEATS

-- a follower that followed no event notes nothing of any seat
pub record NotesNothing (a : Following) : Type 0 where
  pub waiting : a.waiting ≡ empty
  pub rising : a.rising ≡ empty
  pub asking : a.asking ≡ empty
  pub reading : a.reading ≡ empty
  pub wanted : a.wanted ≡ replicate SEATS empty
  pub last : a.last.items ≡ []
  pub there : a.there ≡ 0
  pub lengths : a.lengths ≡ replicate SEATS (record { len = 0; later = 0 })
  pub asks : a.asks ≡ replicate SEATS 0
  pub places : a.places ≡ replicate SEATS 0
  pub scratch : IsEmpty a.scratch

-- a follower followed these events
pub record Follows (a : Following) (p : Past) : Type 0 where
  pub accepted : AreAccepted (start_of p) p.events
  pub seats : p.seats ≤ SEATS
  pub some_cap : 1 ≤ p.cap
  pub cap : p.cap ≤ SEATS
  -- what is kept of each wait is right, whatever events follow
  pub tracked : AreTracked (moments_of p) (state_of p).claims (table_of a.runs.items)
  pub long : (rest : List Event) → AllByRecursion (AreLong (length_in (p.events ++ rest))) a.runs.items
  pub lengths : (rest : List Event) → AreOf (length_by a.lengths) (length_in (p.events ++ rest)) (state_of p).claims
  pub asks : (seat : ℕ) → seat < SEATS → slice_index a.asks seat ≡ asks_since seat p.events
  -- no seat waits but those that are noted
  pub waiting : HoldWaiting a.waiting (state_of p).claims
  -- the seats that rose say which claims wait to rise
  pub rising : TellRising a.rising (state_of p).claims
  -- no ask is pending but of seats that are noted
  pub asking : HoldAsking a.asking (state_of p).claims
  -- no seat has a claim that reads but those that are noted
  pub reading : HoldReading a.reading (state_of p).claims
  -- and for each that has such a claim, what it reads
  pub wanted : TellWanted a.wanted (state_of p).claims
  -- the least claims of the lines of all writes, if they are known
  pub heads : TellsNow a.heads (state_of p).claims
  -- and then which seats have a write, and what it takes
  pub writes : TellsWrites a.heads (state_of p).claims
  pub room : HaveRoom a
  -- and the waits that the last event ended
  pub none : p.events ≡ [] → a.ended.items ≡ []
  pub ended : AreLastEnded p a.ended.items

-- a machine took an event after those that a follower followed
pub record IsAhead (a : Following) (machine : Standing) (p : Past) (e : Event) : Type 0 where
  pub follows : Follows a p
  pub comes : Comes (state_of p) e
  pub state : machine.state ≡ next (state_of p) e
  pub changes : machine.last ≡ changes_between (state_of p) (next (state_of p) e)
  -- the number of claims before it
  pub there : a.there ≡ length (state_of p).claims
  -- and these are noted, if it may end a wait
  pub noted : ends_none a.waiting e ≡ false → a.last.items ≡ (state_of p).claims
