-- The least claims of lines, kept from event to event.
use Rattle.std.specs.Prelude.{◌≡◌, ◌≤◌, ◌<◌, ◌*◌, ℕ, true, false, List, length, replicate, slice_get, vec_capacity}
use Rattle.std.specs.FinSet.{empty}
use Rattle.std.specs.List.{list_any, AllByRecursion}
use Rattle.rset.specs.declared.TheConstants.{SEATS}
use Rattle.rmodel.specs.WellFormed.{EachPair, Rises, Distinct}
use Rattle.rcover_laws.specs.Moments.{Moment}
use Rattle.rcover.specs.declared.heads.Heads.{Heads}
use Rattle.rcover.specs.declared.lines.Head.{Head}
use Rattle.rcover.specs.Lines.{IsTold, no_head}
use Rattle.rcover.specs.Shares.{TellWrites, is_write_of, no_share}

-- heads have a place for each seat, and the room of both lists is what was made at first
pub record HasPlaces (h : Heads) : Type 0 where
  pub now : length h.now.items ≡ SEATS
  pub behind : length h.behind.items ≡ SEATS
  pub shares : length h.shares ≡ SEATS
  pub now_room : vec_capacity h.now ≡ SEATS
  pub behind_room : vec_capacity h.behind ≡ SEATS

-- if they are known, they are those of the claims at a moment
abbrev pub TellsNow : Heads → Moment → Type 0
TellsNow h m = h.told ≡ true → IsTold h.now.items h.behind.items m

-- and so are the seats that have a write, and what it takes
abbrev pub TellsWrites : Heads → Moment → Type 0
TellsWrites h m = h.told ≡ true → TellWrites h.writers h.shares m

-- a seat that has no write at a moment keeps the head at its place
abbrev pub StayWithoutWrite : List Head → List Head → Moment → Type 0
StayWithoutWrite hs hs' m = (seat : ℕ) → list_any (is_write_of seat) m ≡ false → slice_get hs' seat ≡ slice_get hs seat

-- nothing is known: no seat moved or rose, no seat has a write, and no head is lost
pub record TellsNothing (h : Heads) : Type 0 where
  pub moved : h.moved ≡ empty
  pub risen : h.risen ≡ empty
  pub writers : h.writers ≡ empty
  pub lost : h.lost ≡ no_head
  pub untold : h.told ≡ false

-- and nothing is kept for any seat: the head of no line, a set without members, and nothing that is taken
pub record AreEmpty (h : Heads) : Type 0 where
  pub heads : h.now.items ≡ replicate SEATS no_head
  pub sets : h.behind.items ≡ replicate SEATS empty
  pub shares : h.shares ≡ replicate SEATS no_share

-- claims are like those of a state
pub record IsMoment (m : Moment) : Type 0 where
  pub few : length m ≤ 2 * SEATS
  pub seats : AllByRecursion (λ x. x.claim.seat < SEATS) m
  pub rising : EachPair Rises m
  pub one_each : EachPair Distinct m
