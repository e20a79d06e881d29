-- The seats that have a write, and what each takes.
use Rattle.std.specs.Prelude.{◌≡◌, ◌==◌, ◌&&◌, ℕ, Bool, true, not, Option, Some, None, List, slice_get, if◌then◌else◌}
use Rattle.std.specs.List.{list_any, AllByRecursion}
use Rattle.std.specs.FinSet.{contains, empty}
use Rattle.rset.specs.Sets.{Set}
use Rattle.rclaim.specs.Events.{seat_of}
use Rattle.rclaim.specs.declared.event.Event.{Event}
use Rattle.rclaim.specs.declared.changes.StatusChange.{StatusChange}
use Rattle.rclaim.specs.declared.claim.Claim.{Claim}
use Rattle.rmodel.specs.Claims.{satisfied_by}
use Rattle.rmodel.specs.declared.claimed.Claimed.{Claimed}
use Rattle.rcover_laws.specs.Moments.{Moment}
use Rattle.rcover.specs.declared.shares.Share.{Share}
use Rattle.rcover.specs.Lines.{takes_seat, is_finish}

-- what a claim takes
abbrev pub share_of : Claim → Share
share_of c = record { places = c.places; writes = c.writes }

-- nothing that is taken
abbrev pub no_share : Share
no_share = record { places = empty; writes = empty }

-- what each write among some claims takes is kept for its seat
abbrev pub TellShares : List Share → List Claimed → Type 0
TellShares ss zs = AllByRecursion (λ z. z.claim.write_half ≡ true → slice_get ss z.claim.seat ≡ Some (share_of z.claim)) zs

-- what a claim takes replacing what was kept for its seat, if it is a write, and else what there was
abbrev pub shares_with : List Share → Claimed → ℕ → Option Share
shares_with ss x seat = if x.claim.write_half then (if seat == x.claim.seat then Some (share_of x.claim) else slice_get ss seat) else slice_get ss seat

-- a claim is the write of a seat
abbrev pub is_write_of : ℕ → Claimed → Bool
is_write_of seat x = (x.claim.seat == seat) && x.claim.write_half

-- the seats that have a write at a moment are these
abbrev pub HaveWrites : Set → Moment → Type 0
HaveWrites writers m = (seat : ℕ) → contains writers seat ≡ list_any (is_write_of seat) m

-- the seats that have a write at a moment, and what those take
pub record TellWrites (writers : Set) (ss : List Share) (m : Moment) : Type 0 where
  pub seats : HaveWrites writers m
  pub shares : TellShares ss m

-- an event takes a write away; these are the seats that have one
abbrev pub takes_write : Event → Set → Bool
takes_write e writers = is_finish e && contains writers (seat_of e)

-- what a share writes, if there is one
abbrev pub writes_if : Option Share → Set
writes_if None = empty
writes_if (Some share) = share.writes

-- a write that is reported to be satisfied writes this resource, by what is kept for its seat
abbrev pub is_written : List Share → List StatusChange → ℕ → Bool
is_written ss cs l = list_any (λ c. (c.write_half && satisfied_by c.status) && contains (writes_if (slice_get ss c.seat)) l) cs

-- the seats that have a write, without that whose claims an event takes away
abbrev pub AreLeft : Event → Set → Set → Type 0
AreLeft e writers writers' = (seat : ℕ) → contains writers' seat ≡ (contains writers seat && not (takes_seat e seat))
