-- The heads of writes: the least claims of their lines.
use Rattle.rmodel.specs.WellFormed.{EachPair, Rises, Distinct}
use Rattle.std.specs.Prelude.{◌≡◌, ◌⊎◌, ◌++◌, ◌∷◌, true, false, ◌&&◌, ◌||◌, ◌==◌, ◌≢◌, ◌<◌, nat_lt, ℕ, Bool, Option, Some, List, slice_get, unwrap_or, if◌then◌else◌}
use Rattle.std.specs.List.{AllByRecursion, list_any}
use Rattle.std.specs.FinSet.{contains, empty, is_subset}
use Rattle.rset.specs.Sets.{Set, meets}
use Rattle.rset.specs.declared.TheConstants.{SEATS}
use Rattle.rclaim.specs.declared.claim.Claim.{Claim}
use Rattle.rclaim.specs.declared.request.Kind.TheVariants.{Read}
use Rattle.rclaim.specs.declared.event.Event.{Event}
use Rattle.rclaim.specs.declared.event.Event.TheVariants as event
use Rattle.rmodel.specs.declared.claimed.Claimed.{Claimed}
use Rattle.rmodel.specs.Claims.{is_satisfied, satisfied_by}
use Rattle.rcover_laws.specs.Line.{least_of}
use Rattle.rcover_laws.specs.Moments.{Moment, holds_at}
use Rattle.rcover.specs.declared.lines.Found.{Found}
use Rattle.rcover.specs.declared.lines.Head.{Head}
use Rattle.rcover.specs.declared.turns.Moves.{Moves}
use Rattle.rclaim.specs.declared.changes.StatusChange.{StatusChange}
use Rattle.rclaim.specs.declared.event.Event.TheVariants.{Issue, Finish}

-- the write of a seat is reported to be satisfied
abbrev pub tells_write_of : List StatusChange → ℕ → Bool
tells_write_of cs seat = list_any (λ c. (c.seat == seat) && (c.write_half && satisfied_by c.status)) cs

-- an event is a finish
abbrev pub is_finish : Event → Bool
is_finish (event.Issue seat r) = false
is_finish (event.Finish seat) = true
is_finish (event.Rise seat) = false
is_finish (event.Ask seat part) = false

-- an event takes the claims of a seat away
abbrev pub takes_seat : Event → ℕ → Bool
takes_seat (event.Issue t r) seat = false
takes_seat (event.Finish t) seat = t == seat
takes_seat (event.Rise t) seat = false
takes_seat (event.Ask t part) seat = false

-- the head of a write: the least in its line, and whether that is satisfied
abbrev pub head_of : Moment → Claim → Head
head_of m c = record { claim = least_of c m; holds = holds_at (least_of c m) m }

-- the head of no line: a claim of no seat, which takes nothing and is not satisfied
abbrev pub no_head : Head
no_head = record { claim = record { stamp = 0; seat = SEATS; kind = Read; write_half = false; reads = empty; writes = empty; places = empty }; holds = false }

-- a claim as the least of its line
abbrev pub own_head : Claimed → Head
own_head x = record { claim = x.claim; holds = is_satisfied x }

-- what is found of a line, with a claim replacing the least so far if its stamp is smaller, and with these places left
abbrev pub lowered : Found → Claim → Set → Found
lowered f d left = if nat_lt d.stamp f.stamp then record { seat = d.seat; stamp = d.stamp; left = left } else record { seat = f.seat; stamp = f.stamp; left = left }

-- heads by seat are those of the writes among some claims, at a moment
abbrev pub TellAt : List Head → Moment → List Claimed → Type 0
TellAt hs m zs = AllByRecursion (λ z. z.claim.write_half ≡ true → slice_get hs z.claim.seat ≡ Some (head_of m z.claim)) zs

-- and heads by seat are those of all writes at a moment
abbrev pub TellHeads : List Head → Moment → Type 0
TellHeads hs m = TellAt hs m m

-- the set that is kept for a seat
abbrev pub set_at : List Set → ℕ → Set
set_at ss seat = unwrap_or (slice_get ss seat) empty

-- the seat of a write is in the set of the seat of its least claim
abbrev pub IsBehind : List Set → Moment → Claimed → Type 0
IsBehind ss m z = contains (set_at ss (least_of z.claim m).seat) z.claim.seat ≡ true

-- so are the seats of these writes: sets by the seats of least claims, maybe with others in them
abbrev pub HoldBehind : List Set → Moment → List Claimed → Type 0
HoldBehind ss m zs = AllByRecursion (λ z. z.claim.write_half ≡ true → IsBehind ss m z) zs

-- heads by seat, and the sets, are those of the writes at a moment
pub record IsTold (hs : List Head) (ss : List Set) (m : Moment) : Type 0 where
  pub heads : TellHeads hs m
  pub behind : HoldBehind ss m m

-- each set has at least the members of the other
abbrev pub HoldMore : List Set → List Set → Type 0
HoldMore ss ss' = (least seat : ℕ) → contains (set_at ss least) seat ≡ true → contains (set_at ss' least) seat ≡ true

-- another head for the seat of a write, and else those that there were
abbrev pub heads_with : List Head → Head → Claimed → ℕ → Option Head
heads_with hs h x seat = if x.claim.write_half then (if seat == x.claim.seat then Some h else slice_get hs seat) else slice_get hs seat

-- the same for all of them but those whose least claim is of a seat
abbrev pub HoldBehindBut : ℕ → List Set → Moment → List Claimed → Type 0
HoldBehindBut lost ss m zs = AllByRecursion (λ z. z.claim.write_half ≡ true → (least_of z.claim m).seat ≢ lost → IsBehind ss m z) zs

-- ---- from a moment m to the next, n, with no new claim

-- the claim is the write that an event takes away
abbrev pub is_taken : Event → Claimed → Bool
is_taken e x = takes_seat e x.claim.seat && x.claim.write_half

-- this is the head of the write that an event takes away, if it takes one, and of each write whose least claim is of the same seat; and these are its
-- places
pub record IsLost (lost : Head) (gone : Set) (e : Event) (m : Moment) (x : Claimed) : Type 0 where
  pub places : x.claim.write_half ≡ true → takes_seat e x.claim.seat ≡ true → x.claim.places ≡ gone
  pub taken : x.claim.write_half ≡ true → takes_seat e x.claim.seat ≡ true → head_of m x.claim ≡ lost
  pub one : x.claim.write_half ≡ true → (least_of x.claim m).seat ≡ lost.claim.seat → head_of m x.claim ≡ lost

-- a head, satisfied if its seat is one of these
abbrev pub with_told : Set → Head → Head
with_told came h = if contains came h.claim.seat then record { claim = h.claim; holds = true } else h

-- a write whose seat is not touched has another least claim than the lost one, and its least claim is not reported to be satisfied
pub record IsTouched (lost : ℕ) (statuses : List StatusChange) (touched : Set) (m : Moment) (x : Claimed) : Type 0 where
  pub not_lost : x.claim.write_half ≡ true → contains touched x.claim.seat ≡ false → (least_of x.claim m).seat ≢ lost
  pub not_told : x.claim.write_half ≡ true → contains touched x.claim.seat ≡ false → tells_write_of statuses (least_of x.claim m).seat ≡ false

-- a write is touched, by sets of the seats of least claims: its least claim is of the lost seat, or of a seat whose write is reported to be satisfied
abbrev pub is_touched : List Set → ℕ → List StatusChange → ℕ → Bool
is_touched ss lost cs seat = contains (set_at ss lost) seat || list_any (λ c. (c.write_half && satisfied_by c.status) && contains (set_at ss c.seat) seat) cs

-- the least claim of a write is of the same stamp at both moments, or all its places are among these
abbrev pub IsNoted : Set → Moment → Moment → Claimed → Type 0
IsNoted dirty m n y = y.claim.write_half ≡ true → ((least_of y.claim n).stamp ≡ (least_of y.claim m).stamp) ⊎ (is_subset y.claim.places dirty ≡ true)

-- how the head of a write is carried on
pub record GoesBy (lost : Head) (gone came touched : Set) (m n : Moment) (x : Claimed) : Type 0 where
  -- it is as it was, if its seat is not among those that are touched
  pub still : x.claim.write_half ≡ true → contains touched x.claim.seat ≡ false → head_of n x.claim ≡ head_of m x.claim
  pub elsewhere : x.claim.write_half ≡ true → contains touched x.claim.seat ≡ false → (least_of x.claim m).seat ≢ lost.claim.seat
  pub seat : x.claim.write_half ≡ true → (least_of x.claim m).seat < SEATS
  -- its least claim stays, if that is of another seat than the lost one
  pub other : x.claim.write_half ≡ true → (least_of x.claim m).seat ≢ lost.claim.seat → (least_of x.claim n).stamp ≡ (least_of x.claim m).stamp
  -- or if it has none of these places: those of the write that goes, and of each earlier write whose least claim does not stay
  pub apart :
      x.claim.write_half ≡ true → (dirty : Set) → is_subset gone dirty ≡ true → meets x.claim.places dirty ≡ false → AllByRecursion (λ y. y.claim.stamp < x.claim.stamp → IsNoted dirty m n y) n
      → (least_of x.claim n).stamp ≡ (least_of x.claim m).stamp
  -- a least claim that stays may have come to be satisfied
  pub head : x.claim.write_half ≡ true → (least_of x.claim n).stamp ≡ (least_of x.claim m).stamp → head_of n x.claim ≡ with_told came (head_of m x.claim)
  pub one : x.claim.write_half ≡ true → (least_of x.claim m).seat ≡ lost.claim.seat → head_of m x.claim ≡ lost

-- what became of the head of a write from a moment m to the next, n: its seat may be among those that moved, or among those that rose
pub record HeadsTell (hs' : List Head) (lost : Head) (went rose : Set) (m n : Moment) (x : Claimed) : Type 0 where
  -- it had the lost least claim, and has another now
  pub moved : x.claim.write_half ≡ true → contains went x.claim.seat ≡ true → (head_of m x.claim ≡ lost) × (slice_get hs' x.claim.seat ≡ Some (head_of n x.claim)) × ((least_of x.claim n).stamp ≢ lost.claim.stamp)
  -- a seat that moved is not among those that rose
  pub apart : x.claim.write_half ≡ true → contains went x.claim.seat ≡ true → contains rose x.claim.seat ≡ false
  -- its least claim came to be satisfied
  pub risen :
      x.claim.write_half ≡ true → contains went x.claim.seat ≡ false → contains rose x.claim.seat ≡ true
      → (slice_get hs' x.claim.seat ≡ Some (head_of n x.claim)) × (head_of m x.claim ≡ record { claim = (head_of n x.claim).claim; holds = false }) × ((head_of n x.claim).holds ≡ true)
  -- or it is as it was
  pub same : x.claim.write_half ≡ true → contains went x.claim.seat ≡ false → contains rose x.claim.seat ≡ false → head_of n x.claim ≡ head_of m x.claim

-- the write of a seat is at the place that is noted for the seat
pub record StandsAt (places : List ℕ) (n : Moment) (seat : ℕ) : Type 0 where
  pub place : ℕ
  pub noted : slice_get places seat ≡ Some place
  pub at : Claimed
  pub there : slice_get n place ≡ Some at
  pub write : at.claim.write_half ≡ true
  pub own : at.claim.seat ≡ seat

-- so does the write of each seat that moved or rose
abbrev pub ArePlaced : List ℕ → Set → Set → Moment → Type 0
ArePlaced places went rose n = (seat : ℕ) → (contains went seat || contains rose seat) ≡ true → StandsAt places n seat

-- one more claim was carried on: its head is that of the next moment, and for other seats all is as it was
pub record IsTurned (now : List Head) (moves : Moves) (lost : Head) (now' : List Head) (moves' : Moves) (m n : Moment) (x : Claimed) : Type 0 where
  pub head : x.claim.write_half ≡ true → slice_get now' x.claim.seat ≡ Some (head_of n x.claim)
  pub tells : HeadsTell now' lost moves'.moved moves'.risen m n x
  pub noted : IsNoted moves'.dirty m n x
  pub now_stays : (seat : ℕ) → (x.claim.write_half ≡ true → seat ≢ x.claim.seat) → slice_get now' seat ≡ slice_get now seat
  pub moved_stays : (seat : ℕ) → (x.claim.write_half ≡ true → seat ≢ x.claim.seat) → contains moves'.moved seat ≡ contains moves.moved seat
  pub risen_stays : (seat : ℕ) → (x.claim.write_half ≡ true → seat ≢ x.claim.seat) → contains moves'.risen seat ≡ contains moves.risen seat
  pub dirty_more : is_subset moves.dirty moves'.dirty ≡ true

-- a claim comes after others whose heads are known at this moment; its own is known as it was at another, m
pub record IsNext (now : List Head) (m before : Moment) (x : Claimed) (rest : Moment) : Type 0 where
  pub rising : EachPair Rises (before ++ x ∷ rest)
  pub distinct : EachPair Distinct (before ++ x ∷ rest)
  pub told : TellAt now (before ++ x ∷ rest) before
  pub own : x.claim.write_half ≡ true → slice_get now x.claim.seat ≡ Some (head_of m x.claim)

-- no other head is noted yet for the seat of a write
pub record IsNew (moves : Moves) (x : Claimed) : Type 0 where
  pub unmoved : x.claim.write_half ≡ true → contains moves.moved x.claim.seat ≡ false
  pub unrisen : x.claim.write_half ≡ true → contains moves.risen x.claim.seat ≡ false
