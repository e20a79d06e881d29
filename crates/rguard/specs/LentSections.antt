-- What the sections of guards and waits keep. All but what a seat has taken is about the history as the seat has seen it.
use Rattle.std.specs.Prelude.{◌≡◌, ℕ, ◌+◌, ◌<◌, ◌≤◌, ◌==◌, ◌&&◌, ◌⊎◌, Bool, true, false, IsTrue, Some, List, [], ◌∷◌, length, slice_get, if◌then◌else◌}
use Rattle.std.specs.FinSet.{contains}
use Rattle.std.specs.List.{list_any, AllByRecursion}
use Rattle.rset.specs.Sets.{Set, rising}
use Rattle.rset.specs.declared.TheConstants.{RESOURCES}
use Rattle.rclaim.specs.Events.{seat_of}
use Rattle.rclaim.specs.Requests.{RequestFields}
use Rattle.rclaim.specs.declared.claim.Claim.{Claim}
use Rattle.rclaim.specs.declared.event.Event.TheVariants as events
use Rattle.rlock.specs.Known.{Site, entries_by}
use Rattle.rmodel.specs.declared.claimed.Claimed.{Claimed}
use Rattle.rmodel.specs.declared.granted.Granted.{Granted}
use Rattle.rmodel.specs.Claims.{is_upgrade}
use Rattle.rmodel.specs.Holds.{holds_of, has_request, may_rise, may_ask, is_within}
use Rattle.rmodel.specs.State.{LockState}
use Rattle.rmodel.specs.Steps.{is_not_holding}
use Rattle.rvalue.specs.declared.act.Act.{Act}
use Rattle.rvalue.specs.Acts.{value_within, edits_in, AnswersAreRight}
use Rattle.rvalue.specs.Entries.{EntryFields}
use Rattle.rvalue.specs.Histories.{value_of}
use Rattle.rvalue.specs.Lawful.{AreOpenings, is_held, stands_with}
use Rattle.rstate.specs.Contents.{Contents}
use Rattle.rstate.specs.Histories.{Beginning, lock_after, reads_of, writes_of, IsListed, IsLawfulFrom}
use Rattle.rstate.specs.Lent.{LentFields, IsLent, Once, has, places}
use Rattle.rguard.specs.declared.kind.GuardKind.{GuardKind}
use Rattle.rguard.specs.declared.kind.GuardKind.TheVariants.{Read, Write, Rise, Nest}
use Rattle.rguard.specs.Seats.{SeatOf, Goes, IsOneTurn, bare}
use Rattle.rguard.specs.LentGuards.{GuardFields, IsReady}

-- a section: the lock, the seat, what is lent to it, its own copies of what it has edited, and its acts
pub record SectionFields (V E : Type 0) : Type 0 where
  pub site : Site
  pub seat : SeatOf V E
  pub lent : LentFields V
  pub own : List (ℕ × V)
  pub acts : List (Act E)

-- nothing is lent, and there is room for all resources
abbrev pub no_loans : {V : Type 0} → LentFields V
no_loans = record { reads = []; writes = []; reads_room = RESOURCES; writes_room = RESOURCES }

-- what a request may write: an upgrade writes what it reads, once it has risen
abbrev pub writes_at_most : RequestFields → Set
writes_at_most r = if is_upgrade r.kind then r.reads else r.writes

-- nothing is lent, and there is room for what the request is about
pub record HasRoomToIssue {V : Type 0} (r : RequestFields) (lent : LentFields V) : Type 0 where
  pub no_reads : lent.reads ≡ []
  pub no_writes : lent.writes ≡ []
  pub reads : length (rising r.reads) ≤ lent.reads_room
  pub writes : length (rising (writes_at_most r)) ≤ lent.writes_room

-- the acts are shows
abbrev pub AreShows : {E : Type 0} → List (Act E) → Type 0
AreShows acts = AllByRecursion (λ act. IsTrue (stands_with (events.Rise 0) act)) acts

-- there is room for all that may still be lent
pub record HasRoom {V : Type 0} (lent : LentFields V) : Type 0 where
  pub reads : length lent.reads + RESOURCES ≤ lent.reads_room
  pub writes : length lent.writes + RESOURCES ≤ lent.writes_room

-- a claim is of the seat, and reads the resource, or writes it
abbrev pub claim_reads : ℕ → ℕ → Claim → Bool
claim_reads n l c = (c.seat == n) && contains c.reads l

abbrev pub claim_writes : ℕ → ℕ → Claim → Bool
claim_writes n l c = (c.seat == n) && contains c.writes l

-- there is room for all that the claims of the seat read and write, which is at most this
pub record HasRoomWithin {V : Type 0} (claims : List Claimed) (n : ℕ) (lent : LentFields V) : Type 0 where
  pub most : Granted
  pub reads_in : (l : ℕ) → list_any (λ x. claim_reads n l x.claim) claims ≡ true → contains most.reads l ≡ true
  pub writes_in : (l : ℕ) → list_any (λ x. claim_writes n l x.claim) claims ≡ true → contains most.writes l ≡ true
  pub reads : length lent.reads + length (rising most.reads) ≤ lent.reads_room
  pub writes : length lent.writes + length (rising most.writes) ≤ lent.writes_room

-- whether a guard of this kind may edit
abbrev pub may_edit : GuardKind → Bool
may_edit Read = false
may_edit Write = true
may_edit Rise = false
may_edit Nest = true

module _ {V E : Type 0} where
  -- the lock as the seat has seen it last
  abbrev pub lock_seen : Beginning V → SeatOf V E → LockState
  lock_seen b seat = lock_after b seat.seen

  -- what the seat holds after what it has seen
  abbrev pub held_at : Beginning V → SeatOf V E → Granted
  held_at b seat = holds_of (lock_seen b seat).claims seat.number

  -- when the seat left the state, it had taken this
  abbrev pub HasTaken : SeatOf V E → Granted → Type 0
  HasTaken seat g = (last : Contents V E) → seat.last ≡ Some last → slice_get last.taken seat.number ≡ Some g

  -- what a guard of this kind has besides what every guard has: one that only reads has no edits, an upgrade may rise, a nested request may ask
  abbrev pub IsAs : GuardKind → Beginning V → SectionFields V E → Type 0
  IsAs Read b s = AreShows s.acts
  IsAs Write b s = Unit {0}
  IsAs Rise b s = AreShows s.acts × (may_rise (lock_seen b s.seat).claims s.seat.number ≡ true)
  IsAs Nest b s = may_ask (lock_seen b s.seat).claims s.seat.number ≡ true

module _ {V E : Type 0} (after : V → E → V) where
  -- what the history that the seat has seen makes of an opening value
  abbrev pub value_seen : SeatOf V E → ℕ → V → V
  value_seen seat l opening = value_of after opening seat.seen l

  -- and what the acts make of that
  abbrev pub value_edited : SectionFields V E → ℕ → V → V
  value_edited s l opening = value_within after (value_seen s.seat l opening) s.acts l

  -- The section has a copy of what it has edited, and that is the edited value. It edits only what is lent to it for writing
  pub record AreCopies (b : Beginning V) (g : Granted) (s : SectionFields V E) : Type 0 where
    pub once : Once (places s.own)
    pub written : (l : ℕ) → has l (places s.own) ≡ true → contains g.writes l ≡ true
    pub are : AllByRecursion (λ copy. (opening : V) → slice_get b.values copy.0 ≡ Some opening → copy.1 ≡ value_edited s copy.0 opening) s.own
    pub unedited : (l : ℕ) → has l (places s.own) ≡ false → edits_in s.acts l ≡ []

  -- just what the seat has taken is lent to the section, as the history that the seat has seen made it
  pub record HasLent (b : Beginning V) (g : Granted) (s : SectionFields V E) : Type 0 where
    pub taken : HasTaken s.seat g
    pub lent : IsLent b.seats g b.values (value_seen s.seat) (value_seen s.seat) s.lent
    pub copies : AreCopies b g s

module _ {V E : Type 0} (after : V → E → V) (taken : V → E → Bool) (number : V → ℕ) where
  -- The seat is one of the lock, which began like this; what it has seen is lawful, and its own entries are those that it has made
  pub record Knows (b : Beginning V) (site : Site) (seat : SeatOf V E) : Type 0 where
    pub gate : seat.gate ≡ site.gate
    pub opening : seat.opening ≡ Some b
    pub there : seat.number < b.seats
    pub all : b.seats ≡ site.seats
    pub enough : b.seats ≤ b.cap
    pub lawful : IsLawfulFrom after taken number b seat.seen
    pub own : entries_by (λ (entry : EntryFields E). seat_of entry.event) seat.number seat.seen ≡ seat.mine
    pub values : length b.values ≡ b.groups.q

  -- the seat may have done the acts: it holds what they are about, and their answers are right
  pub record ActsAreRight (b : Beginning V) (seen : List (EntryFields E)) (n : ℕ) (acts : List (Act E)) : Type 0 where
    pub held : AllByRecursion (λ act. IsTrue (is_held (reads_of (lock_after b seen) n) (writes_of (lock_after b seen) n) act)) acts
    pub answers : (openings : ℕ → V) → AreOpenings (IsListed b.values) openings → AnswersAreRight after taken number (λ l. value_of after (openings l) seen l) acts

  -- what a guard keeps, of a lock that began like this
  pub record HoldsFrom (kind : GuardKind) (b : Beginning V) (s : SectionFields V E) : Type 0 where
    pub knows : Knows b s.site s.seat
    pub holding : is_not_holding (lock_seen b s.seat).claims s.seat.number ≡ false
    pub right : ActsAreRight b s.seat.seen s.seat.number s.acts
    pub has_lent : HasLent after b (held_at b s.seat) s
    pub as_kind : IsAs kind b s

  -- what a guard keeps
  pub record Holds (kind : GuardKind) (s : SectionFields V E) : Type 0 where
    pub began : Beginning V
    pub from : HoldsFrom kind began s

  -- what a wait keeps, of a lock that began like this. The seat has taken nothing at first; in a wait for more it has what its guard had
  pub record WaitsFrom (kind : GuardKind) (b : Beginning V) (s : SectionFields V E) : Type 0 where
    pub knows : Knows b s.site s.seat
    pub issued : has_request (lock_seen b s.seat).claims s.seat.number ≡ true
    pub right : ActsAreRight b s.seat.seen s.seat.number s.acts
    pub had : Granted
    pub within : is_within had (held_at b s.seat) ≡ true
    pub has_lent : HasLent after b had s
    pub as_kind : IsAs kind b s
    pub room : HasRoom s.lent ⊎ HasRoomWithin (lock_seen b s.seat).claims s.seat.number s.lent

  -- what a wait keeps
  pub record Waits (kind : GuardKind) (s : SectionFields V E) : Type 0 where
    pub began : Beginning V
    pub from : WaitsFrom kind began s

  -- The section may end: with its acts, just what the seat has taken comes home, with the edits
  pub record EndsFrom (b : Beginning V) (s : SectionFields V E) : Type 0 where
    pub knows : Knows b s.site s.seat
    pub holding : is_not_holding (lock_seen b s.seat).claims s.seat.number ≡ false
    pub right : ActsAreRight b s.seat.seen s.seat.number s.acts
    pub taken_is : HasTaken s.seat (held_at b s.seat)
    pub lent : IsLent b.seats (held_at b s.seat) b.values (value_seen after s.seat) (value_edited after s) s.lent

  pub record Ends (s : SectionFields V E) : Type 0 where
    pub began : Beginning V
    pub from : EndsFrom began s

-- the section was looked at in one turn: lock and acts are as they were, and the answer says whether nothing of its seat was pending
pub record HasLooked {V E : Type 0} (before : SectionFields V E) (answer : Bool) (later : SectionFields V E) : Type 0 where
  pub site : later.site ≡ before.site
  pub acts : later.acts ≡ before.acts
  pub goes : Goes before.seat [] later.seat
  pub turn : IsOneTurn before.seat [] later.seat
  pub ready : IsReady later.seat answer

-- the section is that of a request which the seat has issued in one turn, and the answer says whether nothing of it was pending then
pub record HasIssued {V E : Type 0} (site : Site) (seat : SeatOf V E) (request : RequestFields) (answer : Bool) (later : SectionFields V E) : Type 0 where
  pub site_is : later.site ≡ site
  pub no_acts : later.acts ≡ []
  pub goes : Goes seat (bare (events.Issue seat.number request) ∷ []) later.seat
  pub turn : IsOneTurn seat (bare (events.Issue seat.number request) ∷ []) later.seat
  pub ready : IsReady later.seat answer

-- what contracts see of the guard of a section
abbrev pub guarded : {V E : Type 0} → SectionFields V E → GuardFields V E
guarded s = record { site = s.site; seat = s.seat; acts = s.acts }
