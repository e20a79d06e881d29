-- What contracts see of a section under way, and of one that was made.
use Rattle.std.specs.Prelude.{◌≡◌, List, [], ◌∷◌}
use Rattle.rset.specs.Sets.{Set}
use Rattle.rclaim.specs.Requests.{RequestFields}
use Rattle.rclaim.specs.declared.event.Event.TheVariants.{Issue, Finish}
use Rattle.rvalue.specs.declared.act.Act.{Act}
use Rattle.rguard.specs.Guards.{GuardFields}
use Rattle.rguard.specs.Resting.{IsAt, HoldsAll, MayWriteAll}
use Rattle.rguard.specs.Sections.{MadeSection}
use Rattle.rguard.specs.Seats.{SeatOf, Goes, bare}
use Rattle.rnlp_lock.specs.Seats.{LockFields, SeatFields, KeepsLaw, who, who_of}

-- where a section stands: its lock, what it may read and write, and its pass
pub record Place (V E : Type 0) : Type 0 where
  pub lock : LockFields
  pub reads : Set
  pub writes : Set
  pub pass : SeatOf V E

-- a section under way: where it stands, and what it has done
pub record WorkFields (V E : Type 0) : Type 0 where
  pub place : Place V E
  pub acts : List (Act E)

module _ {V E : Type 0} where
  -- what its guard keeps
  pub record IsWork (allows : List (Act E) → Type 0) (held : List V → Type 0) (work : WorkFields V E) : Type 0 where
    pub at : IsAt work.place.lock.groups work.place.lock.site work.place.pass
    pub reads : HoldsAll work.place.reads work.place.pass
    pub writes : MayWriteAll work.place.writes work.place.pass
    pub keeps : KeepsLaw allows held work.place.pass

  -- its guard, for words about guards
  abbrev pub guard_of : WorkFields V E → GuardFields V E
  guard_of work = record { site = work.place.lock.site; seat = work.place.pass; acts = work.acts }

  -- the seat has begun a section by this request, which may read and write what that is about, and has done nothing
  pub record Began (request : RequestFields) (seat : SeatFields V E) (work : WorkFields V E) : Type 0 where
    pub who_is : who_of work.place.lock work.place.pass ≡ who seat
    pub reads_are : work.place.reads ≡ request.reads
    pub writes_are : work.place.writes ≡ request.writes
    pub fresh : work.acts ≡ []
    pub goes : Goes seat.pass (bare (Issue seat.pass.number request) ∷ []) work.place.pass

  -- the section ended with these acts
  pub record Ended (acts : List (Act E)) (work : WorkFields V E) (later : SeatFields V E) : Type 0 where
    pub who_is : who later ≡ who_of work.place.lock work.place.pass
    pub goes : Goes work.place.pass (record { event = Finish work.place.pass.number; acts = acts } ∷ []) later.pass

  -- The seat made one section by this request: its closure did this from its first moment to its last, and its acts are recorded
  pub record Made (request : RequestFields) (Did : WorkFields V E → WorkFields V E → Type 0) (seat later : SeatFields V E) : Type 0 where
    pub first : WorkFields V E
    pub last : WorkFields V E
    pub began : Began request seat first
    pub stays : last.place ≡ first.place
    pub did : Did first last
    pub made : MadeSection request last.acts seat.pass later.pass
