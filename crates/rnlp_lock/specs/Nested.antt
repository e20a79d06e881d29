-- What contracts see of a section that asks for more on its way.
use Rattle.std.specs.Prelude.{◌≡◌, ◌&&◌, ◌||◌, ℕ, Bool, true, Result, Ok, Err, List, [], ◌∷◌, ◌++◌, map, fold}
use Rattle.std.specs.FinSet.{contains, union}
use Rattle.rset.specs.Sets.{Set}
use Rattle.rclaim.specs.Requests.{RequestFields, is_part}
use Rattle.rclaim.specs.declared.request.Kind.TheVariants.{Nested}
use Rattle.rclaim.specs.declared.event.Event.TheVariants.{Issue, Ask, Finish}
use Rattle.rvalue.specs.declared.act.Act.{Act}
use Rattle.rvalue.specs.Entries.{EntryFields}
use Rattle.rguard.specs.Guards.{GuardFields, Holding, HoldingToWrite, IsPartOf}
use Rattle.rguard.specs.Resting.{IsAt}
use Rattle.rguard.specs.Seats.{SeatOf, Goes, bare}
use Rattle.rnlp_lock.specs.Asking.{MayNest, nested_of}
use Rattle.rnlp_lock.specs.Causes.{CameToNothing, StopsNested}
use Rattle.rnlp_lock.specs.Seats.{LockFields, SeatFields, KeepsLaw, Stayed, who, who_of}
use Rattle.rnlp_lock.specs.declared.stop.Stop.{Stop}

-- a nested request in normal form, in a section of length 1
abbrev pub nested_by : Set → Set → Set → RequestFields
nested_by reads writes first = record { kind = Nested; reads = reads; writes = writes; first = first; len = 1; later = 0 }

-- the entries of asks for these parts, one after another
abbrev pub asks_of : {E : Type 0} → ℕ → List Set → List (EntryFields E)
asks_of seat parts = map (λ part. bare (Ask seat part)) parts

-- all that was asked for, by the first part and the later ones
abbrev pub asked_by : Set → List Set → Set
asked_by first parts = fold union first parts

-- where a nested section stands: its lock, its seat as it was before the section, and its request
pub record NestPlace (V E : Type 0) : Type 0 where
  pub lock : LockFields
  pub start : SeatOf V E
  pub request : RequestFields

-- a nested section under way: where it stands, what it was granted, its pass, and what it has done
pub record NestFields (V E : Type 0) : Type 0 where
  pub place : NestPlace V E
  pub granted : Set
  pub pass : SeatOf V E
  pub acts : List (Act E)

module _ {V E : Type 0} where
  -- the section may read the resource now
  abbrev pub may_get : NestFields V E → ℕ → Bool
  may_get nest l = contains nest.granted l && (contains nest.place.request.reads l || contains nest.place.request.writes l)

  -- the section may edit it now
  abbrev pub may_edit : NestFields V E → ℕ → Bool
  may_edit nest l = contains nest.granted l && contains nest.place.request.writes l

  -- the seat has issued the request and asked for these further parts, and was granted all of that
  pub record HasAsked (request : RequestFields) (start : SeatOf V E) (granted : Set) (pass : SeatOf V E) : Type 0 where
    pub parts : List Set
    pub goes : Goes start (bare (Issue start.number request) ∷ asks_of start.number parts) pass
    pub granted_is : granted ≡ asked_by request.first parts

  -- what its guard keeps
  pub record IsNest (allows : List (Act E) → Type 0) (held : List V → Type 0) (nest : NestFields V E) : Type 0 where
    pub at : IsAt nest.place.lock.groups nest.place.lock.site nest.pass
    pub asked : HasAsked nest.place.request nest.place.start nest.granted nest.pass
    pub gets : (l : ℕ) → may_get nest l ≡ true → Holding nest.pass l
    pub edits : (l : ℕ) → may_edit nest l ≡ true → HoldingToWrite nest.pass l
    pub asks : (part : Set) → is_part part (union nest.place.request.reads nest.place.request.writes) ≡ true → IsPartOf nest.pass part
    pub keeps : KeepsLaw allows held nest.pass

  -- its guard, for words about guards
  abbrev pub guard_of_nest : NestFields V E → GuardFields V E
  guard_of_nest nest = record { site = nest.place.lock.site; seat = nest.pass; acts = nest.acts }

  -- the seat has begun a section by this request, was granted its first part, and has done nothing
  pub record BeganNest (request : RequestFields) (seat : SeatFields V E) (nest : NestFields V E) : Type 0 where
    pub place_is : nest.place ≡ record { lock = seat.lock; start = seat.pass; request = request }
    pub granted_is : nest.granted ≡ request.first
    pub fresh : nest.acts ≡ []

  -- the seat made one section by this request: it issued it, asked for these further parts, finished with these acts, and did nothing else
  abbrev pub MadeNested : RequestFields → List Set → List (Act E) → SeatOf V E → SeatOf V E → Type 0
  MadeNested request parts acts seat later = Goes seat ((bare (Issue seat.number request) ∷ asks_of seat.number parts) ++ record { event = Finish seat.number; acts = acts } ∷ []) later

  -- the section ended with these acts
  pub record EndedNest (acts : List (Act E)) (nest : NestFields V E) (later : SeatFields V E) : Type 0 where
    pub who_is : who later ≡ who_of nest.place.lock nest.place.start
    pub parts : List Set
    pub made : MadeNested nest.place.request parts acts nest.place.start later.pass
    pub granted_is : nest.granted ≡ asked_by nest.place.request.first parts

  -- The seat made one section by this request: its closure did this from its first moment to its last, and its acts are recorded
  pub record MadeNest (request : RequestFields) (Did : NestFields V E → NestFields V E → Type 0) (seat later : SeatFields V E) : Type 0 where
    pub first : NestFields V E
    pub last : NestFields V E
    pub began : BeganNest request seat first
    pub stays : last.place ≡ first.place
    pub did : Did first last
    pub parts : List Set
    pub made : MadeNested request parts last.acts seat.pass later.pass
    pub granted_is : last.granted ≡ asked_by request.first parts

  -- the seat made one section by this request, which has no acts
  abbrev pub MadeBareNest : RequestFields → SeatOf V E → SeatOf V E → Type 0
  MadeBareNest request seat later = (parts : List Set) × MadeNested request parts [] seat later

  -- what came of asking for a nested section: it has begun, or the seat came back for this cause
  abbrev pub NestBegins : {N S : Type 0} (nesting : N → NestFields V E) (own : S → SeatFields V E) (reads writes first : Set) (seat : SeatFields V E) → Result N (S × Stop) → Type 0
  NestBegins nesting own reads writes first seat (Ok nest) = BeganNest (nested_of reads writes first) seat (nesting nest) × MayNest seat.lock.groups reads writes first
  NestBegins nesting own reads writes first seat (Err e) = Stayed seat (own e.0) × StopsNested seat.lock.groups reads writes first e.1

  -- What a nested section came to, of which the closure Runs. Where that answered something, the seat made one section with its acts.
  -- Otherwise it came to nothing for this cause
  abbrev pub NestEnds : {N A : Type 0} (nesting : N → NestFields V E) (Runs : N → Result A Stop → N → Type 0) (reads writes first : Set) (seat later : SeatFields V E) → Result A Stop → Type 0
  NestEnds {N} {A} nesting Runs reads writes first seat later (Ok answer) =
      MayNest seat.lock.groups reads writes first
      × MadeNest (nested_of reads writes first) (λ begun last. (nest : N) × (ended : N) × (begun ≡ nesting nest) × (last ≡ nesting ended) × Runs nest (Ok answer) ended) seat later
  NestEnds {N} {A} nesting Runs reads writes first seat later (Err stop) =
      CameToNothing (StopsNested seat.lock.groups reads writes first) (λ (s : Stop). (nest : N) × (ended : N) × BeganNest (nested_of reads writes first) seat (nesting nest) × Runs nest (Err s) ended)
      (Goes seat.pass [] later.pass) (MadeBareNest (nested_of reads writes first) seat.pass later.pass) stop
