-- What whole sections do to a seat: for programs that make them.
use Rattle.std.specs.Prelude.{◌≡◌, ◌⊎◌, ℕ, zero, suc, List, [], ◌∷◌, ◌++◌}
use Rattle.std.specs.FinSet.{empty}
use Rattle.rset.specs.Sets.{Set}
use Rattle.rclaim.specs.Requests.{RequestFields}
use Rattle.rclaim.specs.declared.request.Kind.TheVariants.{Read, Write}
use Rattle.rclaim.specs.declared.event.Event.TheVariants.{Issue, Finish}
use Rattle.rvalue.specs.declared.act.Act.{Act}
use Rattle.rvalue.specs.Entries.{EntryFields}
use Rattle.rguard.specs.Seats.{SeatOf, Goes, bare}
use Rattle.rguard.specs.Guards.{GuardFields}

-- the request to write these resources, in a section of length 1
abbrev pub write_of : Set → RequestFields
write_of set = record { kind = Write; reads = empty; writes = set; first = empty; len = 1; later = 0 }

-- the request to read these, in a section of length 1
abbrev pub read_of : Set → RequestFields
read_of set = record { kind = Read; reads = set; writes = empty; first = empty; len = 1; later = 0 }

module _ {V E : Type 0} where
  -- the seat entered a section: it issued this one request, and the guard has done nothing yet
  pub record HasEntered (request : RequestFields) (seat : SeatOf V E) (guard : GuardFields V E) : Type 0 where
    pub issued : Goes seat (bare (Issue seat.number request) ∷ []) guard.seat
    pub fresh : guard.acts ≡ []

  -- the section of the guard ended: its seat finished it with these acts
  abbrev pub HasFinished : List (Act E) → GuardFields V E → SeatOf V E → Type 0
  HasFinished acts guard later = Goes guard.seat (record { event = Finish guard.seat.number; acts = acts } ∷ []) later

  -- the seat made one whole section: it issued this request, finished with these acts, and did nothing else
  abbrev pub MadeSection : RequestFields → List (Act E) → SeatOf V E → SeatOf V E → Type 0
  MadeSection request acts seat later = Goes seat (bare (Issue seat.number request) ∷ record { event = Finish seat.number; acts = acts } ∷ []) later

  -- the seat changed nothing: it issued no request, or this one and finished without acts
  abbrev pub MadeNothing : RequestFields → SeatOf V E → SeatOf V E → Type 0
  MadeNothing request seat later = Goes seat [] later ⊎ MadeSection request [] seat later

-- the entries of so many whole sections of a seat, each of which issues this request and finishes with these acts
abbrev pub sections_of : {E : Type 0} → ℕ → RequestFields → List (Act E) → ℕ → List (EntryFields E)
sections_of seat request acts zero = []
sections_of seat request acts (suc count) = sections_of seat request acts count ++ (bare (Issue seat request) ∷ record { event = Finish seat; acts = acts } ∷ [])
