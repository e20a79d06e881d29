-- Histories of the lock: how it begins, what state its entries lead to, and which histories are lawful.
use Rattle.std.specs.Prelude.{◌≡◌, ℕ, Bool, Option, Some, List, map, slice_get, refl}
use Rattle.std.specs.Coded.{Coded, code_by, coded_ℕ, coded×, coded_list}
use Rattle.rset.specs.Sets.{Set}
use Rattle.rclaim.specs.Changes.{ChangeLists}
use Rattle.rclaim.specs.declared.event.Event.{Event}
use Rattle.rexpand.specs.Codes.{groups_code}
use Rattle.rexpand.specs.Groups.{ReadGroups}
use Rattle.rmodel.specs.Holds.{holds_of}
use Rattle.rmodel.specs.State.{LockState, opening}
use Rattle.rmodel.specs.Steps.{Comes, next}
use Rattle.rmodel.specs.Watching.{steps_of}
use Rattle.rvalue.specs.Entries.{EntryFields}
use Rattle.rvalue.specs.Lawful.{IsRightEntry, IsLawful, state_after}
use Rattle.rwatch.specs.Seen.{Seen, watched_after}
use Rattle.rwatch.specs.Codes.{watched_code}

-- how a lock begins: the read groups, the number of seats and of requests that may be incomplete at once, the value of each resource, and the
-- watchers, if there are any
pub record Beginning (V : Type 0) : Type 0 where
  pub groups : ReadGroups
  pub seats : ℕ
  pub cap : ℕ
  pub values : List V
  pub watched : Option (List Seen)

-- what a seat holds for reading
abbrev pub reads_of : LockState → ℕ → Set
reads_of s seat = (holds_of s.claims seat).reads

-- what a seat holds for writing
abbrev pub writes_of : LockState → ℕ → Set
writes_of s seat = (holds_of s.claims seat).writes

-- the resource has this value in the list, which has no resources beyond
abbrev pub IsListed : {V : Type 0} → List V → ℕ → V → Type 0
IsListed values l value = slice_get values l ≡ Some value

module _ {V : Type 0} where
  -- the state of the lock before the first event
  abbrev pub first_of : Beginning V → LockState
  first_of b = opening b.groups b.seats b.cap

  -- the state of the lock after the entries
  abbrev pub lock_after : {E : Type 0} → Beginning V → List (EntryFields E) → LockState
  lock_after b entries = state_after next (first_of b) entries

  -- the steps that the entries make: their events, and what each changes
  abbrev pub steps_in : {E : Type 0} → Beginning V → List (EntryFields E) → List (Event × ChangeLists)
  steps_in {E} b entries = steps_of (first_of b) (map (λ (entry : EntryFields E). entry.event) entries)

  -- the watchers have been given just the steps of the entries, in order
  abbrev pub HaveBeenTold : {E : Type 0} → Beginning V → List (EntryFields E) → Option (List Seen) → Type 0
  HaveBeenTold b entries watched = watched ≡ watched_after (steps_in b entries) b.watched

-- The rules of the model say what is lawful, and the list of opening values gives the values
module _ {V E : Type 0} (after : V → E → V) (taken : V → E → Bool) (number : V → ℕ) (b : Beginning V) where
  -- the entry may come after the earlier ones
  abbrev pub MayFollow : List (EntryFields E) → EntryFields E → Type 0
  MayFollow earlier entry = IsRightEntry Comes next reads_of writes_of after taken number (first_of b) (IsListed b.values) earlier entry

  -- each entry may come after those before it
  abbrev pub IsLawfulFrom : List (EntryFields E) → Type 0
  IsLawfulFrom entries = IsLawful Comes next reads_of writes_of after taken number (first_of b) (IsListed b.values) entries

-- a beginning is stored as the tuple of its fields
abbrev pub beginning_code : {V : Type 0} → Coded V → Coded (Beginning V)
beginning_code {V} code =
    code_by (ReadGroups × (ℕ × (ℕ × (List V × Option (List Seen))))) (coded× groups_code (coded× coded_ℕ (coded× coded_ℕ (coded× (coded_list code) watched_code))))
    (λ b. (b.groups, (b.seats, (b.cap, (b.values, b.watched)))))
    (λ p. record { groups = p.0; seats = p.1.0; cap = p.1.1.0; values = p.1.1.1.0; watched = p.1.1.1.1 })
    (λ _. refl)
