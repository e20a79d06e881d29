-- Lawful histories: what a history of a lock may be, by which events are accepted, what state follows and what a seat holds.
use Rattle.std.specs.Prelude.{◌≡◌, ℕ, Bool, true, false, ◌||◌, IsTrue, List, [], fold, map}
use Rattle.std.specs.List.{AllByRecursion}
use Rattle.std.specs.FinSet.{contains}
use Rattle.rclaim.specs.Sets.{Set}
use Rattle.rclaim.specs.declared.event.Event.{Event}
use Rattle.rclaim.specs.declared.event.Event.TheVariants.{Issue, Finish, Rise, Ask}
use Rattle.rclaim.specs.Events.{seat_of}
use Rattle.rvalue.specs.declared.act.Act.{Act}
use Rattle.rvalue.specs.declared.act.Act.TheVariants.{Edited, Shown}
use Rattle.rvalue.specs.InTurn.{AllInTurn}
use Rattle.rvalue.specs.Entries.{EntryFields}
use Rattle.rvalue.specs.Histories.{EntryAnswersRightly}

module _ {E : Type 0} where
  -- the act may be recorded with the event: any act with the end of a section, only a show with a rise, and no act with another event
  abbrev pub stands_with : Event → Act E → Bool
  stands_with (Finish seat) act = true
  stands_with (Rise seat) (Edited place edit done) = false
  stands_with (Rise seat) (Shown place number) = true
  stands_with (Issue seat request) act = false
  stands_with (Ask seat part) act = false

  -- a seat that holds these sets may do the act: it holds the act's resource, for writing where the act is an edit
  abbrev pub is_held : Set → Set → Act E → Bool
  is_held reads writes (Edited place edit done) = contains writes place
  is_held reads writes (Shown place number) = contains reads place || contains writes place

-- These may be the values of the resources as the history begins: each resource whose value is known has that value.
-- A state has a list of values, and says nothing of resources beyond it; a report of ledgers has one value for all. No resource has two known values
abbrev pub AreOpenings : {V : Type 0} → (ℕ → V → Type 0) → (ℕ → V) → Type 0
AreOpenings {V} OpensAt openings = (l : ℕ) (value : V) → OpensAt l value → openings l ≡ value

-- the state of the lock after the entries, from the first one
abbrev pub state_after : {L E : Type 0} → (L → Event → L) → L → List (EntryFields E) → L
state_after {L} {E} next first entries = fold next first (map (λ (entry : EntryFields E). entry.event) entries)

-- In a state of the lock `Comes` says which events are accepted, and `next` what state each leads to; `reads` and `writes` are what a seat then holds for reading and for writing.
-- `first` is the state as the history begins, and `OpensAt` what is known of the values
module _ {L V E : Type 0} (Comes : L → Event → Type 0) (next : L → Event → L) (reads writes : L → ℕ → Set) (after : V → E → V) (taken : V → E → Bool) (number : V → ℕ) (first : L) (OpensAt : ℕ → V → Type 0) where
  -- The entry may come after the earlier ones: its event is accepted, its acts may be recorded with it, its seat holds their resources before it, and their answers are right
  pub record IsRightEntry (earlier : List (EntryFields E)) (entry : EntryFields E) : Type 0 where
    pub comes : Comes (state_after next first earlier) entry.event
    pub stand : AllByRecursion (λ act. IsTrue (stands_with entry.event act)) entry.acts
    pub held : AllByRecursion (λ act. IsTrue (is_held (reads (state_after next first earlier) (seat_of entry.event)) (writes (state_after next first earlier) (seat_of entry.event)) act)) entry.acts
    pub answers : (openings : ℕ → V) → AreOpenings OpensAt openings → EntryAnswersRightly after taken number openings earlier entry

  -- each entry of the history may come after those before it
  abbrev pub IsLawful : List (EntryFields E) → Type 0
  IsLawful entries = AllInTurn IsRightEntry [] entries
