-- Why a section came to nothing, said exactly: each cause is answered only where it is so.
use Rattle.std.specs.Prelude.{◌≡◌, ◌≢◌, ◌⊎◌, ◌<◌, ◌≤◌, ⊤, ℕ, List, length, true, false}
use Rattle.std.specs.FinSet.{empty, contains, union}
use Rattle.rset.specs.Sets.{Set, all_below}
use Rattle.rset.specs.declared.TheConstants.{RESOURCES, SEATS}
use Rattle.rexpand.specs.Groups.{ReadGroups, is_declared, are_groups}
use Rattle.rexpand.specs.declared.TheConstants.{GROUPS}
use Rattle.rclaim.specs.Requests.{RequestFields, is_part}
use Rattle.rnlp_lock.specs.Asking.{MayAsk, MayNest}
use Rattle.rnlp_lock.specs.declared.lock.LockErr.{LockErr}
use Rattle.rnlp_lock.specs.declared.lock.LockErr.TheVariants as lock
use Rattle.rnlp_lock.specs.declared.stop.Stop.{Stop}
use Rattle.rnlp_lock.specs.declared.stop.Stop.TheVariants.{Untaken, NotHeld, NotThere, Undeclared, Own, NoMemory}

-- the set has all resources below q
abbrev pub HasAll : ℕ → Set → Type 0
HasAll q all = (l : ℕ) → l < q → contains all l ≡ true

-- why a request that begins with reading this set was not made: the set is empty or has a member that the lock has not; it is
-- not declared; or memory ran out for a request that the lock may be asked for
abbrev pub StopsRead : ReadGroups → Set → RequestFields → Stop → Type 0
StopsRead groups set request NotThere = (set ≡ empty) ⊎ (all_below groups.q set ≡ false)
StopsRead groups set request Undeclared = (set ≢ empty) × (all_below groups.q set ≡ true) × (is_declared groups.groups set ≡ false)
StopsRead groups set request NoMemory = MayAsk groups request
StopsRead groups set request Untaken = ⊥
StopsRead groups set request NotHeld = ⊥
StopsRead groups set request Own = ⊥

-- why a request that reads some of these and writes the others was not made: there is nothing to write, or a set has a member
-- that the lock has not; or memory ran out for a request that the lock may be asked for
abbrev pub StopsWrite : ReadGroups → Set → Set → RequestFields → Stop → Type 0
StopsWrite groups reads writes request NotThere = (writes ≡ empty) ⊎ (all_below groups.q reads ≡ false) ⊎ (all_below groups.q writes ≡ false)
StopsWrite groups reads writes request NoMemory = (writes ≢ empty) × MayAsk groups request
StopsWrite groups reads writes request Undeclared = ⊥
StopsWrite groups reads writes request Untaken = ⊥
StopsWrite groups reads writes request NotHeld = ⊥
StopsWrite groups reads writes request Own = ⊥

-- why a nested request was not made: there is nothing to write, a set has a member that the lock has not, or the first part is
-- empty or no part of what is read and written; or memory ran out for a request that the lock may be asked for
abbrev pub StopsNested : ReadGroups → (reads writes first : Set) → Stop → Type 0
StopsNested groups reads writes first NotThere = (writes ≡ empty) ⊎ (all_below groups.q reads ≡ false) ⊎ (all_below groups.q writes ≡ false) ⊎ (is_part first (union reads writes) ≡ false)
StopsNested groups reads writes first NoMemory = MayNest groups reads writes first
StopsNested groups reads writes first Undeclared = ⊥
StopsNested groups reads writes first Untaken = ⊥
StopsNested groups reads writes first NotHeld = ⊥
StopsNested groups reads writes first Own = ⊥

-- why a further part was not asked for: it is empty or no part of what the request is about; or memory ran out for such a part
abbrev pub StopsAsk : RequestFields → Set → Stop → Type 0
StopsAsk request part NotThere = is_part part (union request.reads request.writes) ≡ false
StopsAsk request part NoMemory = is_part part (union request.reads request.writes) ≡ true
StopsAsk request part Undeclared = ⊥
StopsAsk request part Untaken = ⊥
StopsAsk request part NotHeld = ⊥
StopsAsk request part Own = ⊥

-- Why a section with closures came to nothing: its request was not made for this cause, and the seat did nothing; or the section
-- ended without acts, because its closure answered so, or because there was no memory for its acts
abbrev pub CameToNothing : (Refuses Answers : Stop → Type 0) → (Stays EndsWithout : Type 0) → Stop → Type 0
CameToNothing Refuses Answers Stays EndsWithout stop = (Stays × Refuses stop) ⊎ (EndsWithout × ((stop ≡ NoMemory) ⊎ Answers stop))

-- why an edit that had to be taken was not made: the section does not write the resource; the value did not take it, and the
-- section has the act; or memory ran out
abbrev pub StopsEdit : {W : Type 0} → (Writes Refuses : Type 0) → (work later untaken : W) → Stop → Type 0
StopsEdit Writes Refuses work later untaken NotHeld = (Writes → ⊥) × (later ≡ work)
StopsEdit Writes Refuses work later untaken Untaken = Writes × Refuses × (later ≡ untaken)
StopsEdit Writes Refuses work later untaken NoMemory = Writes × (later ≡ work)
StopsEdit Writes Refuses work later untaken NotThere = ⊥
StopsEdit Writes Refuses work later untaken Undeclared = ⊥
StopsEdit Writes Refuses work later untaken Own = ⊥

-- why one more group is not declared: it is empty, or there are as many as there may be
abbrev pub StopsGroup : ReadGroups → Set → LockErr → Type 0
StopsGroup groups set lock.Groups = (set ≡ empty) ⊎ (length groups.groups ≡ GROUPS)
StopsGroup groups set lock.NoMemory = ⊤
StopsGroup groups set lock.Values = ⊥
StopsGroup groups set lock.Seats = ⊥

-- why these groups are not declared: they are no read groups of so many resources, or memory ran out
abbrev pub StopsGroups : ReadGroups → LockErr → Type 0
StopsGroups groups lock.Groups = are_groups groups ≡ false
StopsGroups groups lock.NoMemory = ⊤
StopsGroups groups lock.Values = ⊥
StopsGroups groups lock.Seats = ⊥

-- so many values, and so many seats, may be those of a lock
abbrev pub MayBeMany : ℕ → ℕ → Type 0
MayBeMany count limit = (1 ≤ count) × (count ≤ limit)

-- why no lock was opened over so many values, with these groups and so many seats: the first cause that there is, or memory ran
-- out where values and seats were right
abbrev pub StopsLock : ℕ → List Set → ℕ → LockErr → Type 0
StopsLock count groups seats lock.Values = (count ≡ 0) ⊎ (RESOURCES < count)
StopsLock count groups seats lock.Seats = MayBeMany count RESOURCES × ((seats ≡ 0) ⊎ (SEATS < seats))
StopsLock count groups seats lock.Groups = MayBeMany count RESOURCES × MayBeMany seats SEATS × (are_groups (record { q = count; groups = groups }) ≡ false)
StopsLock count groups seats lock.NoMemory = MayBeMany count RESOURCES × MayBeMany seats SEATS
