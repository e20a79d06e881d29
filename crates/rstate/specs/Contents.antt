-- What contracts see of a locked state, and what its type keeps.
use Rattle.std.specs.Prelude.{◌≡◌, ℕ, ◌≤◌, ◌<◌, Bool, true, false, not, ◌&&◌, ◌==◌, IsTrue, ◌⊎◌, Option, Some, List, [], ◌∷◌, ◌++◌, length, slice_get, refl}
use Rattle.std.specs.Coded.{Coded, code_by, coded×, coded_list}
use Rattle.std.specs.FinSet.{contains}
use Rattle.rset.specs.Sets.{all_below}
use Rattle.rclaim.specs.Codes.{set_code}
use Rattle.rclaim.specs.Requests.{RequestFields}
use Rattle.rclaim.specs.declared.event.Event.{Event}
use Rattle.rclaim.specs.declared.event.Event.TheVariants.{Finish, Rise}
use Rattle.rmodel.specs.declared.claimed.Claimed.{Claimed}
use Rattle.rmodel.specs.declared.granted.Granted.{Granted}
use Rattle.rmodel.specs.Claims.{is_admitted}
use Rattle.rmodel.specs.Holds.{holds_of, has_request, is_within}
use Rattle.rmodel.specs.State.{LockState}
use Rattle.rmodel.specs.Steps.{incomplete_of, is_not_holding}
use Rattle.rvalue.specs.Entries.{EntryFields, edits_of, entry_code}
use Rattle.rvalue.specs.Histories.{value_of}
use Rattle.rwatch.specs.Seen.{Seen}
use Rattle.rstate.specs.Histories.{Beginning, lock_after, HaveBeenTold, IsLawfulFrom, beginning_code}
use Rattle.rstate.specs.Homes.{AreHome}
use Rattle.rstate.specs.Lent.{IsLent, LentFields}
use Rattle.rstate.specs.Shares.{ShareFields}

-- how the lock began, what was done since, and what each seat has taken of what it holds, by seat
pub record Contents (V E : Type 0) : Type 0 where
  pub beginning : Beginning V
  pub entries : List (EntryFields E)
  pub taken : List Granted

-- what is taken is stored as the pair of its sets, and the contents as the tuple of their fields
abbrev pub granted_code : Coded Granted
granted_code = code_by _ (coded× set_code set_code) (λ (g : Granted). (g.reads, g.writes)) (λ p. record { reads = p.0; writes = p.1 }) (λ _. refl)

abbrev pub contents_code : {V E : Type 0} → Coded V → Coded E → Coded (Contents V E)
contents_code {V} {E} code edit_code =
    code_by (Beginning V × (List (EntryFields E) × List Granted))
    (coded× (beginning_code code) (coded× (coded_list (entry_code edit_code)) (coded_list granted_code)))
    (λ c. (c.beginning, (c.entries, c.taken)))
    (λ p. record { beginning = p.0; entries = p.1.0; taken = p.1.1 })
    (λ _. refl)

-- the state of the lock, which the entries lead to
abbrev pub lock_of : {V E : Type 0} → Contents V E → LockState
lock_of c = lock_after c.beginning c.entries

-- what the value of the resource has become, from its opening value
abbrev pub value_now : {V E : Type 0} → (V → E → V) → Contents V E → ℕ → V → V
value_now after c l opening = value_of after opening c.entries l

-- the contents with one more entry
abbrev pub with_entry : {V E : Type 0} → Contents V E → EntryFields E → Contents V E
with_entry c entry = record c { entries = c.entries ++ entry ∷ [] }

-- what each seat has taken lies within what it holds
pub record AreTaken (claims : List Claimed) (seats : ℕ) (taken : List Granted) : Type 0 where
  pub each_seat : length taken ≡ seats
  pub within : (n : ℕ) (g : Granted) → slice_get taken n ≡ Some g → is_within g (holds_of claims n) ≡ true

-- nothing of the seat is pending: it has no request, or the request holds something and has no pending ask
abbrev pub is_ready : LockState → ℕ → Bool
is_ready s seat = not (has_request s.claims seat && is_not_holding s.claims seat)

-- a seat may issue the request: it is idle, the sets are of resources that exist, the request is admitted, and fewer requests are incomplete than may
-- be
pub record MayIssue (s : LockState) (seat : ℕ) (r : RequestFields) : Type 0 where
  pub seat_there : seat < s.seats
  pub reads : IsTrue (all_below s.groups.q r.reads)
  pub writes : IsTrue (all_below s.groups.q r.writes)
  pub admitted : IsTrue (is_admitted s.groups.groups r)
  pub idle : has_request s.claims seat ≡ false
  pub room : (incomplete_of s == s.cap) ≡ false

-- the event gives back all that the seat holds: it ends its section, or its upgrade rises
abbrev pub GivesBackAll : ℕ → Event → Type 0
GivesBackAll seat event = (event ≡ Finish seat) ⊎ (event ≡ Rise seat)

module _ {V E : Type 0} (after : V → E → V) where
  -- Each resource has a home. It is absent exactly if a seat has taken the resource for writing, and else has the value that the entries make of its
  -- opening value
  pub record HomesAre (c : Contents V E) (at_home : List (ShareFields V)) : Type 0 where
    pub each : AreHome c.beginning.seats c.taken c.beginning.values (value_now after c) at_home
    pub all : length at_home ≡ length c.beginning.values

module _ {V E : Type 0} (after : V → E → V) (taken : V → E → Bool) (number : V → ℕ) where
  -- The machine is what the entries lead to, these are lawful, and there is room for one more entry for each claim, as each event that gives
  -- something back takes a claim away
  pub record IsKept (machine : LockState) (spare : ℕ) (c : Contents V E) : Type 0 where
    pub machine_is : machine ≡ lock_of c
    pub lawful : IsLawfulFrom after taken number c.beginning c.entries
    pub taken_is : AreTaken machine.claims c.beginning.seats c.taken
    pub room : length machine.claims ≤ spare
    pub values : length c.beginning.values ≡ c.beginning.groups.q

  -- what the type of a locked state keeps. `given` is the number of shares given out at its end, 0 before that, and `room` is how many may be
  pub record IsState (machine : LockState) (spare : ℕ) (c : Contents V E) (at_home : List (ShareFields V)) (given room : ℕ) : Type 0 where
    pub kept : IsKept machine spare c
    pub homes : HomesAre after c at_home
    pub none_given : given ≡ 0
    pub closing : length at_home ≤ room

  -- and the watchers of the machine have been given just the steps of the entries
  pub record IsWhole (machine : LockState) (watched : Option (List Seen)) (spare : ℕ) (c : Contents V E) (at_home : List (ShareFields V)) (given room : ℕ) : Type 0 where
    pub stands : IsState machine spare c at_home given room
    pub told : HaveBeenTold c.beginning c.entries watched

module _ {V E : Type 0} (after : V → E → V) where
  -- just what the seat has taken is lent to it, as the entries have made it
  abbrev pub IsLentNow : Contents V E → Granted → LentFields V → Type 0
  IsLentNow c g lent = IsLent c.beginning.seats g c.beginning.values (value_now after c) (value_now after c) lent

  -- With this entry just what the seat has taken comes home, and what it has taken for writing as the entry makes it; the entry edits nothing else
  pub record ComesHome (c : Contents V E) (entry : EntryFields E) (g : Granted) (back : LentFields V) : Type 0 where
    pub lent : IsLent c.beginning.seats g c.beginning.values (value_now after c) (value_now after (with_entry c entry)) back
    pub edits : (l : ℕ) → contains g.writes l ≡ false → edits_of entry l ≡ []
