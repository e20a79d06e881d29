-- What contracts see of a gate, a pass and a turn.
use Rattle.std.specs.Prelude.{◌≡◌, ◌≢◌, ℕ, ◌+◌, ◌==◌, List, [], ◌∷◌, ◌++◌, map, filter, length, drop, All, Option, Some}
use Rattle.std.proofs.Common.{zero, suc}
use mathlib.Core.List.{IsPrefix}
use Rattle.atomic_table.specs.Seated.{TableId}

-- what a gate is known by
abbrev pub GateId : Type 0
GateId = TableId

-- which gate it is, and how many passes it has
pub record GateSite : Type 0 where
  pub gate : GateId
  pub passes : ℕ

-- the same for a gate with seats: those of its passes that may make entries
pub record Site : Type 0 where
  pub gate : GateId
  pub seats : ℕ
  pub passes : ℕ

-- A pass: its gate, its number, the opening of the state behind the gate, the history as last seen, the pass's own entries in it, the state as the
-- pass left it last, and how many turns it has had. Each pass that a gate hands out has an opening and a last state: before its first turn that is
-- the state as it was put behind the gate
pub record Known (S O E : Type 0) : Type 0 where
  pub gate : GateId
  pub number : ℕ
  pub opening : Option O
  pub seen : List E
  pub mine : List E
  pub last : Option S
  pub turns : ℕ

-- A turn: the pass that has it, which has seen the history as it was at the entry, the state as it was found at the entry, and the state. Each turn has found a state
pub record Taken (S O E : Type 0) : Type 0 where
  pub pass : Known S O E
  pub found : Option S
  pub state : S

-- a pass that has had no turn, of a gate before this state with this opening
abbrev pub newcomer : {S O E : Type 0} → GateId → ℕ → O → S → Known S O E
newcomer gate n o state = record { gate = gate; number = n; opening = Some o; seen = []; mine = []; last = Some state; turns = 0 }

module _ {E : Type 0} (number : E → ℕ) where
  -- the entries of the pass n, in their order
  abbrev pub entries_by : ℕ → List E → List E
  entries_by n entries = filter (λ e. number e == n) entries

  -- the list is the one that was seen with new entries added at the end, all of them by the pass n
  abbrev pub Appends : ℕ → List E → List E → Type 0
  Appends n seen entries = (more : List E) × (entries ≡ seen ++ more) × All (λ e. number e ≡ n) more

-- what comes after the entries that were seen
abbrev pub new_entries : {E : Type 0} → List E → List E → List E
new_entries seen entries = drop (length seen) entries

-- a turn of the pass n that finds the one state and leaves the other does to every other pass only what turns of others may
abbrev pub KeepsOthers : {S : Type 0} → (ℕ → S → S → Type 0) → ℕ → S → S → Type 0
KeepsOthers stays n found state = (k : ℕ) → k ≢ n → stays k found state

-- what the pass knows is true of this state, with this opening and this list: since it left the state, others have done to it only what turns of others may
pub record IsTrueOf {S O E : Type 0} (number : E → ℕ) (stays : ℕ → S → S → Type 0) (pass : Known S O E) (o : O) (entries : List E) (state : S) : Type 0 where
  pub its_opening : pass.opening ≡ Some o
  pub begins : IsPrefix pass.seen entries
  pub own : entries_by number pass.number entries ≡ pass.mine
  pub its_last : (last : S) × (pass.last ≡ Some last) × stays pass.number last state

-- the turn with this state
abbrev pub with_state : {S O E : Type 0} → Taken S O E → S → Taken S O E
with_state turn state = record turn { state = state }

module _ {S O E : Type 0} where
  -- a pass after it has entered: it has seen the list that it found, and has had one more turn
  abbrev pub entered : Known S O E → List E → Known S O E
  entered pass found = record pass { seen = found; turns = pass.turns + 1 }

  -- a pass after it has left this state, which has this list: it has seen the list, and the new entries are its own too
  abbrev pub left : Known S O E → List E → S → Known S O E
  left pass list state = record pass { seen = list; mine = pass.mine ++ new_entries pass.seen list; last = Some state }

-- the `count` numbers from `first` on
abbrev pub numbers_from : ℕ → ℕ → List ℕ
numbers_from first zero = []
numbers_from first (suc count) = first ∷ numbers_from (first + 1) count

-- the first `count` passes of a gate, numbered from `first` on
abbrev pub newcomers : {S O E : Type 0} → GateId → O → S → ℕ → ℕ → List (Known S O E)
newcomers gate o state first count = map (λ n. newcomer gate n o state) (numbers_from first count)

-- the two are one pass, at two times
abbrev pub IsSamePass : {S O E : Type 0} → Known S O E → Known S O E → Type 0
IsSamePass before after = (after.gate ≡ before.gate) × (after.number ≡ before.number) × (after.opening ≡ before.opening)
