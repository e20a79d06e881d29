-- The kinds of atomic step: what each does to the view of the pass that takes it, and what is known after it.
use Rattle.std.specs.Prelude.{◌≡◌, ◌≢◌, ℕ, ◌+◌, ◌%◌, ◌^◌, Option, Some, None, List, [], ◌∷◌, ◌++◌, length, nat_lt, if◌then◌else◌, All}
use mathlib.Core.List.{IsPrefix}
use Rattle.atomic_table.specs.Table.{Me, Step, rest}
use Rattle.atomic_table.specs.declared.shared.Seat.{Seat}
use Rattle.rlock.specs.declared.view.View.{View}
use Rattle.rlock.specs.declared.view.Member.{Member}
use Rattle.rlock.specs.declared.view.Mode.TheVariants.{Idle, Waiting, Served, Putting}
use Rattle.rlock.specs.Known.{GateId, Known, entries_by, new_entries}
use Rattle.rlock.specs.Views.{IsViewOf}

-- two words, and one slot
abbrev pub IsSized : GateId → Type 0
IsSized id = (id.words ≡ 2) × (id.slots ≡ 1)

module _ {S O E : Type 0} where
  -- the view with a new ticket
  abbrev pub drawing : ℕ → View S O E → View S O E
  drawing t v = record v { mode = Waiting t; turns = v.turns + 1 }

  -- the view whose ticket is served, and which has found this state and seen its list
  abbrev pub serving : ℕ → S → List E → View S O E → View S O E
  serving t found list v = record v { mode = Served t found; seen = list }

  -- the first of these has made more, and left this state
  abbrev pub with_more : List E → S → List (Member S O E) → List (Member S O E)
  with_more more state [] = []
  with_more more state (m ∷ ms) = record m { mine = m.mine ++ more; last = state } ∷ ms

  -- the view whose list is the kept one, and whose pass has made what is new in it and leaves this state
  abbrev pub putting : ℕ → S → List E → View S O E → View S O E
  putting t state list v = record v { mode = Putting t state; seen = list; members = with_more (new_entries v.seen list) state v.members }

  -- the view without its ticket
  abbrev pub resting : View S O E → View S O E
  resting v = record v { mode = Idle }

  -- these without the second, and the second alone
  abbrev pub without_second : List (Member S O E) → List (Member S O E)
  without_second (m ∷ n ∷ ms) = m ∷ ms
  without_second ms = ms

  abbrev pub second_of : List (Member S O E) → List (Member S O E)
  second_of (m ∷ n ∷ ms) = n ∷ []
  second_of _ = []

  -- the view that has given out its least number besides its own, and the view that has it
  abbrev pub giving : View S O E → View S O E
  giving v = record v { members = without_second v.members }

  abbrev pub given : View S O E → View S O E
  given v = record { mode = Idle; turns = 0; seen = v.seen; members = second_of v.members; olds = [] }

  -- the view v with what w knows, and what is left of w
  abbrev pub joined : View S O E → View S O E → View S O E
  joined v w = record v { seen = (if nat_lt (length v.seen) (length w.seen) then w.seen else v.seen); members = v.members ++ w.members; olds = v.olds ++ (v.seen ∷ w.seen ∷ w.olds) }

  abbrev pub spent : View S O E
  spent = record { mode = Idle; turns = 0; seen = []; members = []; olds = [] }

  -- what the view knows is true of this state, with this opening and this list
  pub record Holds (number : E → ℕ) (stays : ℕ → S → S → Type 0) (v : View S O E) (o : O) (list : List E) (state : S) : Type 0 where
    pub openings : All (λ (m : Member S O E). m.opening ≡ o) v.members
    pub seen : IsPrefix v.seen list
    pub olds : All (λ old. IsPrefix old list) v.olds
    pub made : All (λ (m : Member S O E). entries_by number m.number list ≡ m.mine) v.members
    pub lasts : All (λ (m : Member S O E). stays m.number m.last state) v.members

  -- the pass has drawn the ticket that was found, and no other pass will draw it
  abbrev pub drew : Step (Option S) → Me (Option S) (View S O E) → ℕ → Me (Option S) (View S O E) → Type 0
  drew st me found me' = (t : ℕ) × (t % 2 ^ 64 ≡ found) × (me' ≡ (drawing t me.0, me.1))

  -- if the word is the pass's ticket, that is served: the slot is taken, and what the view knows is true of the state in it. If not, nothing changes
  abbrev pub looked : (S → O) → (S → List E) → (E → ℕ) → (ℕ → S → S → Type 0) → Step (Option S) → Me (Option S) (View S O E) → ℕ → Me (Option S) (View S O E) → Type 0
  looked opening entries number stays st me found me' = (t : ℕ) → me.0.mode ≡ Waiting t
      → (found ≡ t % 2 ^ 64 → (state : S) × (me' ≡ (serving t state (entries state) me.0, (0, Some state) ∷ me.1)) × Holds number stays me.0 (opening state) (entries state) state)
      × (found ≢ t % 2 ^ 64 → me' ≡ me)

  -- the announced state is the one that others will find, and its list is the kept one
  abbrev pub noted : (S → List E) → Option S → Step (Option S) → Me (Option S) (View S O E) → ℕ → Me (Option S) (View S O E) → Type 0
  noted entries told st me found me' = (t : ℕ) (before state : S) → me.0.mode ≡ Served t before → told ≡ Some state → me' ≡ (putting t state (entries state) me.0, me.1)

  -- the state is in its slot, and the next ticket is served
  abbrev pub returned : Step (Option S) → Me (Option S) (View S O E) → ℕ → Me (Option S) (View S O E) → Type 0
  returned st me found me' = me' ≡ (resting me.0, rest me.1)

  -- the seat is that of this pass, and rests
  abbrev pub Rests : Seat (Option S) (View S O E) → Known S O E → Type 0
  Rests seat k = IsViewOf Idle k seat.me.0 × (seat.me.1 ≡ [])

  -- the same, and it is the seat of that gate and number
  abbrev pub RestsAs : Seat (Option S) (View S O E) → ℕ → Known S O E → Type 0
  RestsAs seat n k = Rests seat k × (k.gate ≡ seat.table_id) × (k.number ≡ n)

  -- it waits with this ticket
  abbrev pub Waits : Seat (Option S) (View S O E) → Known S O E → ℕ → Type 0
  Waits seat k t = IsViewOf (Waiting t) k seat.me.0 × (seat.me.1 ≡ [])

  -- its ticket is served, and the state, as it found it, is out of the slot
  abbrev pub Serves : Seat (Option S) (View S O E) → Known S O E → ℕ → S → Type 0
  Serves seat k t found = IsViewOf (Served t found) k seat.me.0 × (seat.me.1 ≡ (0, None) ∷ [])

  -- the same, and this state is the one that others will find
  abbrev pub Puts : Seat (Option S) (View S O E) → Known S O E → ℕ → S → Type 0
  Puts seat k t state = IsViewOf (Putting t state) k seat.me.0 × (seat.me.1 ≡ (0, None) ∷ [])
