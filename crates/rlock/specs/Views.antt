-- The view of a pass, and what is read from a view.
use Rattle.std.specs.Prelude.{◌≡◌, ℕ, ◌-◌, ◌==◌, Bool, true, false, Option, Some, None, List, [], ◌∷◌, map, count_by, sum_by}
use Rattle.rlock.specs.declared.view.View.{View}
use Rattle.rlock.specs.declared.view.Member.{Member}
use Rattle.rlock.specs.declared.view.Mode.{Mode}
use Rattle.rlock.specs.declared.view.Mode.TheVariants.{Idle, Waiting, Served, Putting}
use Rattle.rlock.specs.Known.{GateId, Known, numbers_from}

-- how often a number occurs in a list
abbrev pub times : ℕ → List ℕ → ℕ
times n xs = count_by (λ k. k == n) xs

module _ {S : Type 0} where
  -- the ticket, if there is one
  abbrev pub ticket_of : Mode S → List ℕ
  ticket_of Idle = []
  ticket_of (Waiting t) = t ∷ []
  ticket_of (Served t found) = t ∷ []
  ticket_of (Putting t state) = t ∷ []

  -- whether the state is out of the slot
  abbrev pub has_turn : Mode S → Bool
  has_turn Idle = false
  has_turn (Waiting t) = false
  has_turn (Served t found) = true
  has_turn (Putting t state) = true

  -- the state as it is known while it is out: as it was found, and later as announced
  abbrev pub state_out : Mode S → Option S
  state_out Idle = None
  state_out (Waiting t) = None
  state_out (Served t found) = Some found
  state_out (Putting t state) = Some state

module _ {S O E : Type 0} where
  -- the numbers of a view: its own, those that it has still to give out, and those that were joined into it
  abbrev pub numbers_of : View S O E → List ℕ
  numbers_of v = map (λ (m : Member S O E). m.number) v.members

  -- how often a number occurs in the views
  abbrev pub holders : ℕ → List (View S O E) → ℕ
  holders n views = sum_by (λ (v : View S O E). times n (numbers_of v)) views

  -- how many views have a ticket
  abbrev pub drawers : ℕ → List (View S O E) → ℕ
  drawers t views = sum_by (λ (v : View S O E). times t (ticket_of v.mode)) views

  -- how many views have the turn
  abbrev pub turns_taken : List (View S O E) → ℕ
  turns_taken views = count_by (λ (v : View S O E). has_turn v.mode) views

  -- the view of a pass with this opening, which left this state last, has given out all numbers and joined none
  abbrev pub pass_view : Mode S → O → S → Known S O E → View S O E
  pass_view mode o last k = record {
    mode = mode;
    turns = k.turns;
    seen = k.seen;
    members = record { number = k.number; opening = o; mine = k.mine; last = last } ∷ [];
    olds = [];
  }

  -- it is the view of this pass
  abbrev pub IsViewOf : Mode S → Known S O E → View S O E → Type 0
  IsViewOf mode k v = (o : O) × (last : S) × (k.opening ≡ Some o) × (k.last ≡ Some last) × (v ≡ pass_view mode o last k)

  -- a pass with this number that has had no turn
  abbrev pub fresh : O → S → ℕ → Member S O E
  fresh o state n = record { number = n; opening = o; mine = []; last = state }

  -- the seat's view while the `left` numbers from `next` on are still to be given out
  abbrev pub opening_view : ℕ → ℕ → O → S → View S O E
  opening_view next left o state = record {
    mode = Idle;
    turns = 0;
    seen = [];
    members = fresh o state 0 ∷ map (fresh o state) (numbers_from next left);
    olds = [];
  }

  -- the view of the pass 0, which gives out the other numbers
  abbrev pub first_view : ℕ → O → S → View S O E
  first_view passes o state = opening_view 1 (passes - 1) o state

  -- what the first of these has made, its opening, and the state as it left it
  abbrev pub mine_of : List (Member S O E) → List E
  mine_of [] = []
  mine_of (m ∷ ms) = m.mine

  abbrev pub opening_of : List (Member S O E) → Option O
  opening_of [] = None
  opening_of (m ∷ ms) = Some m.opening

  abbrev pub last_of : List (Member S O E) → Option S
  last_of [] = None
  last_of (m ∷ ms) = Some m.last

  -- a pass by its gate, its number and its view
  abbrev pub known_from : GateId → ℕ → View S O E → Known S O E
  known_from gate n v = record { gate = gate; number = n; opening = opening_of v.members; seen = v.seen; mine = mine_of v.members; last = last_of v.members; turns = v.turns }

-- a pass with its turn, and the state that it found
pub record Held (S O E : Type 0) : Type 0 where
  pub pass : Known S O E
  pub found : Option S
