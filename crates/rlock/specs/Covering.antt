-- What a view takes in.
use Rattle.std.specs.Prelude.{◌≡◌, ℕ, ◌<◌, Option, List, []}
use Rattle.atomic_table.specs.declared.shared.Seat.{Seat}
use Rattle.rlock.specs.declared.view.View.{View}
use Rattle.rlock.specs.declared.view.Mode.TheVariants.{Idle}
use Rattle.rlock.specs.Known.{GateId, Known, IsTrueOf}
use Rattle.rlock.specs.Views.{times, numbers_of}
use Rattle.rlock.specs.Steps.{Holds}

module _ {S O E : Type 0} (number : E → ℕ) (stays : ℕ → S → S → Type 0) where
  -- the view has the pass's number, and if what the view knows is true, so is what the pass knows
  pub record Covers (v : View S O E) (pass : Known S O E) : Type 0 where
    pub has : 0 < times pass.number (numbers_of v)
    pub knows : (o : O) (list : List E) (state : S) → Holds number stays v o list state → IsTrueOf number stays pass o list state

-- the seat is one of this table, has no ticket and no slot
abbrev pub IsIdleAt : {S O E : Type 0} → GateId → Seat (Option S) (View S O E) → Type 0
IsIdleAt gate seat = (seat.table_id ≡ gate) × (seat.me.0.mode ≡ Idle) × (seat.me.1 ≡ [])
