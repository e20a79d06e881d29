-- What the type of a locked state keeps, said of its parts, wherever they are.
use Rattle.std.proofs.Common.{◌≡◌, ℕ, Bool, List, Option, length, sym, subst}
use Rattle.std.specs.Prelude.{vec_capacity}
use Rattle.rmodel.specs.State.{LockState}
use Rattle.rwatch.specs.Seen.{Seen}
use Rattle.rstate.specs.Contents.{Contents, IsWhole}
use Rattle.rstate.specs.declared.state.Parts.{Parts}

module _ {T M E : Type 0} where
  -- what contracts see of the parts
  abbrev pub contents_of : Parts T M E → Contents T E
  contents_of p = record { beginning = p.opening; entries = p.history.entries; taken = p.taken.items }

  module _ (after : T → E → T) (taken : T → E → Bool) (number : T → ℕ) (state : M → LockState) (watched : M → Option (List Seen)) where
    abbrev pub IsWholeOf : Parts T M E → Type 0
    IsWholeOf p = IsWhole after taken number (state p.machine) (watched p.machine) p.history.spare (contents_of p) p.homes.items (length p.closing.items) (vec_capacity p.closing)

    -- it holds of the parts that a loan shows
    pub shown : {p q : Parts T M E} → q ≡ p → IsWholeOf p → IsWholeOf q
    shown is kept = subst IsWholeOf (sym is) kept
