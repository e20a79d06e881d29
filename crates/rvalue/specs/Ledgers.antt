-- Ledgers: which edits they take, and what an edit makes of them.
use Rattle.std.specs.Prelude.{◌≡◌, ℕ, ◌+◌, ◌-◌, Bool, false, ◌&&◌, nat_le, nat_lt, if◌then◌else◌, refl}
use Rattle.rvalue.specs.declared.ledger.Ledger.{Ledger}
use Rattle.rvalue.specs.declared.ledger.Edit.{Edit}
use Rattle.rvalue.specs.declared.ledger.Edit.TheVariants.{Add, Take, Set}
use Rattle.rvalue.specs.declared.TheConstants.{BALANCE_LIMIT, EDITS_LIMIT}

-- a new ledger
abbrev pub opening_ledger : Ledger
opening_ledger = record { balance = 0; edits = 0 }

-- the edit leaves a balance within the limits: adding or setting leaves at most the upper one, and what is taken out is there
abbrev pub is_within : ℕ → Edit → Bool
is_within balance (Add amount) = nat_le (balance + amount) BALANCE_LIMIT
is_within balance (Take amount) = nat_le amount balance
is_within balance (Set number) = nat_le number BALANCE_LIMIT

-- the balance after the edit
abbrev pub balance_after : ℕ → Edit → ℕ
balance_after balance (Add amount) = balance + amount
balance_after balance (Take amount) = balance - amount
balance_after balance (Set number) = number

-- a ledger takes an edit that stays within the limits, as long as it can count one more
abbrev pub is_taken : Ledger → Edit → Bool
is_taken ledger edit = nat_lt ledger.edits EDITS_LIMIT && is_within ledger.balance edit

-- the ledger after an edit: an edit that is taken changes the balance and is counted, any other changes nothing
abbrev pub value_after : Ledger → Edit → Ledger
value_after ledger edit =
    if is_taken ledger edit then record { balance = balance_after ledger.balance edit; edits = ledger.edits + 1 } else ledger

-- an edit that is not taken changes nothing
pub untaken_leaves : (ledger : Ledger) (edit : Edit) → is_taken ledger edit ≡ false → value_after ledger edit ≡ ledger
untaken_leaves ledger edit h = rw h refl
