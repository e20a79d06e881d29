-- The lock state is one list of claims, and a few numbers.
use Rattle.std.specs.Prelude.{ℕ, List, []}
use Rattle.rexpand.specs.Groups.{ReadGroups}
use Rattle.rmodel.specs.declared.claimed.Claimed.{Claimed}

-- the read groups over the resources, the number of seats, the most requests that may be incomplete at once, the number of issues so far,
-- and the incomplete claims by rising stamp
pub record LockState : Type 0 where
  pub groups : ReadGroups
  pub seats : ℕ
  pub cap : ℕ
  pub issued : ℕ
  pub claims : List Claimed

-- the state before the first event
abbrev pub opening : ReadGroups → ℕ → ℕ → LockState
opening groups seats cap = record { groups = groups; seats = seats; cap = cap; issued = 0; claims = [] }
