-- What a look shows of the state of a lock.
use Rattle.std.specs.Prelude.{ℕ, zero, suc, ◌+◌, List, if◌then◌else◌}
use Rattle.rmodel.specs.declared.claimed.Claimed.{Claimed}
use Rattle.rmodel.specs.declared.granted.Granted.{Granted}
use Rattle.rmodel.specs.Holds.{both, holds_of, is_nothing, nothing}
use Rattle.rmodel.specs.State.{LockState}
use Rattle.rmodel.specs.Steps.{incomplete_of}
use Rattle.rmon.specs.declared.look.Look.{Look}

-- with one more seat
abbrev pub with_held : ℕ × Granted → Granted → ℕ × Granted
with_held sum held = (if is_nothing held then sum.0 else sum.0 + 1, both sum.1 held)

-- how many of the first n seats hold something, and what they hold together
abbrev pub all_held : List Claimed → ℕ → ℕ × Granted
all_held xs zero = (0, nothing)
all_held xs (suc n) = with_held (all_held xs n) (holds_of xs n)

-- a look at a state after so many events
abbrev pub look_of : LockState → ℕ → Look
look_of s n = record {
  events = n;
  incomplete = incomplete_of s;
  holding = (all_held s.claims s.seats).0;
  reads = (all_held s.claims s.seats).1.reads;
  writes = (all_held s.claims s.seats).1.writes;
}
