-- The numbers of the refusals, as they are reported to users.
use Rattle.std.specs.Prelude.{ℕ}
use Rattle.rmodel.specs.declared.refused.Refused.{Refused}
use Rattle.rmodel.specs.declared.refused.Refused.TheVariants.{SeatBusy, Full, NotHolding, NotUpgradeable, NotNested, AskOutside}

-- the number of a refusal
abbrev pub refused_number : Refused → ℕ
refused_number SeatBusy = 1
refused_number Full = 2
refused_number NotHolding = 3
refused_number NotUpgradeable = 4
refused_number NotNested = 5
refused_number AskOutside = 6
