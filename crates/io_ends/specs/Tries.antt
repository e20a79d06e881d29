-- What a device of the standard library answered so far, and the count of faults that follows from it.
use Rattle.std.specs.Prelude.{◌≡◌, ◌≢◌, ◌<◌, ◌≤◌, ◌⊎◌, ℕ, ◌-◌, ◌^◌, ◌==◌, nat_lt, Bool, true, false, ◌||◌, if◌then◌else◌, Result, Ok, Err}
use Rattle.std.specs.IoError.{error_kind}
use Rattle.std.specs.declared.io.Error.{Error}
use Rattle.std.specs.declared.io.ErrorKind.{ErrorKind}
use Rattle.std.specs.declared.io.ErrorKind.TheVariants.{Interrupted, WriteZero}
use Rattle.io_ends.specs.Faults.{one_more}
use Rattle.io_ends.specs.declared.tried.Tried.{Tried}

-- how often it answered with a fault, with an interruption, and with neither; all three stop at 2^64 - 1
pub record Tries : Type 0 where
  pub faults : ℕ
  pub interruptions : ℕ
  pub answers : ℕ

-- what was counted of a device
abbrev pub tries_of : {D : Type 0} → Tried D → Tries
tries_of tried = record { faults = tried.faults; interruptions = tried.interruptions; answers = tried.answers }

-- the count of faults: a device whose count of interruptions has stopped is given up, and fails from then on
abbrev pub fault_count : Tries → ℕ
fault_count tries = if tries.interruptions == 2 ^ 64 - 1 then 2 ^ 64 - 1 else tries.faults

-- what an answer of a device says: how many bytes went through, or the kind of error; that no bytes went through is an error, unless it is allowed
abbrev pub told_of : Bool → Result ℕ Error → Result ℕ ErrorKind
told_of may_be_none (Ok n) = if may_be_none || nat_lt 0 n then Ok n else Err WriteZero
told_of may_be_none (Err e) = Err (error_kind e)

-- the counts before and after this answer: an interruption adds one interruption, any other error one fault, anything else one answer, and the other counts stay
abbrev pub IsCounted : Result ℕ ErrorKind → Tries → Tries → Type 0
IsCounted (Ok n) before after = (after.faults ≡ before.faults) × (after.interruptions ≡ before.interruptions) × (after.answers ≡ one_more before.answers)
IsCounted (Err kind) before after =
    (kind ≡ Interrupted → (after.faults ≡ before.faults) × (after.interruptions ≡ one_more before.interruptions) × (after.answers ≡ before.answers))
    × (kind ≢ Interrupted → (after.faults ≡ one_more before.faults) × (after.interruptions ≡ before.interruptions) × (after.answers ≡ before.answers))

-- it was not called yet
abbrev pub untried : Tries
untried = record { faults = 0; interruptions = 0; answers = 0 }

-- a device, and what it answered so far
pub record TriedDevice (D : Type 0) : Type 0 where
  pub device : D
  pub tries : Tries

-- a call that was tried until the device did it or failed: success means one answer more and no fault more; failure means no answer more, and one fault more unless the device was given up
abbrev pub IsTried : Bool → Tries → Tries → Type 0
IsTried false before after = (after.faults ≡ before.faults) × (before.interruptions ≤ after.interruptions) × (after.interruptions < 2 ^ 64 - 1) × (after.answers ≡ one_more before.answers)
IsTried true before after =
    (((after.faults ≡ one_more before.faults) × (after.interruptions < 2 ^ 64 - 1)) ⊎ (after.interruptions ≡ 2 ^ 64 - 1)) × (before.interruptions ≤ after.interruptions) × (after.answers ≡ before.answers)
