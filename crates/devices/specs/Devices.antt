-- What a change makes of a device.
use Rattle.std.specs.Prelude.{◌≡◌, ◌+◌, ◌^◌, ◌&&◌, Bool, true, false, nat_lt, if◌then◌else◌, refl}
use Rattle.devices.specs.declared.device.Device.{Device}
use Rattle.devices.specs.declared.device.Mode.{Mode}
use Rattle.devices.specs.declared.device.Mode.TheVariants.{Off, Ready, Worn}
use Rattle.devices.specs.declared.device.Change.{Change}
use Rattle.devices.specs.declared.device.Change.TheVariants.{Run, Turn}

abbrev pub is_ready : Mode → Bool
is_ready Off = false
is_ready Ready = true
is_ready Worn = false

-- a run is taken by a device that is ready and can count it, a turn by each
abbrev pub is_taken : Device → Change → Bool
is_taken device Run = is_ready device.mode && nat_lt (device.runs + 1) (2 ^ 64)
is_taken device (Turn mode) = true

abbrev pub device_after : Device → Change → Device
device_after device Run = if is_taken device Run then record device { runs = device.runs + 1 } else device
device_after device (Turn mode) = record device { mode = mode }

pub untaken_leaves : (device : Device) (change : Change) → is_taken device change ≡ false → device_after device change ≡ device
untaken_leaves device Run h = Prim.rw h refl
untaken_leaves device (Turn mode) h = absurd cc
