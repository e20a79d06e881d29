-- How far a source was read, and what was reported about it.
use Rattle.std.specs.Prelude.{ℕ, ◌-◌, ◌==◌, ◌&&◌, ◌||◌, Bool, nat_le, nat_lt}

-- this many bytes are read between two reports
abbrev pub step : ℕ
step = 134217728

-- whether the bytes read are reported after a read: if they are a step more than the last report said, and at the end
-- of an input that had a report
abbrev pub is_due : ℕ → ℕ → ℕ → Bool
is_due read told bytes = nat_le step (read - told) || ((bytes == 0) && nat_lt 0 told)
