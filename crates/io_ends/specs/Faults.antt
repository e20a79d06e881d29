-- Counts of faults, which never fall and stop at the greatest `u64`.
use Rattle.std.specs.Prelude.{◌≡◌, ◌⊎◌, ◌+◌, ◌-◌, ◌^◌, min, ℕ}

-- the count is one more after the call than before, or is at its greatest value after it
abbrev pub Rose : ℕ → ℕ → Type 0
Rose before after = (after ≡ before + 1) ⊎ (after ≡ 2 ^ 64 - 1)

-- the count plus one, which stops at its greatest value
abbrev pub one_more : ℕ → ℕ
one_more count = min (count + 1) (2 ^ 64 - 1)
