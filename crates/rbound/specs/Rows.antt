-- Rows of greatest sums: at place k the greatest sum of at most k lengths.
use Rattle.std.specs.Prelude.{◌≡◌, ◌≤◌, ◌<◌, ◌+◌, ◌*◌, ◌^◌, ℕ, zero, suc, max, List, length, slice_index}
use Rattle.rbound.specs.Bounds.{largest}

-- the greatest sum of at most this many lengths, of one length and those of a row: with that length and one fewer of the others, or without it
abbrev pub with_length : ℕ → List ℕ → ℕ → ℕ
with_length len sums zero = slice_index sums 0
with_length len sums (suc j) = max (len + slice_index sums j) (slice_index sums (suc j))

-- a row has the greatest sums of these lengths
abbrev pub IsRow : List ℕ → List ℕ → Type 0
IsRow row xs = (j : ℕ) → j < length row → slice_index row j ≡ largest j xs

-- each sum of a row is a sum of lengths that fit 32 bits
abbrev pub IsSmallRow : List ℕ → Type 0
IsSmallRow row = (j : ℕ) → j < length row → slice_index row j ≤ j * 2 ^ 32
