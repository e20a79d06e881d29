-- Rows of greatest sums: how one more length goes in.
use Rattle.std.proofs.Common.{◌≡◌, ◌≤◌, ◌<◌, ℕ, List, length, slice_index}
use Rattle.rbound.specs.Rows.{with_length}

-- a length was taken into the places of a row from this one on
pub record HasGone (len : ℕ) (old new : List ℕ) (at : ℕ) : Type 0 where
  pub some : 0 < at
  pub within : at ≤ length old
  pub same : length new ≡ length old
  pub below : (j : ℕ) → j < at → slice_index new j ≡ slice_index old j
  pub above : (j : ℕ) → at ≤ j → j < length old → slice_index new j ≡ with_length len old j
