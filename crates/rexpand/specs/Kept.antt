-- How groups are kept: beside them, for each resource, what is shared with it and which groups contain it. Contracts of other crates do not mention it.
use Rattle.std.specs.Prelude.{◌≡◌, ℕ, ◌+◌, ◌*◌, ◌<◌, true, List, length, slice_index_or, slice_set}
use Rattle.std.specs.FinSet as set
use Rattle.rset.specs.declared.TheConstants.{RESOURCES}
use Rattle.rset.specs.Sets.{Set}
use Rattle.rexpand.specs.declared.TheConstants.{BLOCKS}
use Rattle.rexpand.specs.Groups.{shared_with, are_groups}

-- the index of the set with the numbers of the groups of a block that contain the resource
abbrev pub place_in : ℕ → ℕ → ℕ
place_in block l = l * BLOCKS + block

-- each resource below q has a set for each block, and the j-th group of the block is in it exactly where that group exists and contains the resource
pub record IsNoted (q : ℕ) (groups noted : List Set) : Type 0 where
  pub size : length noted ≡ q * BLOCKS
  pub each : (l block j : ℕ) → l < q → block < BLOCKS → j < RESOURCES → set.contains (slice_index_or noted (place_in block l) set.empty) j ≡ set.contains (slice_index_or groups (block * RESOURCES + j) set.empty) l

-- the groups are valid, each resource has its entry, and the groups that contain it are recorded
pub record IsKept (groups entries noted : List Set) : Type 0 where
  pub valid : are_groups (record { q = length entries; groups = groups }) ≡ true
  pub each : (l : ℕ) → l < length entries → slice_index_or entries l set.empty ≡ shared_with groups l
  pub numbers : IsNoted (length entries) groups noted

-- the set is added to the entry of one resource
abbrev pub widen : (ℕ → ℕ) → Set → List Set → ℕ → List Set
widen place added entries l = slice_set entries (place l) (set.union (slice_index_or entries (place l) set.empty) added)

-- only the groups that also contain the resource are left
abbrev pub narrow : List Set → ℕ → Set → ℕ → Set
narrow noted block groups l = set.intersection groups (slice_index_or noted (place_in block l) set.empty)
