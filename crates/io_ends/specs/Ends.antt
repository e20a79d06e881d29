-- What reads and writes do to the bytes that a source has left and a sink has written, where those are known.
use Rattle.std.specs.Prelude.{◌≡◌, ◌<◌, ◌≤◌, ◌↔◌, ℕ, List, [], ◌++◌, length, take, drop, Option, Some, IfSome}

-- a read of n bytes from a source that had these bytes left
pub record GivesFront (bytes : List ℕ) (left : Option (List ℕ)) (before after : List ℕ) (n : ℕ) : Type 0 where
  -- at least n were left, and they are gone
  pub available : n ≤ length bytes
  pub taken : left ≡ Some (drop n bytes)
  -- they are at the front of the buffer, and the rest of it is as it was
  pub front : take n after ≡ take n bytes
  pub rest : drop n after ≡ drop n before
  -- a buffer with room gets nothing exactly where nothing was left
  pub end : 0 < length before → (n ≡ 0) ↔ (bytes ≡ [])

-- what Ok(n) of a read says: n is within the buffer; where the bytes left are known, the next n were given
pub record Gives (left_before left_after : Option (List ℕ)) (before after : List ℕ) (n : ℕ) : Type 0 where
  pub fits : n ≤ length before
  pub told : IfSome left_before (λ bytes. GivesFront bytes left_after before after n)

-- n bytes were taken: where the bytes left are known, the next n are gone
abbrev pub Took : Option (List ℕ) → Option (List ℕ) → ℕ → Type 0
Took left_before left_after n = IfSome left_before (λ bytes. (n ≤ length bytes) × (left_after ≡ Some (drop n bytes)))

-- at most this many bytes were taken
abbrev pub TookAtMost : Option (List ℕ) → Option (List ℕ) → ℕ → Type 0
TookAtMost left_before left_after most = (n : ℕ) × (n ≤ most) × Took left_before left_after n

-- where it is known what was written, it has grown by these bytes
abbrev pub Appends : Option (List ℕ) → Option (List ℕ) → List ℕ → Type 0
Appends written_before written_after bytes = IfSome written_before (λ written. written_after ≡ Some (written ++ bytes))

-- where it is known what was written, it has grown by a front part of these bytes, but not by all
abbrev pub AppendsPrefix : Option (List ℕ) → Option (List ℕ) → List ℕ → Type 0
AppendsPrefix written_before written_after bytes = (n : ℕ) × (n < length bytes) × Appends written_before written_after (take n bytes)

-- what Ok(n) of a write says: the first n bytes of the piece were appended, and at least one of a piece that is not empty
pub record Takes (written_before written_after : Option (List ℕ)) (piece : List ℕ) (n : ℕ) : Type 0 where
  pub fits : n ≤ length piece
  pub some : 0 < length piece → 1 ≤ n
  pub told : Appends written_before written_after (take n piece)
