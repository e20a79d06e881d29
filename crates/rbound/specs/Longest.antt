-- The longest of some claims, where there are any.
use Rattle.std.specs.Prelude.{ℕ, ◌+◌, Bool, max, List, [], ◌∷◌, Option, Some, None, is_some, unwrap_or, if◌then◌else◌}
use Rattle.rbound.specs.Needs.{Needed}
use Rattle.rbound.specs.Bounds.{Numbers, one_if}

-- the greater of two lengths, of which either may be missing
abbrev pub longer : Option ℕ → Option ℕ → Option ℕ
longer None b = b
longer (Some a) None = Some a
longer (Some a) (Some b) = Some (max a b)

-- the greatest length of the claims that pass a test, None if there is none
abbrev pub longest : (Needed → Bool) → List Needed → Option ℕ
longest p [] = None
longest p (n ∷ ns) = if p n then longer (Some n.len) (longest p ns) else longest p ns

-- the greatest of the lengths of these numbers
abbrev pub longest_of : (ℕ → Option ℕ) → List ℕ → Option ℕ
longest_of f [] = None
longest_of f (x ∷ xs) = longer (f x) (longest_of f xs)

-- the numbers of a claim that waits for at most one write and one read, the longest of which have these lengths
abbrev pub one_of_each : Option ℕ → Option ℕ → Numbers
one_of_each write read = record { reads = one_if (is_some read); writes = one_if (is_some write); units = unwrap_or write 0 + unwrap_or read 0 }
