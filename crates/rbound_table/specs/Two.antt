-- The two longest of some lengths of tasks, which give the longest of all tasks but any one.
use Rattle.std.specs.Prelude.{◌==◌, ℕ, Bool, true, false, nat_lt, fold, Option, Some, None, if◌then◌else◌}
use Rattle.std.specs.List.{range_with_len}
use Rattle.rbound.specs.Longest.{longer}
use Rattle.rbound_table.specs.declared.two.TwoLongest.{TwoLongest}

-- the lengths of one task
abbrev pub only : ℕ → Option ℕ → TwoLongest
only task length = record { task = task; longest = length; next = None }

-- no lengths
abbrev pub no_length : TwoLongest
no_length = only 0 None

-- the longest of all tasks but this one
abbrev pub two_at : TwoLongest → ℕ → Option ℕ
two_at two me = if two.task == me then two.next else two.longest

-- there is a first length and it is greater than the second, or there is no second
abbrev pub is_longer : Option ℕ → Option ℕ → Bool
is_longer None b = false
is_longer (Some a) None = true
is_longer (Some a) (Some b) = nat_lt b a

-- the longest of the first, and the longest that other tasks have in either
abbrev pub led_by : TwoLongest → TwoLongest → TwoLongest
led_by a b = record { task = a.task; longest = a.longest; next = longer a.next (two_at b a.task) }

-- the two longest of both: led by the one with the longest
abbrev pub two_of_both : TwoLongest → TwoLongest → TwoLongest
two_of_both a b = if is_longer b.longest a.longest then led_by b a else led_by a b

-- the two longest of these lengths, of all tasks
abbrev pub two_of : ℕ → (ℕ → Option ℕ) → TwoLongest
two_of tasks f = fold (λ two t. two_of_both two (only t (f t))) no_length (range_with_len 0 tasks)

-- the same for all tasks but one
abbrev pub two_beside : ℕ → ℕ → (ℕ → Option ℕ) → TwoLongest
two_beside tasks but f = fold (λ two t. if t == but then two else two_of_both two (only t (f t))) no_length (range_with_len 0 tasks)
