-- An order of sets, for look-ups: by the least number that only one of two sets has, and the set that has it comes first. No contract of another
-- crate speaks of it.
use Rattle.std.specs.Prelude.{ℕ, min, List, [], ◌∷◌, Option, Some, None}
use Rattle.std.specs.FinSet.{items, difference}
use Rattle.std.specs.Ordering.{nat_cmp}
use Rattle.std.specs.declared.cmp.Ordering.{Ordering}
use Rattle.std.specs.declared.cmp.Ordering.TheVariants.{Less, Equal, Greater}
use Rattle.rset.specs.Sets.{Set}

-- the lesser of a number and another, if there is one
abbrev pub lesser : ℕ → Option ℕ → ℕ
lesser x None = x
lesser x (Some y) = min x y

-- the least of some numbers
abbrev pub least_in : List ℕ → Option ℕ
least_in [] = None
least_in (x ∷ xs) = Some (lesser x (least_in xs))

-- the least member of a set
unfoldable pub least : Set → Option ℕ
least s = least_in (items s)

-- the order of two sets by the least numbers that only the first has and that only the second has
abbrev pub by_least : Option ℕ → Option ℕ → Ordering
by_least None None = Equal
by_least None (Some y) = Greater
by_least (Some x) None = Less
by_least (Some x) (Some y) = nat_cmp x y

-- the order of two sets
unfoldable pub set_cmp : Set → Set → Ordering
set_cmp a b = by_least (least (difference a b)) (least (difference b a))
