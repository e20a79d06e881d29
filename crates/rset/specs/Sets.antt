-- Words for sets of resources beside those of `FinSet`: their members in order, whether two sets are equal or meet, and what is below a number.
use Rattle.std.specs.Prelude.{ℕ, zero, suc, Bool, ◌&&◌, List, [], ◌∷◌, nat_lt, if◌then◌else◌}
use Rattle.std.specs.List.{list_any, list_all}
use Rattle.std.specs.Ordering.{nat_cmp}
use Rattle.std.specs.FinSet.{FinSet, contains, is_subset, items}
use Rattle.rset.specs.declared.TheConstants.{RESOURCES}

-- a set of resources
abbrev pub Set : Type 0
Set = FinSet nat_cmp

-- the members among the n numbers from low on, by rising number
unfoldable pub members_from : ℕ → ℕ → Set → List ℕ
members_from low zero s = []
members_from low (suc n) s = if contains s low then low ∷ members_from (suc low) n s else members_from (suc low) n s

-- the members by rising number
unfoldable pub rising : Set → List ℕ
rising s = members_from 0 RESOURCES s

-- the members of each are members of the other
unfoldable pub equals : Set → Set → Bool
equals s t = is_subset s t && is_subset t s

-- some member of one is a member of the other
unfoldable pub meets : Set → Set → Bool
meets s t = list_any (contains t) (items s)

-- each member is below q
unfoldable pub all_below : ℕ → Set → Bool
all_below q s = list_all (λ l. nat_lt l q) (items s)
