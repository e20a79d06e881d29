-- Read groups: what is shared with a resource, the places of a claim, and which sets are declared.
use Rattle.std.specs.Prelude.{ℕ, Bool, ◌&&◌, ◌||◌, ◌==◌, nat_le, nat_lt, List, [], ◌∷◌, length, fold, if◌then◌else◌}
use Rattle.std.specs.List.{list_any, list_all}
use Rattle.std.specs.FinSet as set
use Rattle.rset.specs.Sets.{Set, all_below}
use Rattle.rset.specs.declared.TheConstants.{RESOURCES}
use Rattle.rexpand.specs.declared.errors.GroupErr.{GroupErr}
use Rattle.rexpand.specs.declared.errors.GroupErr.TheVariants.{EmptyGroup, TooMany, Memory}
use Rattle.rexpand.specs.declared.TheConstants.{GROUPS}

-- the number of resources, and the groups in the order in which they were declared
pub record ReadGroups : Type 0 where
  pub q : ℕ
  pub groups : List Set

-- there are no groups
abbrev pub no_groups : ℕ → ReadGroups
no_groups q = record { q = q; groups = [] }

-- what is shared with a resource: itself, and every group that contains it
unfoldable pub shared_with : List Set → ℕ → Set
shared_with [] l = set.insert set.empty l
shared_with (group ∷ groups) l = if set.contains group l then set.union group (shared_with groups l) else shared_with groups l

-- the places of a claim: what it reads, and what is shared with each resource that it writes
unfoldable pub places_of : List Set → Set → Set → Set
places_of groups reads writes = fold (λ places l. set.union places (shared_with groups l)) reads (set.items writes)

-- the set lies inside one group
unfoldable pub is_inside : List Set → Set → Bool
is_inside groups s = list_any (set.is_subset s) groups

-- the set is declared: it has one member, or it has members and lies inside one group
unfoldable pub is_declared : List Set → Set → Bool
is_declared groups s = (set.len s == 1) || (nat_lt 0 (set.len s) && is_inside groups s)

-- a group has a member, and its members are below q
unfoldable pub is_group : ℕ → Set → Bool
is_group q s = nat_lt 0 (set.len s) && all_below q s

-- there is a resource, there are no more resources and groups than allowed, and each group is valid
unfoldable pub are_groups : ReadGroups → Bool
are_groups g = nat_le 1 g.q && nat_le g.q RESOURCES && nat_le (length g.groups) GROUPS && list_all (is_group g.q) g.groups

-- the number of a refusal
abbrev pub refusal_number : GroupErr → ℕ
refusal_number EmptyGroup = 1
refusal_number TooMany = 2
refusal_number Memory = 3
