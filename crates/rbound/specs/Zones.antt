-- Zones: places joined as long as two claims share a place.
use Rattle.std.specs.Prelude.{◌≡◌, ℕ, zero, suc, Bool, true, not, List, length, map, fold, filter, if◌then◌else◌}
use Rattle.std.specs.FinSet.{union, is_subset}
use Rattle.rset.specs.Sets.{Set, meets}
use Rattle.rmodel.specs.WellFormed.{Among}
use Rattle.rbound.specs.Needs.{Needed}

-- some places, and all sets of places that share one of them
abbrev pub joined : Set → List Set → Set
joined z ps = fold (λ all p. if meets p z then union all p else all) z ps

-- some places, joined with these sets of places in this many rounds, each round with the sets that are left
abbrev pub joined_in_rounds : ℕ → Set → List Set → Set
joined_in_rounds zero z ps = z
joined_in_rounds (suc n) z ps = joined_in_rounds n (joined z ps) (filter (λ p. not (meets p z)) ps)

-- the places of the claims that are needed
abbrev pub all_places : List Needed → List Set
all_places ns = map (λ n. n.claim.places) ns

-- the zone of some places: as many rounds as there are claims, because each round but the last takes at least one
unfoldable pub zone_of : List Needed → Set → Set
zone_of ns places = joined_in_rounds (length ns) places (all_places ns)

-- a claim is in a zone: all its places are there
abbrev pub is_there : Set → Needed → Bool
is_there zone n = is_subset n.claim.places zone

-- a zone is closed: a claim that has a place in it has all its places there
abbrev pub IsClosed : List Needed → Set → Type 0
IsClosed ns zone = (n : Needed) → Among n ns → meets n.claim.places zone ≡ true → is_there zone n ≡ true

-- the zone of some places: the least closed set that has them all
pub record IsZone (ns : List Needed) (places zone : Set) : Type 0 where
  pub has : is_subset places zone ≡ true
  pub closed : IsClosed ns zone
  pub least : (s : Set) → IsClosed ns s → is_subset places s ≡ true → is_subset zone s ≡ true

-- each zone is closed, and the least such set
abbrev pub ZonesAreClosed : Type 0
ZonesAreClosed = (ns : List Needed) (places : Set) → IsZone ns places (zone_of ns places)
