-- The zone of a place, and the places of all claims.
use Rattle.std.specs.Prelude.{ℕ, List, fold}
use Rattle.std.specs.FinSet.{empty, insert, union}
use Rattle.rset.specs.Sets.{Set}
use Rattle.rbound.specs.Needs.{Needed}
use Rattle.rbound.specs.Zones.{zone_of}

-- the zone of one place
abbrev pub zone_at : List Needed → ℕ → Set
zone_at ns l = zone_of ns (insert empty l)

-- the places of all claims
abbrev pub places_in : List Needed → Set
places_in ns = fold (λ all n. union all n.claim.places) empty ns
