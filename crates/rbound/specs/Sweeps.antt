-- Sweeps: what one pass over all needs adds to some places.
use Rattle.std.specs.Prelude.{List, fold, if◌then◌else◌}
use Rattle.std.specs.FinSet.{union}
use Rattle.rset.specs.Sets.{Set, meets}
use Rattle.rbound.specs.Needs.{Needed}

-- some places, with those of each claim that shares one of them or one of the claims taken before it
unfoldable pub swept : List Needed → Set → Set
swept ns zone = fold (λ all n. if meets n.claim.places all then union all n.claim.places else all) zone ns
