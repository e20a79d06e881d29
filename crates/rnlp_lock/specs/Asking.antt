-- Requests that a lock may be asked for.
use Rattle.std.specs.Prelude.{◌≡◌, ◌≢◌, ◌⊎◌, IsTrue, true}
use Rattle.std.specs.FinSet.{empty, union}
use Rattle.rset.specs.Sets.{Set, all_below}
use Rattle.rexpand.specs.Groups.{ReadGroups}
use Rattle.rclaim.specs.Requests.{RequestFields, is_part, normalised}
use Rattle.rclaim.specs.declared.request.Kind.{Kind}
use Rattle.rclaim.specs.declared.request.Kind.TheVariants.{Write, Mixed, Nested}
use Rattle.rmodel.specs.Claims.{is_admitted}

-- the request is of resources that there are, and is admitted
pub record MayAsk (groups : ReadGroups) (request : RequestFields) : Type 0 where
  pub reads : IsTrue (all_below groups.q request.reads)
  pub writes : IsTrue (all_below groups.q request.writes)
  pub admitted : IsTrue (is_admitted groups.groups request)

-- a request of this kind, in a section of length 1
abbrev pub asked : Kind → Set → Set → RequestFields
asked kind reads writes = normalised kind reads writes empty 1 0

-- the kinds whose requests write at once
abbrev pub MayWriteBy : Kind → Type 0
MayWriteBy kind = (kind ≡ Write) ⊎ (kind ≡ Mixed)

-- the nested request to write some of these and to read the others, which begins with `first`
abbrev pub nested_of : (reads writes first : Set) → RequestFields
nested_of reads writes first = normalised Nested reads writes first 1 0

-- the lock may be asked for that: there is something to write, and the first part is a part of what is read and written
abbrev pub MayNest : ReadGroups → (reads writes first : Set) → Type 0
MayNest groups reads writes first = (writes ≢ empty) × (is_part first (union reads writes) ≡ true) × MayAsk groups (nested_of reads writes first)
