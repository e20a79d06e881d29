-- Tables: for each task and resource, a summary of the task's claims whose key has the resource.
use Rattle.std.specs.Prelude.{◌≡◌, ◌<◌, ◌+◌, ◌*◌, ◌==◌, ℕ, Bool, ◌&&◌, List, [], ◌∷◌, fold, length, slice_index_or, slice_set, Option, Some, None, IsTrue, if◌then◌else◌}
use Rattle.std.specs.List.{AllByRecursion}
use Rattle.std.specs.FinSet.{empty, union, contains}
use Rattle.rset.specs.Sets.{Set, rising, all_below}
use Rattle.rset.specs.declared.TheConstants.{RESOURCES}
use Rattle.rmodel.specs.Claims.{is_upgrade, is_read_half}
use Rattle.rbound.specs.Needs.{Needed}
use Rattle.rbound.specs.Longest.{longer, longest}
use Rattle.rbound_table.specs.declared.table.Cell.{Cell}
use Rattle.rbound_table.specs.declared.table.Key.{Key}
use Rattle.rbound_table.specs.declared.table.Key.TheVariants.{Reads, Writes, Halves, ReadPlaces, WritePlaces, UpgradePlaces}

-- the resources under which a claim is entered
abbrev pub key_of : Key → Needed → Set
key_of Reads n = n.claim.reads
key_of Writes n = n.claim.writes
key_of Halves n = if is_read_half n.claim then n.claim.reads else empty
key_of ReadPlaces n = if n.claim.write_half then empty else n.claim.places
key_of WritePlaces n = if n.claim.write_half then n.claim.places else empty
key_of UpgradePlaces n = if is_upgrade n.claim.kind then n.claim.places else empty

-- a claim is of the task, and its key has the resource
abbrev pub is_under : (Needed → Set) → ℕ → ℕ → Needed → Bool
is_under key t l n = (n.claim.seat == t) && contains (key n) l

-- the summary of no claims
abbrev pub no_claims : Cell
no_claims = record { longest = None; beside = empty }

-- the resources that `key` gives for the claims that pass a test
abbrev pub together : (Needed → Set) → (Needed → Bool) → List Needed → Set
together key p [] = empty
together key p (n ∷ ns) = if p n then union (key n) (together key p ns) else together key p ns

-- the summary of the task's claims whose key has the resource: the longest of them, and all resources of their keys
abbrev pub cell_of : (Needed → Set) → List Needed → ℕ → ℕ → Cell
cell_of key ns t l = record { longest = longest (is_under key t l) ns; beside = together key (is_under key t l) ns }

-- the same with one more claim, of this key and length
abbrev pub raised : Set → ℕ → Cell → Cell
raised key len c = record { longest = longer (Some len) c.longest; beside = union key c.beside }

-- what a table has for a task and a resource
abbrev pub cell_at : List Cell → ℕ → ℕ → Cell
cell_at cells t l = slice_index_or cells (t * RESOURCES + l) no_claims

-- a table in which a claim of a task, of this key and length, is entered under one more resource
abbrev pub with_member : ℕ → Set → ℕ → List Cell → ℕ → List Cell
with_member t key len cells l = slice_set cells (t * RESOURCES + l) (raised key len (cell_at cells t l))

-- a table with one more claim of a task, of this key and length
abbrev pub with_claim : List Cell → ℕ → Set → ℕ → List Cell
with_claim cells t key len = fold (with_member t key len) cells (rising key)

-- a table with these claims added, the last one first
abbrev pub with_claims : (Needed → Set) → List Needed → List Cell → List Cell
with_claims key [] cells = cells
with_claims key (n ∷ ns) cells = with_claim (with_claims key ns cells) n.claim.seat (key n) n.len

-- the longest of a task's claims in a table at some resources
abbrev pub longest_in : List Cell → ℕ → Set → Option ℕ
longest_in cells t s = fold (λ most l. longer most (cell_at cells t l).longest) None (rising s)

-- a table for this many tasks
pub record IsTable (key : Needed → Set) (ns : List Needed) (tasks : ℕ) (cells : List Cell) : Type 0 where
  pub long : length cells ≡ tasks * RESOURCES
  pub below : AllByRecursion (λ n. IsTrue (all_below RESOURCES (key n))) ns
  pub has : (t l : ℕ) → t < tasks → l < RESOURCES → cell_at cells t l ≡ cell_of key ns t l
