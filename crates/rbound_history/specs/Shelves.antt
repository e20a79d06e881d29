-- The shelves on which the numbers of keys are looked up. Contracts of other crates do not mention them.
use Rattle.std.specs.Prelude.{◌≡◌, ◌%◌, ◌^◌, ◌*◌, ◌+◌, ℕ, List, fold, length, slice_get, Some}
use Rattle.std.specs.List.{position}
use Rattle.std.specs.BTreeMap.{BTreeMap, get}
use Rattle.rset.specs.Sets.{Set, rising}
use Rattle.rbound_history.specs.ShapeKeys.{same_key, key_cmp}
use Rattle.rbound_history.specs.declared.shape_key.ShapeKey.{ShapeKey}
use Rattle.rbound_history.specs.declared.shelf.TheConstants.{SHELVES}

-- a word that a number was mixed into; different numbers may give the same word
abbrev pub with_number : ℕ → ℕ → ℕ
with_number word n = (word * 11400714819323198485 % 2 ^ 64 + n) % 2 ^ 64

-- a word that the members of a set were mixed into
unfoldable pub with_members : ℕ → Set → ℕ
with_members word s = fold with_number word (rising s)

-- the shelf of a key, which other keys may share
unfoldable pub shelf_of : ShapeKey → ℕ
shelf_of k = with_members (with_members (with_members (with_number k.task k.kind) k.reads) k.writes) k.first % SHELVES

-- each key has its number on its shelf
pub record AreShelves (keys : List ShapeKey) (shelves : List (BTreeMap ShapeKey ℕ)) : Type 0 where
  pub long : length shelves ≡ SHELVES
  pub each : (q : ShapeKey) (numbers : BTreeMap ShapeKey ℕ) → slice_get shelves (shelf_of q) ≡ Some numbers → get key_cmp numbers q ≡ position (same_key q) keys
