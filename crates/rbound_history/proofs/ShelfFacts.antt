-- The shelves of keys when one more comes.
use Rattle.std.proofs.Common.{◌≡◌, ◌<◌, ◌+◌, ◌==◌, ◌++◌, not, ℕ, zero, suc, Bool, true, false, List, [], ◌∷◌, length, Some, None, unwrap_or, refl, sym, ap, subst, ◌∙◌, inl, inr, arith}
use Rattle.std.specs.Prelude.{slice_get, slice_set, slice_index_or}
use Rattle.std.specs.List.{list_any, position_or_len}
use Rattle.std.specs.BTreeMap.{BTreeMap, get, is_at, Updates}
use Rattle.std.specs.Map.{lookup}
use Rattle.std.proofs.lemmas.Bool.{eq-eqb, ne_eqb}
use Rattle.std.proofs.lemmas.Bool.Decides.{eqb_tells}
use Rattle.rbound_history.specs.Numbered.{insert_key}
use Rattle.rbound_history.specs.ShapeKeys.{same_key, key_cmp}
use Rattle.rbound_history.specs.KeyFacts.{same_key_equivalence, same_key-true, same_key_ties}
use Rattle.rbound_history.specs.Shelves.{shelf_of, AreShelves}
use Rattle.rbound_history.specs.declared.shape_key.ShapeKey.{ShapeKey}
use Rattle.rbound_history.specs.declared.shelf.TheConstants.{SHELVES}
use Rattle.rbound_history.proofs.NumberFacts.{number_of_other, number_with, number_got, is_new, keys_more, keys_same}
use Rattle.rbound_history.proofs.Following.{set_there, set_elsewhere}

set_long : {X : Type 0} (xs : List X) (i : ℕ) (x : X) → length (slice_set xs i x) ≡ length xs
set_long [] i x = refl
set_long (y ∷ ys) zero x = refl
set_long (y ∷ ys) (suc i) x = ap suc (set_long ys i x)

same_option : {X : Type 0} (x y : X) → Some x ≡ Some y → x ≡ y
same_option x y e = cc

-- *Each key has its number on its shelf once one more came, where that one has its own on its shelf*
pub shelved : (keys : List ShapeKey) (shelves : List (BTreeMap ShapeKey ℕ)) (key : ShapeKey) (old new : BTreeMap ShapeKey ℕ) (n : ℕ) → AreShelves keys shelves → slice_get shelves (shelf_of key) ≡ Some old → shelf_of key < length shelves
    → Updates key_cmp old new key (Some n) → n ≡ position_or_len (same_key key) keys → AreShelves (insert_key same_key keys key) (slice_set shelves (shelf_of key) new)
shelved keys shelves key old new n are there within updates is = record {
  long = set_long shelves (shelf_of key) new ∙ are.long;
  each = λ q numbers found. elim (eqb_tells (shelf_of key) (shelf_of q)) [
    | inl here ↦
        let old_there : slice_get shelves (shelf_of q) ≡ Some old = ap (slice_get shelves) (sym here.1) ∙ there in
        let new_there : slice_get (slice_set shelves (shelf_of key) new) (shelf_of q) ≡ Some new = ap (slice_get (slice_set shelves (shelf_of key) new)) (sym here.1) ∙ set_there shelves (shelf_of key) new within in
        ap (λ m. get key_cmp m q) (same_option numbers new (sym found ∙ new_there))
        ∙ number_with key_cmp same_key same_key_equivalence same_key_ties keys key old new n updates is q (are.each q old old_there)
    | inr other ↦
        are.each q numbers (sym (set_elsewhere shelves (shelf_of key) (shelf_of q) new other.0) ∙ found)
        ∙ sym (number_of_other same_key same_key_equivalence keys key q (apart q (same_key key q) refl other.1))
  ];
}
  where
    apart : (q : ShapeKey) (b : Bool) → same_key key q ≡ b → (shelf_of key ≡ shelf_of q → ⊥) → same_key key q ≡ false
    apart q true same differ = absurd (differ (ap shelf_of (same_key-true key q same)))
    apart q false same differ = same

-- so many shelves, with no numbers
pub record AreEmpty (n : ℕ) (shelves : List (BTreeMap ShapeKey ℕ)) : Type 0 where
  pub long : length shelves ≡ n
  pub each : (i : ℕ) (numbers : BTreeMap ShapeKey ℕ) → slice_get shelves i ≡ Some numbers → numbers.entries ≡ []

pub none_yet : AreEmpty 0 []
none_yet = record { long = refl; each = λ i numbers there. let none : None ≡ Some numbers = there in cc }

pub one_more : (n : ℕ) (shelves : List (BTreeMap ShapeKey ℕ)) (new : BTreeMap ShapeKey ℕ) → AreEmpty n shelves → new.entries ≡ [] → AreEmpty (n + 1) (shelves ++ new ∷ [])
one_more n shelves new are empty = record { long = pushed shelves ∙ ap (λ k. k + 1) are.long; each = λ i numbers there. at shelves are.each i numbers there }
  where
    pushed : (xs : List (BTreeMap ShapeKey ℕ)) → length (xs ++ new ∷ []) ≡ length xs + 1
    pushed [] = refl
    pushed (x ∷ xs) = let rest = pushed xs in omega arith

    at : (xs : List (BTreeMap ShapeKey ℕ)) → ((i : ℕ) (numbers : BTreeMap ShapeKey ℕ) → slice_get xs i ≡ Some numbers → numbers.entries ≡ []) → (i : ℕ) (numbers : BTreeMap ShapeKey ℕ) → slice_get (xs ++ new ∷ []) i ≡ Some numbers → numbers.entries ≡ []
    at [] each zero numbers there = ap (λ m. m.entries) (same_option numbers new (sym there)) ∙ empty
    at [] each (suc i) numbers there = let none : None ≡ Some numbers = there in cc
    at (x ∷ xs) each zero numbers there = each zero numbers there
    at (x ∷ xs) each (suc i) numbers there = at xs (λ j. each (suc j)) i numbers there

pub empty_are : (shelves : List (BTreeMap ShapeKey ℕ)) → AreEmpty SHELVES shelves → AreShelves [] shelves
empty_are shelves are = record {
  long = are.long;
  each = λ q numbers there. ap (lookup (is_at (key_cmp q))) (are.each (shelf_of q) numbers there);
}

at_index : {X : Type 0} (xs : List X) (i : ℕ) (x : X) → i < length xs → x ≡ slice_index_or xs i x → slice_get xs i ≡ Some x
at_index [] i x within is = absurd (omega arith)
at_index (y ∷ ys) zero x within is = ap Some (sym is)
at_index (y ∷ ys) (suc i) x within is = at_index ys i x (omega arith) is

-- what the shelf of a key gives for it, and what the shelves are then
module _ (keys : List ShapeKey) (shelves : List (BTreeMap ShapeKey ℕ)) (key : ShapeKey) (i : ℕ) (old new : BTreeMap ShapeKey ℕ) (n next : ℕ) (are : AreShelves keys shelves) (on : i ≡ shelf_of key) (within : i < SHELVES) (here : old ≡ slice_index_or shelves i old)
    (got : n ≡ unwrap_or (get key_cmp old key) next) (last : next ≡ length keys) where
  inside : i < length shelves
  inside = subst (λ (m : ℕ). i < m) (sym are.long) within

  there : slice_get shelves (shelf_of key) ≡ Some old
  there = ap (slice_get shelves) (sym on) ∙ at_index shelves i old inside here

  pub number_there : n ≡ position_or_len (same_key key) keys
  number_there = number_got key_cmp same_key keys key old (are.each key old there) n next got last

  pub new_there : (n == next) ≡ not (list_any (same_key key) keys)
  new_there = is_new key_cmp same_key keys key old (are.each key old there) n next got last

  pub more_there : n ≡ next → insert_key same_key keys key ≡ keys ++ key ∷ []
  more_there e = keys_more key_cmp same_key keys key old (are.each key old there) n next got last (eq-eqb n next e)

  pub same_there : (n ≡ next → ⊥) → insert_key same_key keys key ≡ keys
  same_there e = keys_same key_cmp same_key keys key old (are.each key old there) n next got last (ne_eqb n next e)

  pub shelved_there : Updates key_cmp old new key (Some n) → AreShelves (insert_key same_key keys key) (slice_set shelves i new)
  shelved_there updates =
      subst (λ (j : ℕ). AreShelves (insert_key same_key keys key) (slice_set shelves j new)) (sym on)
      (shelved keys shelves key old new n are there (subst (λ (j : ℕ). j < length shelves) on inside) updates number_there)
