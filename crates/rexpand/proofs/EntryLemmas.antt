-- A set is added to the entries of some resources.
use Rattle.std.proofs.Common.{◌≡◌, ◌⊎◌, ℕ, ◌<◌, ◌==◌, ◌||◌, Bool, true, false, cond, List, [], ◌∷◌, ◌++◌, nat_lt, length, take, drop, get_or, fold, refl, sym, ap, subst, ◌∙◌, inl, inr, length-set, get_or-set_same, get_or-set_other}
use Rattle.std.specs.Prelude.{slice_set}
use Rattle.std.specs.List.{list_any, list_all}
use Rattle.std.specs.FinSet.{empty, union}
use Rattle.std.proofs.lemmas.List.{append-nil}
use Rattle.std.proofs.Math.Seq.{take-length, drop-length}
use Rattle.std.proofs.lemmas.Bool.{cases_eq, eq-eqb, ne_eqb, lt-ltb}
use Rattle.rset.specs.Sets.{Set, all_below, rising}
use Rattle.rset.proofs.SetLemmas.{union_associative, union_same, rising_member, all_below_at}
use Rattle.rset.proofs.SetMembers.{all_from}
use Rattle.rexpand.specs.Kept.{widen}

-- each number of the rising list is below q where the members are
pub rising_all_below : (q : ℕ) (s : Set) → all_below q s ≡ true → list_all (λ l. nat_lt l q) (rising s) ≡ true
rising_all_below q s h = all_from (λ l. nat_lt l q) (rising s) (λ l there. lt-ltb l q (all_below_at q s h l (rising_member s l there)))

pub length_widened : (place : ℕ → ℕ) (added : Set) (xs : List ℕ) (entries : List Set) → length (fold (widen place added) entries xs) ≡ length entries
length_widened place added [] entries = refl
length_widened place added (x ∷ xs) entries = length_widened place added xs (widen place added entries x) ∙ length-set entries (place x) (union (get_or entries (place x) empty) added)

-- the entries at the places of the numbers get the set, and the others stay
pub widened : (place : ℕ → ℕ) (added : Set) (xs : List ℕ) (entries : List Set) (k : ℕ) → k < length entries → get_or (fold (widen place added) entries xs) k empty ≡ cond (list_any (λ y. place y == k) xs) (union (get_or entries k empty) added) (get_or entries k empty)
widened place added [] entries k h = refl
widened place added (x ∷ xs) entries k h =
    widened place added xs (widen place added entries x) k (subst (λ n. k < n) (sym (length-set entries (place x) (union (get_or entries (place x) empty) added))) h)
    ∙ split (cases_eq (place x) k) (list_any (λ y. place y == k) xs)
  where
    entry : Set
    entry = get_or entries k empty

    twice : union (union (get_or entries k empty) added) added ≡ union (get_or entries k empty) added
    twice = union_associative (get_or entries k empty) added added ∙ ap (union (get_or entries k empty)) (union_same added)

    here : (b : Bool) → cond b (union (union (get_or entries k empty) added) added) (union (get_or entries k empty) added) ≡ union (get_or entries k empty) added
    here true = twice
    here false = refl

    split : (place x ≡ k) ⊎ (place x ≡ k → ⊥) → (b : Bool) → cond b (union (get_or (widen place added entries x) k empty) added) (get_or (widen place added entries x) k empty) ≡ cond ((place x == k) || b) (union (get_or entries k empty) added) (get_or entries k empty)
    split (inl same) b =
        ap (λ e. cond b (union e added) e) (changed same) ∙ here b
        ∙ ap (λ a. cond (a || b) (union (get_or entries k empty) added) (get_or entries k empty)) (sym (eq-eqb (place x) k same))
      where
        changed : place x ≡ k → get_or (widen place added entries x) k empty ≡ union (get_or entries k empty) added
        changed same =
            ap (λ n. get_or (slice_set entries n (union (get_or entries n empty) added)) k empty) same
            ∙ get_or-set_same entries k (union (get_or entries k empty) added) empty h
    split (inr other) b =
        ap (λ e. cond b (union e added) e) (get_or-set_other entries (place x) k (union (get_or entries (place x) empty) added) empty (λ e. other (sym e)))
        ∙ ap (λ a. cond (a || b) (union (get_or entries k empty) added) (get_or entries k empty)) (sym (ne_eqb (place x) k other))

-- what a slice that covers the whole of a vector wrote is what the vector then has
pub written_back : (n : ℕ) (xs ys : List Set) → length xs ≡ length ys → n ≡ length ys → take n (xs ++ drop (length xs) ys) ≡ xs
written_back n xs ys same whole =
    ap (λ m. take n (xs ++ drop m ys)) same ∙ ap (λ zs. take n (xs ++ zs)) (drop-length ys) ∙ ap (take n) (append-nil xs)
    ∙ ap (λ m. take m xs) (whole ∙ sym same) ∙ take-length xs
