-- Lists of entries: beginnings, and the entries of one pass.
use Rattle.std.proofs.Common.{◌≡◌, ◌≢◌, ℕ, ◌≤◌, Bool, cond, eqb, List, [], ◌∷◌, ◌++◌, length, drop, refl, sym, ap, ◌∙◌, arith, eq-eqb, ne_eqb, length-append, append_assoc}
use mathlib.Core.List.{IsPrefix, append-nil}
use Rattle.std.specs.Prelude.{All, map}
use Rattle.std.proofs.Math.Seq.{drop-append_seam}
use Rattle.std.proofs.lemmas.List.Elements.{All-nil, All-cons, All-head, All-tail, filter-append}
use Rattle.rlock.specs.Known.{entries_by, Appends, new_entries}
use Rattle.rlock.specs.Views.{times}
use Rattle.rlock.proofs.Counting.{times-cons, times_here}

module _ {E : Type 0} where
  pub IsPrefix-trans : (xs ys zs : List E) → IsPrefix xs ys → IsPrefix ys zs → IsPrefix xs zs
  IsPrefix-trans xs ys zs p q = (p.0 ++ q.0, sym (append_assoc xs p.0 q.0) ∙ (ap (λ (l : List E). l ++ q.0) p.1 ∙ q.1))

  pub IsPrefix-refl : (xs : List E) → IsPrefix xs xs
  IsPrefix-refl xs = ([], append-nil xs)

  pub IsPrefix-to : (xs ys zs : List E) → ys ≡ zs → IsPrefix xs ys → IsPrefix xs zs
  IsPrefix-to xs ys zs e p = (p.0, p.1 ∙ e)

  pub IsPrefix-length : (xs ys : List E) → IsPrefix xs ys → length xs ≤ length ys
  IsPrefix-length xs ys p = omega (arith, length-append xs p.0, ap length p.1)

  -- a beginning that is as long as the list is the list
  pub IsPrefix-whole : (xs ys : List E) → IsPrefix xs ys → length ys ≤ length xs → xs ≡ ys
  IsPrefix-whole xs ys p long = empty p.0 p.1 (omega (arith, length-append xs p.0, ap length p.1))
    where
      empty : (rest : List E) → xs ++ rest ≡ ys → length rest ≡ 0 → xs ≡ ys
      empty [] e none = sym (append-nil xs) ∙ e
      empty (x ∷ rest) e none = absurd (omega arith)

module _ {E : Type 0} (number : E → ℕ) where
  pub entries_by-append : (n : ℕ) (xs ys : List E) → entries_by number n (xs ++ ys) ≡ entries_by number n xs ++ entries_by number n ys
  entries_by-append n xs ys = filter-append (λ e. eqb (number e) n) xs ys

  pub entries_by_own : (n : ℕ) (xs : List E) → All (λ e. number e ≡ n) xs → entries_by number n xs ≡ xs
  entries_by_own n [] all = refl
  entries_by_own n (x ∷ xs) all = ap (λ (b : Bool). cond b (x ∷ entries_by number n xs) (entries_by number n xs)) (eq-eqb (number x) n (All-head (λ e. number e ≡ n) x xs all))
      ∙ ap (λ (l : List E). x ∷ l) (entries_by_own n xs (All-tail (λ e. number e ≡ n) x xs all))

  pub entries_by_other : (n k : ℕ) (xs : List E) → k ≢ n → All (λ e. number e ≡ n) xs → entries_by number k xs ≡ []
  entries_by_other n k [] other all = refl
  entries_by_other n k (x ∷ xs) other all = ap (λ (b : Bool). cond b (x ∷ entries_by number k xs) (entries_by number k xs)) (ne_eqb (number x) k (λ e. other (sym e ∙ All-head (λ e. number e ≡ n) x xs all)))
      ∙ entries_by_other n k xs other (All-tail (λ e. number e ≡ n) x xs all)

  -- the new entries are all of the pass n, so no other pass gets any
  pub others_keep : (n k : ℕ) (seen list : List E) → Appends number n seen list → k ≢ n → entries_by number k list ≡ entries_by number k seen
  others_keep n k seen list more other = ap (entries_by number k) more.1
      ∙ (entries_by-append k seen more.0 ∙ (ap (λ (l : List E). entries_by number k seen ++ l) (entries_by_other n k more.0 other more.2) ∙ append-nil (entries_by number k seen)))

  pub new_entries_are : (n : ℕ) (seen list : List E) (more : Appends number n seen list) → new_entries seen list ≡ more.0
  new_entries_are n seen list more = ap (λ (l : List E). drop (length seen) l) more.1 ∙ drop-append_seam seen more.0

  -- and the pass n has made all of them
  pub own_grow : (n : ℕ) (seen list : List E) → Appends number n seen list → entries_by number n list ≡ entries_by number n seen ++ new_entries seen list
  own_grow n seen list more = ap (entries_by number n) more.1 ∙ (entries_by-append n seen more.0
      ∙ ap (λ (l : List E). entries_by number n seen ++ l) (entries_by_own n more.0 more.2 ∙ sym (new_entries_are n seen list more)))

  pub Appends-prefix : (n : ℕ) (seen list : List E) → Appends number n seen list → IsPrefix seen list
  Appends-prefix n seen list more = (more.0, sym more.1)

-- a list that does not have a number
pub apart_from : {A : Type 0} (f : A → ℕ) (n : ℕ) (xs : List A) → times n (map f xs) ≡ 0 → All (λ x. f x ≢ n) xs
apart_from {A} f n [] none = All-nil (λ x. f x ≢ n)
apart_from {A} f n (x ∷ xs) none = let P : A → Type 0 = λ x. f x ≢ n in
    All-cons P x xs (λ e. omega (arith, none, ap (λ (k : ℕ). times n (k ∷ map f xs)) e, times_here n (map f xs)))
    (apart_from f n xs (omega (arith, none, times-cons n (f x) (map f xs))))
