-- The rising list of a set's members: what stands in it, that it rises, and that it gives the set back.
use Rattle.std.proofs.Common.{◌≡◌, ℕ, zero, suc, ◌+◌, ◌<◌, ◌≤◌, ◌==◌, ◌&&◌, ◌||◌, not, Bool, true, false, cond, List, [], ◌∷◌, length, get_or, Some, refl, sym, ap, ◌∙◌, inl, inr, arith, add-one}
use Rattle.std.specs.Prelude.{slice_get}
use Rattle.std.specs.List.{list_any, fold, AllByRecursion}
use Rattle.std.specs.List.Sorted.{IsStrictlySortedBy, IsStrictlyIncreasing}
use Rattle.std.specs.Ordering.{nat_cmp}
use Rattle.std.specs.declared.cmp.Ordering.TheVariants.{Less, Equal, Greater}
use Rattle.std.specs.Cmp.{nat_cmp_total}
use Rattle.std.specs.FinSet.{empty, contains, insert, remove, len, from_list, contains-from_list_nat, len-empty, len-insert}
use Rattle.std.proofs.lemmas.Bool.{true≢false, eqb-true, eq-eqb, ne_eqb, lt-ltb, cases_eq, or_cases, or_left, or_right, and_right, false_from_ne_true}
use Rattle.std.proofs.lemmas.Map.Keys.{IsStrictlyIncreasing-from_sorted}
use Rattle.rset.specs.declared.TheConstants.{RESOURCES}
use Rattle.rset.specs.Sets.{Set, members_from, rising, all_below}
use Rattle.rset.proofs.SetMembers.{same_test, same_members, contains_empty, contains_insert, contains_remove}
use Rattle.rset.proofs.SetsBelow.{all_below_at}

-- ---- what stands in the list

-- a member of the range stands in the list
stands : (n low l : ℕ) (s : Set) → low ≤ l → l < low + n → contains s l ≡ true → list_any (λ y. y == l) (members_from low n s) ≡ true
unfolding members_from
stands zero low l s a b c = absurd (omega arith)
stands (suc n) low l s a b c = elim (cases_eq low l) [
  | inl same ↦
      ap (λ x. list_any (λ y. y == l) (cond x (low ∷ members_from (suc low) n s) (members_from (suc low) n s))) (ap (contains s) same ∙ c)
      ∙ or_left (low == l) _ (eq-eqb low l same)
  | inr other ↦ later (contains s low) low l (members_from (suc low) n s) (stands n (suc low) l s (omega arith) (omega arith) c)
]
  where
    later : (b : Bool) (x l : ℕ) (xs : List ℕ) → list_any (λ y. y == l) xs ≡ true → list_any (λ y. y == l) (cond b (x ∷ xs) xs) ≡ true
    later true x l xs h = or_right (x == l) _ h
    later false x l xs h = h

-- what stands in the list is a member of the range
record IsMemberFrom (low n l : ℕ) (s : Set) : Type 0 where
  from : low ≤ l
  below : l < low + n
  member : contains s l ≡ true

standing : (n low l : ℕ) (s : Set) → list_any (λ y. y == l) (members_from low n s) ≡ true → IsMemberFrom low n l s
unfolding members_from
standing zero low l s h = absurd (true≢false (sym h))
standing (suc n) low l s h = split (standing n (suc low) l s) (contains s low) refl h
  where
    wider : IsMemberFrom (suc low) n l s → IsMemberFrom low (suc n) l s
    wider m = record { from = omega (arith, m.from); below = omega (arith, m.below); member = m.member }

    split : (list_any (λ y. y == l) (members_from (suc low) n s) ≡ true → IsMemberFrom (suc low) n l s) → (b : Bool) → contains s low ≡ b → list_any (λ y. y == l) (cond b (low ∷ members_from (suc low) n s) (members_from (suc low) n s)) ≡ true → IsMemberFrom low (suc n) l s
    split rest true is there = elim (or_cases (low == l) _ there) [
      | inl same ↦
          let e : low ≡ l = eqb-true low l same in
          record { from = omega arith; below = omega arith; member = ap (contains s) (sym e) ∙ is }
      | inr later ↦ wider (rest later)
    ]
    split rest false is there = wider (rest there)

-- the rising list holds the members and nothing else
pub rising_has : (s : Set) → all_below RESOURCES s ≡ true → (l : ℕ) → list_any (λ y. y == l) (rising s) ≡ contains s l
unfolding rising
rising_has s h l = same_test _ _
    (λ there. (standing RESOURCES 0 l s there).member)
    (λ is. let small : l < RESOURCES = all_below_at RESOURCES s h l is in stands RESOURCES 0 l s (omega arith) (omega arith) is)

-- each number in it is a member
pub rising_member : (s : Set) (l : ℕ) → list_any (λ y. y == l) (rising s) ≡ true → contains s l ≡ true
unfolding rising
rising_member s l there = (standing RESOURCES 0 l s there).member

-- and below the number of resources
pub rising_below : (s : Set) (l : ℕ) → list_any (λ y. y == l) (rising s) ≡ true → l < RESOURCES
unfolding rising
rising_below s l there = let m = standing RESOURCES 0 l s there in omega (arith, m.below)

-- the element at an index stands in its list
stands_at : (xs : List ℕ) (k : ℕ) → k < length xs → list_any (λ y. y == get_or xs k 0) xs ≡ true
stands_at [] k h = absurd (omega arith)
stands_at (x ∷ xs) zero h = or_left (x == x) _ (eq-eqb x x refl)
stands_at (x ∷ xs) (suc k) h = or_right (x == get_or xs k 0) _ (stands_at xs k (omega arith))

-- what an iterator gives first is a member, and below the number of resources
pub rising_head_member : (s : Set) (l : ℕ) (rest : List ℕ) → rising s ≡ l ∷ rest → contains s l ≡ true
rising_head_member s l rest e = rising_member s l (ap (list_any (λ y. y == l)) e ∙ or_left (l == l) _ (eq-eqb l l refl))

pub rising_head_below : (s : Set) (l : ℕ) (rest : List ℕ) → rising s ≡ l ∷ rest → l < RESOURCES
rising_head_below s l rest e = rising_below s l (ap (list_any (λ y. y == l)) e ∙ or_left (l == l) _ (eq-eqb l l refl))

pub rising_at : (s : Set) (k : ℕ) → k < length (rising s) → contains s (get_or (rising s) k 0) ≡ true
rising_at s k h = rising_member s _ (stands_at (rising s) k h)

-- ---- it rises

above_start : (n low b : ℕ) (s : Set) → b < low → AllByRecursion (λ y. nat_cmp b y ≡ Less) (members_from low n s)
unfolding members_from
above_start zero low b s h = tt
above_start (suc n) low b s h = more (contains s low) (members_from (suc low) n s) (above_start n (suc low) b s (omega arith))
  where
    less : nat_cmp b low ≡ Less
    less = ap (λ t. cond t Less (cond (b == low) Equal Greater)) (lt-ltb b low h)

    more : (c : Bool) (xs : List ℕ) → AllByRecursion (λ y. nat_cmp b y ≡ Less) xs → AllByRecursion (λ y. nat_cmp b y ≡ Less) (cond c (low ∷ xs) xs)
    more true xs all = (less, all)
    more false xs all = all

sorted_from : (n low : ℕ) (s : Set) → IsStrictlySortedBy nat_cmp (members_from low n s)
unfolding members_from IsStrictlySortedBy
sorted_from zero low s = tt
sorted_from (suc n) low s = elim (contains s low) as (λ c. IsStrictlySortedBy nat_cmp (cond c (low ∷ members_from (suc low) n s) (members_from (suc low) n s))) [
  | true ↦ (above_start n (suc low) low s (omega arith), sorted_from n (suc low) s)
  | false ↦ sorted_from n (suc low) s
]

pub rising_strict : (s : Set) → IsStrictlyIncreasing (rising s)
unfolding rising
rising_strict s = IsStrictlyIncreasing-from_sorted _ (sorted_from RESOURCES 0 s)

-- ---- it gives the set back

pub from_list_rising : (s : Set) → all_below RESOURCES s ≡ true → from_list (rising s) ≡ s
from_list_rising s h = same_members _ _ (λ l. contains-from_list_nat (rising s) l ∙ rising_has s h l)

contains_fold : (xs : List ℕ) (s : Set) (l : ℕ) → contains (fold insert s xs) l ≡ (contains s l || list_any (λ y. y == l) xs)
contains_fold [] s l = kept (contains s l)
  where
    kept : (b : Bool) → b ≡ (b || false)
    kept true = refl
    kept false = refl
contains_fold (x ∷ xs) s l =
    contains_fold xs (insert s x) l ∙ ap (λ b. b || list_any (λ y. y == l) xs) (contains_insert s x l)
    ∙ moved (contains s l) (list_any (λ y. y == l) xs) (same_test (l == x) (x == l) (turn l x) (turn x l))
  where
    turn : (a b : ℕ) → (a == b) ≡ true → (b == a) ≡ true
    turn a b h = eq-eqb b a (sym (eqb-true a b h))

    regroup : (a b c : Bool) → ((a || b) || c) ≡ (b || (a || c))
    regroup true true c = refl
    regroup true false c = refl
    regroup false b c = refl

    moved : (b c : Bool) → (l == x) ≡ (x == l) → (((l == x) || b) || c) ≡ (b || ((x == l) || c))
    moved b c e = regroup (l == x) b c ∙ ap (λ a. b || (a || c)) e

-- inserting the members by rising number makes the set
pub fold_rising : (s : Set) → all_below RESOURCES s ≡ true → fold insert empty (rising s) ≡ s
fold_rising s h = same_members _ _ (λ l.
    contains_fold (rising s) empty l ∙ ap (λ b. b || list_any (λ y. y == l) (rising s)) (contains_empty l) ∙ rising_has s h l)

-- two sets of resources with one rising list are equal
pub rising_injective : (s t : Set) → all_below RESOURCES s ≡ true → all_below RESOURCES t ≡ true → rising s ≡ rising t → s ≡ t
rising_injective s t a b e = sym (from_list_rising s a) ∙ ap (λ xs. from_list xs) e ∙ from_list_rising t b

len_from : (n low : ℕ) (s : Set) → len (from_list {R = nat_cmp} (members_from low n s)) ≡ length (members_from low n s)
unfolding members_from
len_from zero low s = len-empty nat_cmp
len_from (suc n) low s = elim (contains s low) as (λ c. len (from_list {R = nat_cmp} (cond c (low ∷ members_from (suc low) n s) (members_from (suc low) n s))) ≡ length (cond c (low ∷ members_from (suc low) n s) (members_from (suc low) n s))) [
  | true ↦
      len-insert nat_cmp_total (from_list (members_from (suc low) n s)) low
      ∙ ap (λ b. cond b (len (from_list {R = nat_cmp} (members_from (suc low) n s))) (len (from_list {R = nat_cmp} (members_from (suc low) n s)) + 1)) absent
      ∙ ap (λ m. m + 1) (len_from n (suc low) s) ∙ add-one _
  | false ↦ len_from n (suc low) s
]
  where
    absent : contains (from_list {R = nat_cmp} (members_from (suc low) n s)) low ≡ false
    absent = contains-from_list_nat (members_from (suc low) n s) low
        ∙ false_from_ne_true _ (λ there. let m = standing n (suc low) low s there in absurd (omega (arith, m.from)))

-- its length is the number of members
pub length_rising : (s : Set) → all_below RESOURCES s ≡ true → length (rising s) ≡ len s
unfolding rising
length_rising s h = sym (len_from RESOURCES 0 s) ∙ ap len (from_list_rising s h)

few_from : (n low : ℕ) (s : Set) → length (members_from low n s) ≤ n
unfolding members_from
few_from zero low s = omega arith
few_from (suc n) low s = more (contains s low) (few_from n (suc low) s)
  where
    more : (b : Bool) → length (members_from (suc low) n s) ≤ n → length (cond b (low ∷ members_from (suc low) n s) (members_from (suc low) n s)) ≤ suc n
    more true few = omega arith
    more false few = omega arith

-- and no more than there are resources
pub rising_few : (s : Set) → length (rising s) ≤ RESOURCES
unfolding rising
rising_few s = few_from RESOURCES 0 s

-- ---- its first element and the rest

same_from : (n low : ℕ) (s t : Set) → ((l : ℕ) → low ≤ l → contains s l ≡ contains t l) → members_from low n s ≡ members_from low n t
unfolding members_from
same_from zero low s t is = refl
same_from (suc n) low s t is =
    let rest = same_from n (suc low) s t (λ l h. is l (omega arith)) in
    λ i. cond (is low (omega arith) i) (low ∷ rest i) (rest i)

none_from : (n low : ℕ) (s : Set) → ((l : ℕ) → contains s l ≡ false) → members_from low n s ≡ []
unfolding members_from
none_from zero low s none = refl
none_from (suc n) low s none =
    ap (λ b. cond b (low ∷ members_from (suc low) n s) (members_from (suc low) n s)) (none low) ∙ none_from n (suc low) s none

pub rising_empty : rising empty ≡ []
unfolding rising
rising_empty = none_from RESOURCES 0 empty contains_empty

least_from : (n low l : ℕ) (s : Set) → low ≤ l → l < low + n → contains s l ≡ true → ((m : ℕ) → contains s m ≡ true → l ≤ m) → members_from low n s ≡ l ∷ members_from low n (remove s l)
unfolding members_from
least_from zero low l s a b c least = absurd (omega arith)
least_from (suc n) low l s a b c least = elim (cases_eq low l) [
  | inl same ↦
      ap (λ x. cond x (low ∷ members_from (suc low) n s) (members_from (suc low) n s)) (ap (contains s) same ∙ c)
      ∙ (λ i. same i ∷ same_from n (suc low) s (remove s l) (kept same) i)
      ∙ sym (ap (λ x. l ∷ cond x (low ∷ members_from (suc low) n (remove s l)) (members_from (suc low) n (remove s l))) (gone same))
  | inr other ↦
      let lower : low < l = omega arith in
      let absent : contains s low ≡ false = false_from_ne_true (contains s low) (λ there. let le : l ≤ low = least low there in absurd (omega arith)) in
      ap (λ x. cond x (low ∷ members_from (suc low) n s) (members_from (suc low) n s)) absent
      ∙ least_from n (suc low) l s (omega arith) (omega arith) c least
      ∙ sym (ap (λ x. l ∷ cond x (low ∷ members_from (suc low) n (remove s l)) (members_from (suc low) n (remove s l))) (contains_remove s l low ∙ and_right _ _ absent))
]
  where
    gone : low ≡ l → contains (remove s l) low ≡ false
    gone same = contains_remove s l low ∙ ap (λ b. not b && contains s low) (eq-eqb low l same)

    kept : low ≡ l → (m : ℕ) → suc low ≤ m → contains s m ≡ contains (remove s l) m
    kept same m h = sym (contains_remove s l m ∙ ap (λ b. not b && contains s m) (ne_eqb m l (λ e. absurd (omega arith))))

-- the least member stands first, and the others follow
pub rising_next : (s : Set) (l : ℕ) → l < RESOURCES → contains s l ≡ true → ((m : ℕ) → contains s m ≡ true → l ≤ m) → rising s ≡ l ∷ rising (remove s l)
unfolding rising
rising_next s l small is least = least_from RESOURCES 0 l s (omega arith) (omega arith) is least

pub rising_first : (s : Set) (l : ℕ) → l < RESOURCES → contains s l ≡ true → ((m : ℕ) → contains s m ≡ true → l ≤ m) → slice_get (rising s) 0 ≡ Some l
rising_first s l small is least = ap (λ xs. slice_get xs 0) (rising_next s l small is least)
