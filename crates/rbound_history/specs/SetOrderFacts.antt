-- The order of sets is total, and only equal sets tie.
use Rattle.std.proofs.Common.{◌≡◌, ◌≢◌, ◌<◌, ◌≤◌, ◌&&◌, ◌==◌, ◌⊎◌, not, min, ℕ, Bool, true, false, List, [], ◌∷◌, Option, Some, None, refl, sym, ap, subst, ◌∙◌, inl, inr, arith}
use Rattle.std.specs.Prelude.{nat_lt}
use Rattle.std.specs.List.{list_any}
use Rattle.std.specs.Cmp.{IsTotalOrder, Equal-is, nat_cmp_total, tied_itself, ranks, strict, means}
use Rattle.std.specs.Bool.{one_answer}
use Rattle.std.specs.FinSet.{empty, contains, items, difference, contains-empty, contains-difference, same_set, nat_cmp-IsAntisymmetric}
use Rattle.std.specs.Ordering.{nat_cmp, eq_by_cmp, MatchOrdering}
use Rattle.std.specs.declared.cmp.Ordering.{Ordering}
use Rattle.std.specs.declared.cmp.Ordering.TheVariants.{Less, Equal, Greater}
use Rattle.std.proofs.lemmas.Bool.{true≢false, eqb-true, eq-eqb, ltb-true, ltb-false, or_cases, or_left, or_right}
use Rattle.std.proofs.lemmas.Bool.Decides.{eqb_tells}
use Rattle.rset.specs.Sets.{Set, equals}
use Rattle.rset.specs.SetFacts.{equals_decides}
use Rattle.rset.proofs.SetMembers.{contains_in_items}
use Rattle.rbound_history.specs.SetOrder.{lesser, least_in, least, by_least, set_cmp}

both : {P : Type 0} (b : Bool) → b ≡ true → b ≡ false → P
both b is not_so = absurd (true≢false (sym is ∙ not_so))

-- ---- the least member

abbrev Stands : ℕ → List ℕ → Type 0
Stands l xs = list_any (λ y. y == l) xs ≡ true

none_in : (xs : List ℕ) → least_in xs ≡ None → (l : ℕ) → Stands l xs → ⊥
none_in [] e l there = true≢false (sym there)
none_in (x ∷ xs) e l there = let none : Some (lesser x (least_in xs)) ≡ None = e in cc

least_there : (xs : List ℕ) (m : ℕ) → least_in xs ≡ Some m → Stands m xs
least_there [] m e = let none : None ≡ Some m = e in cc
least_there (x ∷ xs) m e = at (least_there xs m) (least_in xs) refl e
  where
    at : (least_in xs ≡ Some m → Stands m xs) → (o : Option ℕ) → least_in xs ≡ o → Some (lesser x o) ≡ Some m → Stands m (x ∷ xs)
    at rest None is same = or_left (x == m) _ (eq-eqb x m cc)
    at rest (Some y) is same =
        let low : min x y ≡ m = cc in
        elim (eqb_tells x m) [
          | inl here ↦ or_left (x == m) _ here.0
          | inr other ↦ let apart : x ≢ m = other.1 in let e : y ≡ m = omega arith in or_right (x == m) _ (rest (is ∙ ap Some e))
        ]

least_low : (xs : List ℕ) (m : ℕ) → least_in xs ≡ Some m → (l : ℕ) → Stands l xs → m ≤ l
least_low [] m e l there = absurd (true≢false (sym there))
least_low (x ∷ xs) m e l there = at (λ y is. least_low xs y is l) (least_in xs) refl e (or_cases (x == l) _ there)
  where
    at : ((y : ℕ) → least_in xs ≡ Some y → Stands l xs → y ≤ l) → (o : Option ℕ) → least_in xs ≡ o → Some (lesser x o) ≡ Some m → ((x == l) ≡ true) ⊎ Stands l xs → m ≤ l
    at rest None is same (inl here) = let low : x ≡ m = cc in let e : x ≡ l = eqb-true x l here in omega arith
    at rest None is same (inr later) = absurd (none_in xs is l later)
    at rest (Some y) is same (inl here) = let low : min x y ≡ m = cc in let e : x ≡ l = eqb-true x l here in omega arith
    at rest (Some y) is same (inr later) = let low : min x y ≡ m = cc in let up : y ≤ l = rest y is later in omega arith

-- a number is the least member of a set
pub record IsLeast (s : Set) (m : ℕ) : Type 0 where
  pub member : contains s m ≡ true
  pub low : (l : ℕ) → contains s l ≡ true → m ≤ l

pub no_member : (s : Set) → least s ≡ None → (l : ℕ) → contains s l ≡ false
unfolding least
no_member s e l = at (contains s l) refl
  where
    at : (b : Bool) → contains s l ≡ b → contains s l ≡ false
    at true is = absurd (none_in (items s) e l (sym (contains_in_items s l) ∙ is))
    at false is = is

pub some_least : (s : Set) (m : ℕ) → least s ≡ Some m → IsLeast s m
unfolding least
some_least s m e = record {
  member = contains_in_items s m ∙ least_there (items s) m e;
  low = λ l there. least_low (items s) m e l (sym (contains_in_items s l) ∙ there);
}

-- what is known of the first member of a set gives its least
pub first_is : (s : Set) (r : Option ℕ) → (r ≡ None → s ≡ empty) → ((m : ℕ) → r ≡ Some m → IsLeast s m) → r ≡ least s
first_is s r none some = at r (least s) refl refl
  where
    at : (p q : Option ℕ) → r ≡ p → least s ≡ q → r ≡ least s
    at None None a b = a ∙ sym b
    at None (Some m) a b = both (contains s m) (some_least s m b).member (ap (λ x. contains x m) (none a) ∙ contains-empty nat_cmp m)
    at (Some l) None a b = both (contains s l) (some l a).member (no_member s b l)
    at (Some l) (Some m) a b =
        let here = some l a in
        let there = some_least s m b in
        let up : l ≤ m = here.low m there.member in
        let down : m ≤ l = there.low l here.member in
        let same : l ≡ m = omega arith in
        a ∙ ap Some same ∙ sym b

-- ---- the order

-- the first set comes before the second: it has the least number that only one of them has
record IsBefore (a b : Set) : Type 0 where
  at : ℕ
  has : contains a at ≡ true
  lacks : contains b at ≡ false
  same : (l : ℕ) → l < at → contains a l ≡ contains b l

not_itself : (a : Set) → IsBefore a a → ⊥
not_itself a h = both (contains a h.at) h.has h.lacks

chained : (a b c : Set) → IsBefore a b → IsBefore b c → IsBefore a c
chained a b c p q = elim (eqb_tells p.at q.at) [
  | inl level ↦ both (contains b q.at) q.has (ap (contains b) (sym level.1) ∙ p.lacks)
  | inr other ↦ split other.1
]
  where
    split : p.at ≢ q.at → IsBefore a c
    split apart = elim (cases_lt p.at q.at apart) [
      | inl less ↦ record { at = p.at; has = p.has; lacks = sym (q.same p.at less) ∙ p.lacks; same = λ l low. p.same l low ∙ q.same l (omega arith) }
      | inr more ↦ record { at = q.at; has = p.same q.at more ∙ q.has; lacks = q.lacks; same = λ l low. p.same l (omega arith) ∙ q.same l low }
    ]
      where
        cases_lt : (x y : ℕ) → x ≢ y → (x < y) ⊎ (y < x)
        cases_lt x y n = at (nat_lt x y) refl
          where
            at : (b : Bool) → nat_lt x y ≡ b → (x < y) ⊎ (y < x)
            at true less = inl (ltb-true x y less)
            at false more = let low : y ≤ x = ltb-false x y more in inr (omega arith)

only : (a b : Set) (l : ℕ) → contains (difference a b) l ≡ (contains a l && not (contains b l))
only a b l = contains-difference nat_cmp_total a b l

equal_where : (p q : Bool) → (p && not q) ≡ false → (q && not p) ≡ false → p ≡ q
equal_where true true h k = refl
equal_where true false h k = h
equal_where false true h k = sym k
equal_where false false h k = refl

parted : (p q : Bool) → (p && not q) ≡ true → (p ≡ true) × (q ≡ false)
parted true true h = absurd (true≢false (sym h))
parted true false h = (refl, refl)
parted false q h = absurd (true≢false (sym h))

-- where the first has a number alone, and the second has no lesser one alone
before_by : (a b : Set) (m : ℕ) → IsLeast (difference a b) m → ((l : ℕ) → l < m → contains (difference b a) l ≡ false) → IsBefore a b
before_by a b m is none =
    let here = parted (contains a m) (contains b m) (sym (only a b m) ∙ is.member) in
    record {
      at = m;
      has = here.0;
      lacks = here.1;
      same = λ l less. equal_where (contains a l) (contains b l) (sym (only a b l) ∙ below l less (contains (difference a b) l) refl) (sym (only b a l) ∙ none l less);
    }
  where
    below : (l : ℕ) → l < m → (b' : Bool) → contains (difference a b) l ≡ b' → contains (difference a b) l ≡ false
    below l less true there = let up : m ≤ l = is.low l there in absurd (omega arith)
    below l less false there = there

none_lower : (s : Set) (m l : ℕ) → IsLeast s m → l < m → contains s l ≡ false
none_lower s m l is less = at (contains s l) refl
  where
    at : (b : Bool) → contains s l ≡ b → contains s l ≡ false
    at true there = let up : m ≤ l = is.low l there in absurd (omega arith)
    at false there = there

mapped : {P Q R P' Q' R' : Type 0} (r : Ordering) → (P → P') → (Q → Q') → (R → R') → MatchOrdering r P Q R → MatchOrdering r P' Q' R'
mapped Less f g h m = f m
mapped Equal f g h m = g m
mapped Greater f g h m = h m

ranked : (a b : Set) → MatchOrdering (set_cmp a b) (IsBefore a b) (a ≡ b) (IsBefore b a)
unfolding set_cmp
ranked a b = at (least (difference a b)) (least (difference b a)) refl refl
  where
    at : (p q : Option ℕ) → least (difference a b) ≡ p → least (difference b a) ≡ q → MatchOrdering (by_least p q) (IsBefore a b) (a ≡ b) (IsBefore b a)
    at None None d e =
        same_set nat_cmp_total nat_cmp-IsAntisymmetric a b
        (λ l. equal_where (contains a l) (contains b l) (sym (only a b l) ∙ no_member (difference a b) d l) (sym (only b a l) ∙ no_member (difference b a) e l))
    at None (Some y) d e = before_by b a y (some_least (difference b a) y e) (λ l less. no_member (difference a b) d l)
    at (Some x) None d e = before_by a b x (some_least (difference a b) x d) (λ l less. no_member (difference b a) e l)
    at (Some x) (Some y) d e =
        let left = some_least (difference a b) x d in
        let right = some_least (difference b a) y e in
        mapped (nat_cmp x y)
        (λ (less : x < y). before_by a b x left (λ l low. none_lower (difference b a) y l right (omega arith)))
        (λ (same : x ≡ y). both (contains a x) (parted (contains a x) (contains b x) (sym (only a b x) ∙ left.member)).0 (ap (contains a) same ∙ (parted (contains b y) (contains a y) (sym (only b a y) ∙ right.member)).1))
        (λ (less : y < x). before_by b a y right (λ l low. none_lower (difference a b) x l left (omega arith)))
        (ranks x y)

pub set_cmp_total : IsTotalOrder set_cmp
set_cmp_total = strict IsBefore not_itself chained set_cmp ranked

pub set_cmp_equal : (a b : Set) → set_cmp a b ≡ Equal → a ≡ b
set_cmp_equal a b e = means IsBefore not_itself chained set_cmp ranked a b Equal e

-- *Sets tie exactly where they are equal*
pub set_ties : (a b : Set) → equals a b ≡ eq_by_cmp set_cmp a b
set_ties a b =
    one_answer (equals a b) (eq_by_cmp set_cmp a b) (equals_decides a b)
    ((λ h. set_cmp_equal a b ((Equal-is (set_cmp a b)).0 h)), λ e. (Equal-is (set_cmp a b)).1 (subst (λ (x : Set). set_cmp a x ≡ Equal) e (tied_itself set_cmp_total a)))
