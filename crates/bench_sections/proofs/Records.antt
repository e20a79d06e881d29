-- The set of the records from some number on, as a loop makes it.
use Rattle.std.proofs.Common.{◌≡◌, ◌⊎◌, ℕ, zero, suc, ◌+◌, ◌-◌, ◌<◌, ◌≤◌, ◌==◌, ◌||◌, min, true, false, cond, [], ◌∷◌, refl, ap, ◌∙◌, inl, inr, arith}
use Rattle.std.specs.FinSet.{empty, contains, insert}
use Rattle.std.specs.List.{range_with_len}
use Rattle.std.proofs.lemmas.Bool.{cases_eq, cases_lt, eq-eqb, ne_eqb, or_left, or_right}
use Rattle.rset.specs.declared.TheConstants.{RESOURCES}
use Rattle.rset.specs.Sets.{Set, members_from, rising}
use Rattle.rset.proofs.SetMembers.{contains_empty, contains_insert}
use Rattle.bench_sections.specs.Measure.{records_from}

-- the members of the set are this many numbers from the first on, as far as there are resources
pub record HasFrom (first count : ℕ) (set : Set) : Type 0 where
  pub inside : (l : ℕ) → first ≤ l → l < first + count → l < RESOURCES → contains set l ≡ true
  pub before : (l : ℕ) → l < first → contains set l ≡ false
  pub behind : (l : ℕ) → first + count ≤ l → contains set l ≡ false

pub has_none : (first : ℕ) → HasFrom first 0 empty
has_none first = record { inside = λ l low high small. absurd (omega arith); before = λ l low. contains_empty l; behind = λ l high. contains_empty l }

-- one more number, which is a resource
pub has_next : (first count l : ℕ) (set : Set) → l ≡ first + count → HasFrom first count set → HasFrom first (count + 1) (insert set l)
has_next first count l set is has = record {
  inside = λ k low high small. contains_insert set l k ∙ elim (cases_eq k l) [
    | inl same ↦ or_left (k == l) (contains set k) (eq-eqb k l same)
    | inr other ↦ or_right (k == l) (contains set k) (has.inside k low (omega arith) small)
  ];
  before = λ k low. absent k (λ e. absurd (omega arith)) (has.before k low);
  behind = λ k high. absent k (λ e. absurd (omega arith)) (has.behind k (omega arith));
}
  where
    absent : (k : ℕ) → (k ≡ l → ⊥) → contains set k ≡ false → contains (insert set l) k ≡ false
    absent k other none = contains_insert set l k ∙ (λ i. ne_eqb k l other i || none i)

-- one more number, which is not a resource
pub has_no_next : (first count : ℕ) (set : Set) → RESOURCES ≤ first + count → HasFrom first count set → HasFrom first (count + 1) set
has_no_next first count set none has = record {
  inside = λ k low high small. has.inside k low (omega arith) small;
  before = has.before;
  behind = λ k high. has.behind k (omega arith);
}

none_from : (n low : ℕ) (s : Set) → ((l : ℕ) → low ≤ l → contains s l ≡ false) → members_from low n s ≡ []
unfolding members_from
none_from zero low s none = refl
none_from (suc n) low s none =
    ap (λ b. cond b (low ∷ members_from (suc low) n s) (members_from (suc low) n s)) (none low (omega arith)) ∙ none_from n (suc low) s (λ l h. none l (omega arith))

some_from : (n low first count : ℕ) (s : Set) → low ≤ first → ((l : ℕ) → l < first → low ≤ l → contains s l ≡ false) → ((l : ℕ) → first ≤ l → l < first + count → l < low + n → contains s l ≡ true)
    → ((l : ℕ) → first + count ≤ l → contains s l ≡ false) → members_from low n s ≡ range_with_len first (min count (low + n - first))
unfolding members_from
some_from zero low first count s from before inside behind =
    let none : 0 ≡ min count (low + 0 - first) = omega arith in
    ap (range_with_len first) none
some_from (suc n) low first zero s from before inside behind =
    let none : 0 ≡ min 0 (low + suc n - first) = omega arith in
    none_from (suc n) low s (λ l high. absent l high (cases_lt l first)) ∙ ap (range_with_len first) none
  where
    absent : (l : ℕ) → low ≤ l → (l < first) ⊎ (first ≤ l) → contains s l ≡ false
    absent l high (inl less) = before l less high
    absent l high (inr at) = behind l (omega arith)
some_from (suc n) low first (suc count) s from before inside behind = elim (cases_eq low first) [
  | inl same ↦
      let one : suc (min count (suc low + n - suc first)) ≡ min (suc count) (low + suc n - first) = omega arith in
      let next : suc first ≡ first + 1 = omega arith in
      ap (λ b. cond b (low ∷ members_from (suc low) n s) (members_from (suc low) n s)) (inside low (omega arith) (omega arith) (omega arith))
      ∙ (λ i. same i ∷ some_from n (suc low) (suc first) count s (omega arith) (λ l less high. absurd (omega arith)) (λ l high less within. inside l (omega arith) (omega arith) (omega arith)) (λ l high. behind l (omega arith)) i)
      ∙ ap (λ x. first ∷ range_with_len x (min count (suc low + n - suc first))) next
      ∙ ap (range_with_len first) one
  | inr other ↦
      let same : suc low + n - first ≡ low + suc n - first = omega arith in
      ap (λ b. cond b (low ∷ members_from (suc low) n s) (members_from (suc low) n s)) (before low (omega arith) (omega arith))
      ∙ some_from n (suc low) first (suc count) s (omega arith) (λ l less high. before l less (omega arith)) (λ l high less within. inside l high less (omega arith)) behind
      ∙ ap (λ x. range_with_len first (min (suc count) x)) same
]

-- then they are its members by rising number
pub rising_from : (first count : ℕ) (set : Set) → HasFrom first count set → rising set ≡ records_from first count
unfolding rising
rising_from first count set has =
    let same : 0 + RESOURCES - first ≡ RESOURCES - first = omega arith in
    some_from RESOURCES 0 first count set (omega arith) (λ l less high. has.before l less) (λ l high less within. has.inside l high less (omega arith)) has.behind
    ∙ ap (λ x. range_with_len first (min count x)) same
