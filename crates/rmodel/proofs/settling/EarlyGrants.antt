-- What was granted to a claim that is not satisfied stays free of satisfied claims.
use Rattle.std.proofs.Common.{◌≡◌, Bool, true, false, ◌&&◌, ◌||◌, List, refl, sym, ap, ◌∙◌, inl, inr}
use Rattle.std.proofs.lemmas.Bool.{true≢false, or_cases, or_left, or_right, or_parts}
use Rattle.std.specs.List.{AllByRecursion}
use Rattle.std.specs.FinSet.{empty, union, intersection, is_subset, contains}
use Rattle.rset.specs.Sets.{Set, meets}
use Rattle.rset.proofs.SetLemmas.{same_members, contains_union, contains_intersection, meets_symmetric, meets_empty_right, meets_union_right, meets_within_right, intersection_within_left, intersection_within_right, empty_within}
use Rattle.rclaim.specs.declared.claim.Claim.{Claim}
use Rattle.rmodel.specs.declared.claimed.Claimed.{Claimed}
use Rattle.rmodel.specs.Claims.{conflicts, conflicts_on, touches, share_place, is_active, is_satisfied, is_nested}
use Rattle.rmodel.specs.Rules.{Settles}
use Rattle.rmodel.specs.WellFormed.{EachPair, AreWellFormed, Entered, Apart, IsFreeOf, AreFree, HasParts}
use Rattle.rmodel.proofs.ListFacts.{contrary, false_from, zip_all, pairs_both, pairs_of_zip}
use Rattle.rmodel.proofs.settling.OneSettlement.{both_cases}
use Rattle.rmodel.proofs.reaching.Soundness.{active_of_satisfied}
use Rattle.rmodel.proofs.settling.Keeping.{conflicts_symmetric, conflict_shares, Moves, Before, moves, before, entered_after, read_apart}

-- ---- a part of what a claim reads and writes

touches_within : (c : Claim) (part more : Set) → is_subset part more ≡ true → touches c part ≡ true → touches c more ≡ true
touches_within c part more within h =
    elim (or_cases (meets c.reads part) (meets c.writes part) h) [
      | inl r ↦ or_left (meets c.reads more) (meets c.writes more) (meets_within_right c.reads part more within r)
      | inr w ↦ or_right (meets c.reads more) (meets c.writes more) (meets_within_right c.writes part more within w)
    ]

-- what conflicts with a claim on a part of what it reads and writes conflicts with it
pub conflict_by_part : (v c : Claim) (part : Set) → is_subset part (union c.reads c.writes) ≡ true → conflicts_on v c part ≡ true → conflicts v c ≡ true
conflict_by_part v c part within h =
    elim (or_cases (meets v.writes part) (touches v (intersection part c.writes)) h) [
      | inl w ↦ or_left (touches c v.writes) (touches v c.writes) (turned (sym (meets_union_right v.writes c.reads c.writes) ∙ meets_within_right v.writes part (union c.reads c.writes) within w))
      | inr t ↦ or_right (touches c v.writes) (touches v c.writes) (touches_within v (intersection part c.writes) c.writes (intersection_within_right part c.writes) t)
    ]
  where
    turned : (meets v.writes c.reads || meets v.writes c.writes) ≡ true → touches c v.writes ≡ true
    turned m = (λ i. meets_symmetric c.reads v.writes i || meets_symmetric c.writes v.writes i) ∙ m

-- a set's part in two together
intersection_union : (a b u : Set) → intersection (union a b) u ≡ union (intersection a u) (intersection b u)
intersection_union a b u = same_members _ _ (λ l.
    contains_intersection (union a b) u l ∙ ap (λ p. p && contains u l) (contains_union a b l) ∙ spread (contains a l) (contains b l) (contains u l)
    ∙ (λ i. sym (contains_intersection a u l) i || sym (contains_intersection b u l) i) ∙ sym (contains_union (intersection a u) (intersection b u) l))
  where
    spread : (p q r : Bool) → ((p || q) && r) ≡ ((p && r) || (q && r))
    spread true true true = refl
    spread true true false = refl
    spread true false true = refl
    spread true false false = refl
    spread false q r = refl

-- nothing conflicts on nothing
pub none_on_nothing : (v c : Claim) → conflicts_on v c empty ≡ false
none_on_nothing v c =
    let nothing : intersection empty c.writes ≡ empty = empty_within (intersection empty c.writes) (intersection_within_left empty c.writes) in
    (λ i. meets_empty_right v.writes i || (meets v.reads (nothing i) || meets v.writes (nothing i)))
    ∙ (λ i. false || (meets_empty_right v.reads i || meets_empty_right v.writes i))

-- what conflicts on neither of two parts does not on both together
pub none_on_both : (v c : Claim) (a b : Set) → conflicts_on v c a ≡ false → conflicts_on v c b ≡ false → conflicts_on v c (union a b) ≡ false
none_on_both v c a b on_a on_b = false_from (conflicts_on v c (union a b)) (λ clash.
    elim (or_cases (meets v.writes (union a b)) (touches v (intersection (union a b) c.writes)) clash) [
      | inl w ↦ elim (or_cases (meets v.writes a) (meets v.writes b) (sym (meets_union_right v.writes a b) ∙ w)) [
        | inl in_a ↦ contrary (conflicts_on v c a) (or_left (meets v.writes a) _ in_a) on_a
        | inr in_b ↦ contrary (conflicts_on v c b) (or_left (meets v.writes b) _ in_b) on_b
      ]
      | inr t ↦ elim (or_cases (touches v (intersection a c.writes)) (touches v (intersection b c.writes)) (split t)) [
        | inl in_a ↦ contrary (conflicts_on v c a) (or_right (meets v.writes a) _ in_a) on_a
        | inr in_b ↦ contrary (conflicts_on v c b) (or_right (meets v.writes b) _ in_b) on_b
      ]
    ])
  where
    both : (s : Set) → meets s (intersection (union a b) c.writes) ≡ true → (meets s (intersection a c.writes) || meets s (intersection b c.writes)) ≡ true
    both s m = sym (meets_union_right s (intersection a c.writes) (intersection b c.writes)) ∙ ap (meets s) (sym (intersection_union a b c.writes)) ∙ m

    either : (p q r u : Bool) → (p || q) ≡ true → ((p || r) || (q || u)) ≡ true
    either true q r u h = refl
    either false true true u h = refl
    either false true false u h = refl
    either false false r u h = absurd (true≢false (sym h))

    either_last : (p q r u : Bool) → (r || u) ≡ true → ((p || r) || (q || u)) ≡ true
    either_last true q r u h = refl
    either_last false q true u h = refl
    either_last false true false true h = refl
    either_last false false false true h = refl
    either_last false q false false h = absurd (true≢false (sym h))

    split : touches v (intersection (union a b) c.writes) ≡ true → (touches v (intersection a c.writes) || touches v (intersection b c.writes)) ≡ true
    split t = elim (or_cases (meets v.reads (intersection (union a b) c.writes)) (meets v.writes (intersection (union a b) c.writes)) t) [
      | inl r ↦ either (meets v.reads (intersection a c.writes)) (meets v.reads (intersection b c.writes)) (meets v.writes (intersection a c.writes)) (meets v.writes (intersection b c.writes)) (both v.reads r)
      | inr w ↦ either_last (meets v.reads (intersection a c.writes)) (meets v.reads (intersection b c.writes)) (meets v.writes (intersection a c.writes)) (meets v.writes (intersection b c.writes)) (both v.writes w)
    ]

-- a claim of which a part was granted is entitled or satisfied, and it is a write
pub granted_is_active : (x : Claimed) (v : Claim) → HasParts x → conflicts_on v x.claim x.granted ≡ true → (is_active x ≡ true) × (x.claim.write_half ≡ true)
granted_is_active x v had clash = (
  both_cases (is_active x) (λ a. a) (λ waits. absurd (some (had.waits waits))),
  both_cases (is_nested x.claim.kind) had.writes (λ other. absurd (some (had.of_others other).1)),
)
  where
    some : x.granted ≡ empty → ⊥
    some none = contrary (conflicts_on v x.claim x.granted) clash (ap (conflicts_on v x.claim) none ∙ none_on_nothing v x.claim)

-- ---- one settlement

module _ (s t : List Claimed) where
  record Was (x x' : Claimed) : Type 0 where
    before : Before s t x x'
    free : AreFree x x'

  record Now (x y : Claimed) : Type 0 where
    moves : Moves s t x y
    parts : HasParts x

  -- the claim was as much granted before
  granted_before : (x y : Claimed) (v : Claim) → Now x y → conflicts_on v y.claim y.granted ≡ true → conflicts_on v x.claim x.granted ≡ true
  granted_before x y v n h = (λ i. conflicts_on v (sym n.moves.by_rule.same i) (sym n.moves.by_rule.granted i)) ∙ h

  unsatisfied_before : (x y : Claimed) → Now x y → y.claim.write_half ≡ true → is_satisfied y ≡ false → is_satisfied x ≡ false
  unsatisfied_before x y n w unsat = (or_parts (is_satisfied x) _ (sym (n.moves.by_rule.satisfaction w) ∙ unsat)).0

  -- a claim v that is newly satisfied does not conflict on what was granted to x, which stays unsatisfied
  module _ (v0 v x0 x : Claimed) (nv : Now v0 v) (nx : Now x0 x) (sat : is_satisfied v ≡ true) (unsat : is_satisfied x ≡ false) where
    new_is_free : is_satisfied v0 ≡ false → (v.claim.write_half ≡ true → x.claim.write_half ≡ true → is_active x0 ≡ true → share_place v.claim x.claim ≡ true → ⊥)
        → conflicts_on v.claim x.claim x.granted ≡ true → ⊥
    new_is_free new bars clash =
        let facts = granted_is_active x0 v.claim nx.parts (granted_before x0 x v.claim nx clash) in
        let w : x.claim.write_half ≡ true = ap (λ c. c.write_half) nx.moves.by_rule.same ∙ facts.1 in
        let within : is_subset x.granted (union x.claim.reads x.claim.writes) ≡ true =
        (λ i. is_subset (nx.moves.by_rule.granted i) (union (nx.moves.by_rule.same i).reads (nx.moves.by_rule.same i).writes)) ∙ nx.parts.granted in
        let conflict : conflicts v.claim x.claim ≡ true = conflict_by_part v.claim x.claim x.granted within clash in
        both_cases v.claim.write_half
        (λ writes. bars writes w facts.0 (conflict_shares v.claim x.claim nv.moves.is_claim nx.moves.is_claim writes w conflict))
        (λ reads.
        contrary (conflicts x0.claim v.claim) (ap (λ c. conflicts c v.claim) (sym nx.moves.by_rule.same) ∙ conflicts_symmetric x.claim v.claim ∙ conflict)
        (read_apart s t v0 v x0 nv.moves nx.moves.in_s reads sat new facts.1 facts.0))

  free_later : (x x' y y' : Claimed) → Was x x' → Now x y → Now x' y' → IsFreeOf y y'
  free_later x x' y y' was n n' sat unsat = false_from (conflicts_on y.claim y'.claim y'.granted) (λ clash.
      let facts = granted_is_active x' y.claim n'.parts (granted_before x' y' y.claim n' clash) in
      let w' : y'.claim.write_half ≡ true = ap (λ c. c.write_half) n'.moves.by_rule.same ∙ facts.1 in
      both_cases (is_satisfied x)
      (λ had. contrary (conflicts_on x.claim x'.claim x'.granted)
      ((λ i. conflicts_on (sym n.moves.by_rule.same i) (sym n'.moves.by_rule.same i) (sym n'.moves.by_rule.granted i)) ∙ clash)
      (was.free.0 had (unsatisfied_before x' y' n' w' unsat)))
      (λ new. new_is_free x y x' y' n n' sat unsat new
      (λ writes w'' active share.
      contrary (is_satisfied x)
      (was.before.entered (ap (λ c. c.write_half) (sym n.moves.by_rule.same) ∙ writes) (ap (λ c. c.write_half) (sym n'.moves.by_rule.same) ∙ w'')
      ((λ i. share_place (sym n.moves.by_rule.same i) (sym n'.moves.by_rule.same i)) ∙ share) active).0 new)
      clash))

  free_earlier : (x x' y y' : Claimed) → Was x x' → Now x y → Now x' y' → IsFreeOf y' y
  free_earlier x x' y y' was n n' sat unsat = false_from (conflicts_on y'.claim y.claim y.granted) (λ clash.
      let facts = granted_is_active x y'.claim n.parts (granted_before x y y'.claim n clash) in
      let w : y.claim.write_half ≡ true = ap (λ c. c.write_half) n.moves.by_rule.same ∙ facts.1 in
      both_cases (is_satisfied x')
      (λ had. contrary (conflicts_on x'.claim x.claim x.granted)
      ((λ i. conflicts_on (sym n'.moves.by_rule.same i) (sym n.moves.by_rule.same i) (sym n.moves.by_rule.granted i)) ∙ clash)
      (was.free.1 had (unsatisfied_before x y n w unsat)))
      (λ new. new_is_free x' y' x y n' n sat unsat new
      (λ writes w'' active share.
      contrary (is_satisfied y)
      (entered_after s t x x' y y' was.before n.moves n'.moves w'' writes (meets_symmetric y.claim.places y'.claim.places ∙ share) (active_of_satisfied y'.status sat)).0 unsat)
      clash))

  pub free_settled : Settles s t → AreWellFormed s → EachPair Entered s → EachPair Apart s → AllByRecursion HasParts s → EachPair AreFree s → EachPair AreFree t
  free_settled settles well entered apart parts free =
      pairs_of_zip Was Now AreFree (λ x x' y y' was n n'. (free_later x x' y y' was n n', free_earlier x x' y y' was n n')) s t
      (pairs_both (Before s t) AreFree Was (λ x y b f. record { before = b; free = f }) s (before s t settles well entered apart) free)
      (zip_all HasParts (Moves s t) Now (λ x y p m. record { moves = m; parts = p }) s t parts (moves s t settles well entered apart))
