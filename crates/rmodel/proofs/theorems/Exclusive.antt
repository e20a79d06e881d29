-- What one request holds for writing, no other request holds.
use Rattle.std.proofs.Common.{◌≡◌, ◌≢◌, ℕ, ◌==◌, Bool, true, false, ◌&&◌, ◌||◌, cond, List, [], ◌∷◌, fold, refl, sym, ap, ◌∙◌, inl, inr}
use Rattle.std.proofs.lemmas.Bool.{true≢false, eqb-true, or_left, or_right, or_cases, and_parts, and_from}
use Rattle.std.specs.List.{list_any}
use Rattle.std.specs.FinSet.{empty, union, intersection, contains}
use Rattle.rset.specs.Sets.{Set, meets}
use Rattle.rset.proofs.SetLemmas.{meets_symmetric, meets_empty_left, meets_union_left, meets_from, meets_common, within_at, contains_empty, contains_intersection}
use Rattle.rclaim.specs.declared.claim.Claim.{Claim}
use Rattle.rmodel.specs.declared.claimed.Claimed.{Claimed}
use Rattle.rmodel.specs.declared.granted.Granted.{Granted}
use Rattle.rmodel.specs.Claims.{conflicts, conflicts_on, touches, share_place, is_active, is_satisfied, is_nested}
use Rattle.rmodel.specs.Holds.{nothing, both, held_by, holds_of}
use Rattle.rmodel.specs.Laws.{IsExclusive}
use Rattle.rmodel.specs.State.{LockState}
use Rattle.rmodel.specs.WellFormed.{EachPair, IsClaim, Entered, Apart, IsFreeOf, AreFree, HasParts}
use Rattle.rmodel.proofs.ListFacts.{Among, passing, pair_among, pairs_both, all_at, contrary, false_from}
use Rattle.rmodel.proofs.settling.OneSettlement.{both_cases}
use Rattle.rmodel.proofs.settling.Keeping.{conflicts_symmetric}
use Rattle.rmodel.proofs.reaching.Reached.{IsReached}

-- a claim of a seat that holds a resource of this set
record Holder (part : Granted → Set) (xs : List Claimed) (seat : ℕ) (s : Set) : Type 0 where
  claimed : Claimed
  there : Among claimed xs
  seated : claimed.claim.seat ≡ seat
  meeting : meets (part (held_by claimed)) s ≡ true

module _ (part : Granted → Set) (of_both : (a b : Granted) → part (both a b) ≡ union (part a) (part b)) (of_nothing : part nothing ≡ empty) where
  gathered : (seat : ℕ) (s : Set) (all : Granted) (xs : List Claimed)
      → meets (part (fold (λ a x. cond (x.claim.seat == seat) (both a (held_by x)) a) all xs)) s
      ≡ (meets (part all) s || list_any (λ x. (x.claim.seat == seat) && meets (part (held_by x)) s) xs)
  gathered seat s all [] = or_none (meets (part all) s)
    where
      or_none : (b : Bool) → b ≡ (b || false)
      or_none true = refl
      or_none false = refl
  gathered seat s all (x ∷ xs) =
      gathered seat s (cond (x.claim.seat == seat) (both all (held_by x)) all) xs
      ∙ ap (λ b. b || list_any (λ x. (x.claim.seat == seat) && meets (part (held_by x)) s) xs) (at (x.claim.seat == seat))
      ∙ regroup (meets (part all) s) _ _
    where
      or_none : (b : Bool) → b ≡ (b || false)
      or_none true = refl
      or_none false = refl

      at : (b : Bool) → meets (part (cond b (both all (held_by x)) all)) s ≡ (meets (part all) s || (b && meets (part (held_by x)) s))
      at true = ap (λ u. meets u s) (of_both all (held_by x)) ∙ meets_union_left (part all) (part (held_by x)) s
      at false = or_none (meets (part all) s)

      regroup : (a b c : Bool) → ((a || b) || c) ≡ (a || (b || c))
      regroup true b c = refl
      regroup false b c = refl

  -- what a claim of a seat holds, the seat holds
  pub held_by_seat : (xs : List Claimed) (seat : ℕ) (s : Set) → list_any (λ x. (x.claim.seat == seat) && meets (part (held_by x)) s) xs ≡ true → meets (part (holds_of xs seat)) s ≡ true
  unfolding holds_of
  held_by_seat xs seat s some = gathered seat s nothing xs ∙ or_right (meets (part nothing) s) _ some

  -- what a seat holds is held by a claim of it
  holder : (xs : List Claimed) (seat : ℕ) (s : Set) → meets (part (holds_of xs seat)) s ≡ true → Holder part xs seat s
  unfolding holds_of
  holder xs seat s h =
      let some : list_any (λ x. (x.claim.seat == seat) && meets (part (held_by x)) s) xs ≡ true
      = ap (λ b. b || list_any (λ x. (x.claim.seat == seat) && meets (part (held_by x)) s) xs) (sym (ap (λ u. meets u s) of_nothing ∙ meets_empty_left s))
      ∙ sym (gathered seat s nothing xs) ∙ h in
      let found = passing (λ x. (x.claim.seat == seat) && meets (part (held_by x)) s) xs some in
      let parts = and_parts (found.0.claim.seat == seat) (meets (part (held_by found.0)) s) found.2 in
      record { claimed = found.0; there = found.1; seated = eqb-true found.0.claim.seat seat parts.0; meeting = parts.1 }

-- ---- what a claim holds

held_writes : (x : Claimed) (l : ℕ) → contains (held_by x).writes l ≡ true → contains x.claim.writes l ≡ true
held_writes x l h = at (is_nested x.claim.kind) (is_satisfied x) h
  where
    at : (n b : Bool) → contains (cond n (record { reads = intersection x.granted x.claim.reads; writes = intersection x.granted x.claim.writes }) (cond b (record { reads = x.claim.reads; writes = x.claim.writes }) nothing)).writes l ≡ true
        → contains x.claim.writes l ≡ true
    at true b h = (and_parts _ _ (sym (contains_intersection x.granted x.claim.writes l) ∙ h)).1
    at false true h = h
    at false false h = contrary _ h (contains_empty l)

held_reads : (x : Claimed) (l : ℕ) → contains (held_by x).reads l ≡ true → contains x.claim.reads l ≡ true
held_reads x l h = at (is_nested x.claim.kind) (is_satisfied x) h
  where
    at : (n b : Bool) → contains (cond n (record { reads = intersection x.granted x.claim.reads; writes = intersection x.granted x.claim.writes }) (cond b (record { reads = x.claim.reads; writes = x.claim.writes }) nothing)).reads l ≡ true
        → contains x.claim.reads l ≡ true
    at true b h = (and_parts _ _ (sym (contains_intersection x.granted x.claim.reads l) ∙ h)).1
    at false true h = h
    at false false h = contrary _ h (contains_empty l)

-- what an unsatisfied claim holds was granted to it
granted_writes : (x : Claimed) (l : ℕ) → is_satisfied x ≡ false → contains (held_by x).writes l ≡ true → contains x.granted l ≡ true
granted_writes x l unsat h = at (is_nested x.claim.kind) (is_satisfied x) unsat h
  where
    at : (n b : Bool) → b ≡ false → contains (cond n (record { reads = intersection x.granted x.claim.reads; writes = intersection x.granted x.claim.writes }) (cond b (record { reads = x.claim.reads; writes = x.claim.writes }) nothing)).writes l ≡ true
        → contains x.granted l ≡ true
    at true b none h = (and_parts _ _ (sym (contains_intersection x.granted x.claim.writes l) ∙ h)).0
    at false true none h = absurd (true≢false none)
    at false false none h = contrary _ h (contains_empty l)

granted_reads : (x : Claimed) (l : ℕ) → is_satisfied x ≡ false → contains (held_by x).reads l ≡ true → contains x.granted l ≡ true
granted_reads x l unsat h = at (is_nested x.claim.kind) (is_satisfied x) unsat h
  where
    at : (n b : Bool) → b ≡ false → contains (cond n (record { reads = intersection x.granted x.claim.reads; writes = intersection x.granted x.claim.writes }) (cond b (record { reads = x.claim.reads; writes = x.claim.writes }) nothing)).reads l ≡ true
        → contains x.granted l ≡ true
    at true b none h = (and_parts _ _ (sym (contains_intersection x.granted x.claim.reads l) ∙ h)).0
    at false true none h = absurd (true≢false none)
    at false false none h = contrary _ h (contains_empty l)

-- a claim to which something was granted is entitled or satisfied, and it is a write
active_of_granted : (x : Claimed) (l : ℕ) → HasParts x → contains x.granted l ≡ true → (is_active x ≡ true) × (x.claim.write_half ≡ true)
active_of_granted x l had h = (
  both_cases (is_active x) (λ a. a) (λ waits. absurd (some (had.waits waits))),
  both_cases (is_nested x.claim.kind) had.writes (λ other. absurd (some (had.of_others other).1)),
)
  where
    some : x.granted ≡ empty → ⊥
    some none = contrary (contains x.granted l) h (ap (λ s. contains s l) none ∙ contains_empty l)

-- a claim that holds a resource, for reading or for writing
record Holds (x : Claimed) (l : ℕ) : Type 0 where
  touched : (contains x.claim.reads l || contains x.claim.writes l) ≡ true
  granted : is_satisfied x ≡ false → contains x.granted l ≡ true

holds_read : (x : Claimed) (l : ℕ) → contains (held_by x).reads l ≡ true → Holds x l
holds_read x l h = record { touched = or_left _ _ (held_reads x l h); granted = λ unsat. granted_reads x l unsat h }

holds_write : (x : Claimed) (l : ℕ) → contains (held_by x).writes l ≡ true → Holds x l
holds_write x l h = record { touched = or_right (contains x.claim.reads l) _ (held_writes x l h); granted = λ unsat. granted_writes x l unsat h }

touches_at : (c : Claim) (s : Set) (l : ℕ) → (contains c.reads l || contains c.writes l) ≡ true → contains s l ≡ true → touches c s ≡ true
touches_at c s l h there =
    elim (or_cases (contains c.reads l) (contains c.writes l) h) [
      | inl r ↦ or_left (meets c.reads s) (meets c.writes s) (meets_from c.reads s l r there)
      | inr w ↦ or_right (meets c.reads s) (meets c.writes s) (meets_from c.writes s l w there)
    ]

-- ---- two claims

-- what is known of two claims of a reached state
record Pair (x y : Claimed) : Type 0 where
  apart : is_satisfied x ≡ true → is_satisfied y ≡ true → conflicts x.claim y.claim ≡ false
  free_of_x : IsFreeOf x y
  free_of_y : IsFreeOf y x
  one_entered : x.claim.write_half ≡ true → y.claim.write_half ≡ true → share_place x.claim y.claim ≡ true → is_active x ≡ true → is_active y ≡ true → is_satisfied x ≡ false → is_satisfied y ≡ false → ⊥

-- what one holds for writing, the other does not hold
not_both : (x y : Claimed) (l : ℕ) → Pair x y → HasParts x → HasParts y → IsClaim x.claim → IsClaim y.claim → contains (held_by x).writes l ≡ true → Holds y l → ⊥
not_both x y l pair parts_x parts_y is_x is_y writes holds =
    both_cases (is_satisfied x)
    (λ sat. both_cases (is_satisfied y)
    (λ sat'. contrary (conflicts x.claim y.claim) (or_left (touches y.claim x.claim.writes) _ (touches_at y.claim x.claim.writes l holds.touched in_writes)) (pair.apart sat sat'))
    (λ unsat'. contrary (conflicts_on x.claim y.claim y.granted)
    (or_left (meets x.claim.writes y.granted) _ (meets_from x.claim.writes y.granted l in_writes (holds.granted unsat'))) (pair.free_of_x sat unsat')))
    (λ unsat. both_cases (is_satisfied y)
    (λ sat'. contrary (conflicts_on y.claim x.claim x.granted)
    (or_right (meets y.claim.writes x.granted) _ (touches_at y.claim (intersection x.granted x.claim.writes) l holds.touched
    (contains_intersection x.granted x.claim.writes l ∙ and_from _ _ (granted_writes x l unsat writes) in_writes))) (pair.free_of_y sat' unsat))
    (λ unsat'.
    let a = active_of_granted x l parts_x (granted_writes x l unsat writes) in
    let b = active_of_granted y l parts_y (holds.granted unsat') in
    pair.one_entered a.1 b.1
    (meets_from x.claim.places y.claim.places l (within_at x.claim.writes x.claim.places (is_x.writes_placed a.1) l in_writes) (placed b.1)) a.0 b.0 unsat unsat'))
  where
    in_writes : contains x.claim.writes l ≡ true
    in_writes = held_writes x l writes

    placed : y.claim.write_half ≡ true → contains y.claim.places l ≡ true
    placed w = elim (or_cases (contains y.claim.reads l) (contains y.claim.writes l) holds.touched) [
      | inl r ↦ within_at y.claim.reads y.claim.places (is_y.reads_placed w) l r
      | inr h ↦ within_at y.claim.writes y.claim.places (is_y.writes_placed w) l h
    ]

-- what is known of two claims, the first of which comes earlier
record Both (x y : Claimed) : Type 0 where
  entered : Entered x y
  apart : Apart x y
  free : AreFree x y

pair_of : (s : LockState) → IsReached s → (x y : Claimed) → Among x s.claims → Among y s.claims → x.claim.seat ≢ y.claim.seat → Pair x y
pair_of s reached x y in_x in_y other =
    elim (pair_among Both s.claims x y both in_x in_y) [
      | inl same ↦ absurd (other (ap (λ z. z.claim.seat) same))
      | inr (inl first) ↦ record {
        apart = first.apart;
        free_of_x = first.free.0;
        free_of_y = first.free.1;
        one_entered = λ w w' share active active' unsat unsat'. contrary (is_satisfied x) (first.entered w w' share active').0 unsat;
      }
      | inr (inr last) ↦ record {
        apart = λ sat sat'. conflicts_symmetric x.claim y.claim ∙ last.apart sat' sat;
        free_of_x = last.free.1;
        free_of_y = last.free.0;
        one_entered = λ w w' share active active' unsat unsat'. contrary (is_satisfied y) (last.entered w' w (meets_symmetric y.claim.places x.claim.places ∙ share) active).0 unsat';
      }
    ]
  where
    both : EachPair Both s.claims
    both = pairs_both Entered (λ x y. Apart x y × AreFree x y) Both (λ x y e h. record { entered = e; apart = h.0; free = h.1 }) s.claims reached.entered
        (pairs_both Apart AreFree (λ x y. Apart x y × AreFree x y) (λ x y a f. (a, f)) s.claims reached.apart reached.free)

pub exclusive : (s : LockState) (seat other : ℕ) → IsReached s → seat ≢ other → IsExclusive s seat other
exclusive s seat other reached differ = record {
  not_read = false_from _ (λ h. clash_read (holder (λ g. g.writes) (λ a b. refl) refl s.claims seat (holds_of s.claims other).reads h));
  not_written = false_from _ (λ h. clash_written (holder (λ g. g.writes) (λ a b. refl) refl s.claims seat (holds_of s.claims other).writes h));
}
  where
    clash : (x y : Claimed) (l : ℕ) → Among x s.claims → Among y s.claims → x.claim.seat ≡ seat → y.claim.seat ≡ other → contains (held_by x).writes l ≡ true → Holds y l → ⊥
    clash x y l in_x in_y at_x at_y writes holds =
        not_both x y l (pair_of s reached x y in_x in_y (λ e. differ (sym at_x ∙ e ∙ at_y))) (all_at HasParts s.claims x reached.sound.parts in_x) (all_at HasParts s.claims y reached.sound.parts in_y)
        (all_at (λ z. IsClaim z.claim) s.claims x reached.sound.well_formed.claims in_x) (all_at (λ z. IsClaim z.claim) s.claims y reached.sound.well_formed.claims in_y) writes holds

    clash_read : Holder (λ g. g.writes) s.claims seat (holds_of s.claims other).reads → ⊥
    clash_read a =
        let b = holder (λ g. g.reads) (λ a b. refl) refl s.claims other (held_by a.claimed).writes (meets_symmetric (holds_of s.claims other).reads (held_by a.claimed).writes ∙ a.meeting) in
        let at = meets_common (held_by b.claimed).reads (held_by a.claimed).writes b.meeting in
        clash a.claimed b.claimed at.0 a.there b.there a.seated b.seated at.2 (holds_read b.claimed at.0 at.1)

    clash_written : Holder (λ g. g.writes) s.claims seat (holds_of s.claims other).writes → ⊥
    clash_written a =
        let b = holder (λ g. g.writes) (λ a b. refl) refl s.claims other (held_by a.claimed).writes (meets_symmetric (holds_of s.claims other).writes (held_by a.claimed).writes ∙ a.meeting) in
        let at = meets_common (held_by b.claimed).writes (held_by a.claimed).writes b.meeting in
        clash a.claimed b.claimed at.0 a.there b.there a.seated b.seated at.2 (holds_write b.claimed at.0 at.1)
