-- After accepted events some claim is satisfied while there is a request, and the seat of a satisfied claim holds something.
use Rattle.std.proofs.Common.{◌≡◌, ◌≢◌, ◌==◌, nat_lt, Bool, true, false, ◌&&◌, List, refl, sym, ap, ◌∙◌, inl, inr}
use Rattle.std.proofs.lemmas.Bool.{eqb-true, eq-eqb, or_cases, and_parts, and_from, true_from_ne_false}
use Rattle.std.specs.Ordering.{nat_cmp}
use Rattle.std.specs.FinSet.{empty, len, union, intersection, contains, empty_of_len, len-empty}
use Rattle.rset.specs.Sets.{Set, meets}
use Rattle.rset.proofs.SetLemmas.{meets_empty_left, meets_itself, some_member, contains_union, contains_intersection, contains_empty, within_at, union_empty_left}
use Rattle.rexpand.proofs.DeclaredLemmas.{filled_by_number}
use Rattle.rmodel.specs.declared.claimed.Claimed.{Claimed}
use Rattle.rmodel.specs.declared.granted.Granted.{Granted}
use Rattle.rmodel.specs.Claims.{is_satisfied, is_nested}
use Rattle.rmodel.specs.Holds.{nothing, both, held_by, holds_of, is_nothing, has_request, has_ask}
use Rattle.rmodel.specs.Laws.{IsHeld}
use Rattle.rmodel.specs.State.{LockState}
use Rattle.rmodel.specs.WellFormed.{IsClaim, HasParts}
use Rattle.rmodel.proofs.ListFacts.{Among, contrary, false_from, any_among, none_from, all_at, all_from}
use Rattle.rmodel.proofs.settling.OneSettlement.{both_cases}
use Rattle.rmodel.proofs.reaching.Soundness.{same_seat}
use Rattle.rmodel.proofs.reaching.Reached.{IsReached}
use Rattle.rmodel.proofs.theorems.Exclusive.{held_by_seat}
use Rattle.rmodel.proofs.reaching.HeldBySeat.{held_of_plain, held_of_nested}
use Rattle.rmodel.proofs.settling.Somebody.{some_satisfied}

-- a set that meets another has members
filled : (s t : Set) → meets s t ≡ true → (len s == 0) ≡ false
filled s t h = false_from (len s == 0) (λ none. contrary (meets s t) h (ap (λ u. meets u t) (empty_of_len s (eqb-true (len s) 0 none)) ∙ meets_empty_left t))

meets_own : (s : Set) → s ≢ empty → meets s s ≡ true
meets_own s some = true_from_ne_false (meets s s) (λ none. some (meets_itself s none))

-- a part of what a claim holds that has members is a part of what its seat holds
module _ (part : Granted → Set) (of_both : (a b : Granted) → part (both a b) ≡ union (part a) (part b)) (of_nothing : part nothing ≡ empty) where
  part_is_held : (xs : List Claimed) (x : Claimed) → Among x xs → part (held_by x) ≢ empty → (len (part (holds_of xs x.claim.seat)) == 0) ≡ false
  part_is_held xs x there some =
      filled (part (holds_of xs x.claim.seat)) (part (held_by x))
      (held_by_seat part of_both of_nothing xs x.claim.seat (part (held_by x))
      (any_among (λ y. (y.claim.seat == x.claim.seat) && meets (part (held_by y)) (part (held_by x))) xs x there
      (and_from (x.claim.seat == x.claim.seat) (meets (part (held_by x)) (part (held_by x))) (eq-eqb x.claim.seat x.claim.seat refl) (meets_own (part (held_by x)) some))))

-- a seat of which a claim holds something for reading or for writing
holds_some : (xs : List Claimed) (x : Claimed) → Among x xs → ((held_by x).reads ≡ empty → (held_by x).writes ≡ empty → ⊥) → is_nothing (holds_of xs x.claim.seat) ≡ false
holds_some xs x there some =
    both_cases (len (held_by x).reads == 0)
    (λ none.
    no_more (len (holds_of xs x.claim.seat).reads == 0) _
    (part_is_held (λ g. g.writes) (λ a b. refl) refl xs x there (λ none'. some (empty_of_len (held_by x).reads (eqb-true (len (held_by x).reads) 0 none)) none')))
    (λ some_read. ap (λ b. b && (len (holds_of xs x.claim.seat).writes == 0))
    (part_is_held (λ g. g.reads) (λ a b. refl) refl xs x there (λ none. contrary (len (held_by x).reads == 0) (ap (λ s. len s == 0) none ∙ eq-eqb _ 0 (len-empty nat_cmp)) some_read)))
  where
    no_more : (a b : Bool) → b ≡ false → (a && b) ≡ false
    no_more true b none = none
    no_more false b none = refl

-- what was granted has members that the request reads or writes
pub granted_some : (x : Claimed) → HasParts x → is_nested x.claim.kind ≡ true → x.asked ≡ empty → intersection x.granted x.claim.reads ≡ empty → intersection x.granted x.claim.writes ≡ empty → ⊥
granted_some x had nested answered no_read no_write =
    let some : x.granted ≢ empty = λ none. had.some nested ((λ i. union (none i) (answered i)) ∙ union_empty_left empty) in
    let m = some_member x.granted some in
    elim (or_cases (contains x.claim.reads m.0) (contains x.claim.writes m.0) (sym (contains_union x.claim.reads x.claim.writes m.0) ∙ within_at x.granted (union x.claim.reads x.claim.writes) had.granted m.0 m.1)) [
      | inl r ↦ contrary (contains (intersection x.granted x.claim.reads) m.0) (contains_intersection x.granted x.claim.reads m.0 ∙ and_from _ _ m.1 r) (ap (λ s. contains s m.0) no_read ∙ contains_empty m.0)
      | inr w ↦ contrary (contains (intersection x.granted x.claim.writes) m.0) (contains_intersection x.granted x.claim.writes m.0 ∙ and_from _ _ m.1 w) (ap (λ s. contains s m.0) no_write ∙ contains_empty m.0)
    ]

-- a read claim reads something, and a write claim writes something
holds_something : (xs : List Claimed) (x : Claimed) → Among x xs → IsClaim x.claim → HasParts x → x.asked ≡ empty → is_satisfied x ≡ true → is_nothing (holds_of xs x.claim.seat) ≡ false
holds_something xs x there is had answered sat =
    holds_some xs x there (λ no_read no_write.
    both_cases (is_nested x.claim.kind)
    (λ nested. granted_some x had nested answered (ap (λ g. g.reads) (sym (held_of_nested x nested)) ∙ no_read) (ap (λ g. g.writes) (sym (held_of_nested x nested)) ∙ no_write))
    (λ plain. both_cases x.claim.write_half
    (λ w. is.writes_some w (ap (λ g. g.writes) (sym (held_of_plain x plain sat)) ∙ no_write))
    (λ r. is.reads_some r (ap (λ g. g.reads) (sym (held_of_plain x plain sat)) ∙ no_read))))

-- no claim of the seat of a satisfied claim asks for anything
no_ask : (s : LockState) → IsReached s → (x : Claimed) → Among x s.claims → is_satisfied x ≡ true → has_ask s.claims x.claim.seat ≡ false
no_ask s reached x there sat =
    none_from (λ y. (y.claim.seat == x.claim.seat) && nat_lt 0 (len y.asked)) s.claims (λ y in_y. false_from _ (λ h.
    let parts = and_parts (y.claim.seat == x.claim.seat) (nat_lt 0 (len y.asked)) h in
    filled_by_number y.asked parts.1 (asks_nothing y in_y (eqb-true y.claim.seat x.claim.seat parts.0))))
  where
    asks_nothing : (y : Claimed) → Among y s.claims → y.claim.seat ≡ x.claim.seat → y.asked ≡ empty
    asks_nothing y in_y seats =
        both_cases (is_nested y.claim.kind)
        (λ nested.
        let one : y ≡ x = same_seat s.claims y x reached.sound.one_each in_y there seats nested in
        ap (λ z. z.asked) one ∙ all_at (λ z. is_satisfied z ≡ true → z.asked ≡ empty) s.claims x reached.answered there sat)
        (λ plain. ((all_at HasParts s.claims y reached.sound.parts in_y).of_others plain).0)

pub is_held : (s : LockState) → IsReached s → IsHeld s
is_held s reached = record {
  somebody = λ seat some. some_satisfied s.claims s.claims reached.sound.well_formed reached.stable
      (λ none. contrary (has_request s.claims seat) some (ap (λ xs. has_request xs seat) none));
  something = all_from _ s.claims (λ x there sat.
      holds_something s.claims x there (all_at (λ y. IsClaim y.claim) s.claims x reached.sound.well_formed.claims there) (all_at HasParts s.claims x reached.sound.parts there)
      (all_at (λ z. is_satisfied z ≡ true → z.asked ≡ empty) s.claims x reached.answered there sat) sat);
  answered = all_from _ s.claims (λ x there sat. no_ask s reached x there sat);
}
