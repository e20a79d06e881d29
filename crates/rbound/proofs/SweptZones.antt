-- Sweeps: what they take lies in the zone, and a sweep that adds nothing leaves a closed set, which is the zone.
use Rattle.std.proofs.Common.{◌≡◌, ◌≤◌, ◌<◌, ℕ, length, Bool, true, false, not, ◌&&◌, cond, List, [], ◌∷◌, fold, filter, refl, sym, ap, subst, ◌∙◌, inl, inr, arith}
use Rattle.std.proofs.lemmas.Bool.{and_parts, and_from}
use Rattle.std.specs.FinSet.{union, is_subset}
use Rattle.std.specs.List.{list_any}
use Rattle.rset.specs.Sets.{Set, meets}
use Rattle.rset.proofs.SetLemmas.{within_reflexive, within_transitive, within_both, within_union_left, within_union_right, union_within, meets_within_right}
use Rattle.rmodel.proofs.ListFacts.{Among, contrary, none_among, passing}
use Rattle.rmodel.proofs.settling.OneSettlement.{both_cases}
use Rattle.rbound.specs.Needs.{Needed}
use Rattle.rbound.specs.Zones.{zone_of, is_there, IsClosed}
use Rattle.rbound.specs.Sweeps.{swept}
use Rattle.rbound.proofs.ClosedZones.{zone_within, zones_are_closed}

abbrev take_in : Set → Needed → Set
take_in all n = cond (meets n.claim.places all) (union all n.claim.places) all

take_in_more : (all : Set) (n : Needed) → is_subset all (take_in all n) ≡ true
take_in_more all n = at (meets n.claim.places all)
  where
    at : (b : Bool) → is_subset all (cond b (union all n.claim.places) all) ≡ true
    at true = within_union_left all n.claim.places
    at false = within_reflexive all

take_in_has : (all : Set) (n : Needed) → meets n.claim.places all ≡ true → is_subset n.claim.places (take_in all n) ≡ true
take_in_has all n h = subst (λ (b : Bool). is_subset n.claim.places (cond b (union all n.claim.places) all) ≡ true) (sym h) (within_union_right all n.claim.places)

-- what lies within s still does, where what is taken in does
take_in_within : (all s : Set) (n : Needed) → is_subset all s ≡ true → (meets n.claim.places all ≡ true → is_subset n.claim.places s ≡ true) → is_subset (take_in all n) s ≡ true
take_in_within all s n h near =
    both_cases (meets n.claim.places all)
    (λ m. subst (λ (b : Bool). is_subset (cond b (union all n.claim.places) all) s ≡ true) (sym m) (union_within all n.claim.places s h (near m)))
    (λ m. subst (λ (b : Bool). is_subset (cond b (union all n.claim.places) all) s ≡ true) (sym m) h)

fold_more : (ns : List Needed) (all : Set) → is_subset all (fold take_in all ns) ≡ true
fold_more [] all = within_reflexive all
fold_more (n ∷ ns) all = within_transitive all (take_in all n) (fold take_in (take_in all n) ns) (take_in_more all n) (fold_more ns (take_in all n))

fold_within : (ns : List Needed) (all s : Set) → IsClosed ns s → is_subset all s ≡ true → is_subset (fold take_in all ns) s ≡ true
fold_within [] all s closed h = h
fold_within (n ∷ ns) all s closed h =
    fold_within ns (take_in all n) s (λ m there. closed m (inr there))
    (take_in_within all s n h (λ near. closed n (inl refl) (meets_within_right n.claim.places all s h near)))

fold_takes : (ns : List Needed) (all : Set) (n : Needed) → Among n ns → meets n.claim.places all ≡ true → is_subset n.claim.places (fold take_in all ns) ≡ true
fold_takes [] all n there h = absurd there
fold_takes (m ∷ ns) all n (inl same) h =
    within_transitive n.claim.places (take_in all m) (fold take_in (take_in all m) ns)
    (subst (λ (x : Needed). is_subset x.claim.places (take_in all m) ≡ true) (sym same) (take_in_has all m (subst (λ (x : Needed). meets x.claim.places all ≡ true) same h)))
    (fold_more ns (take_in all m))
fold_takes (m ∷ ns) all n (inr later) h =
    fold_takes ns (take_in all m) n later (meets_within_right n.claim.places all (take_in all m) (take_in_more all m) h)

-- where each claim that a sweep takes was there, the sweep adds nothing
fold_stays : (ns : List Needed) (all z end : Set) → is_subset (fold take_in all ns) end ≡ true → ((n : Needed) → Among n ns → is_there end n ≡ true → is_there z n ≡ true) → is_subset all z ≡ true → is_subset (fold take_in all ns) z ≡ true
fold_stays [] all z end ends were h = h
fold_stays (n ∷ ns) all z end ends were h =
    fold_stays ns (take_in all n) z end ends (λ m there. were m (inr there))
    (take_in_within all z n h (λ near. were n (inl refl)
    (within_transitive n.claim.places (take_in all n) end (take_in_has all n near) (within_transitive (take_in all n) (fold take_in (take_in all n) ns) end (fold_more ns (take_in all n)) ends))))

pub swept_more : (ns : List Needed) (z : Set) → is_subset z (swept ns z) ≡ true
unfolding swept
swept_more ns z = fold_more ns z

swept_within : (ns : List Needed) (z s : Set) → IsClosed ns s → is_subset z s ≡ true → is_subset (swept ns z) s ≡ true
unfolding swept
swept_within ns z s closed h = fold_within ns z s closed h

swept_closed : (ns : List Needed) (z : Set) → is_subset (swept ns z) z ≡ true → IsClosed ns z
unfolding swept
swept_closed ns z h n there near = within_transitive n.claim.places (fold take_in z ns) z (fold_takes ns z n there near) h

swept_stays : (ns : List Needed) (z : Set) → ((n : Needed) → Among n ns → is_there (swept ns z) n ≡ true → is_there z n ≡ true) → is_subset (swept ns z) z ≡ true
unfolding swept
swept_stays ns z were = fold_stays ns z z (fold take_in z ns) (within_reflexive (fold take_in z ns)) were (within_reflexive z)

-- ---- the measure: the claims that are not there yet get fewer

none_more : (p q : Needed → Bool) (ns : List Needed) → ((n : Needed) → q n ≡ true → p n ≡ true) → length (filter q ns) ≤ length (filter p ns)
none_more p q [] weaker = omega arith
none_more p q (m ∷ ns) weaker = at (q m) (p m) (weaker m) (none_more p q ns weaker)
  where
    at : (a b : Bool) → (a ≡ true → b ≡ true) → length (filter q ns) ≤ length (filter p ns) → length (cond a (m ∷ filter q ns) (filter q ns)) ≤ length (cond b (m ∷ filter p ns) (filter p ns))
    at true true w h = omega arith
    at true false w h = contrary false (w refl) refl
    at false true w h = omega arith
    at false false w h = h

some_fewer : (p q : Needed → Bool) (ns : List Needed) → ((n : Needed) → q n ≡ true → p n ≡ true) → (n : Needed) → Among n ns → p n ≡ true → q n ≡ false → length (filter q ns) < length (filter p ns)
some_fewer p q [] weaker n there yes' no' = absurd there
some_fewer p q (m ∷ ns) weaker n (inl same) yes' no' =
    at (q m) (p m) (ap q (sym same) ∙ no') (ap p (sym same) ∙ yes') (none_more p q ns weaker)
  where
    at : (a b : Bool) → a ≡ false → b ≡ true → length (filter q ns) ≤ length (filter p ns) → length (cond a (m ∷ filter q ns) (filter q ns)) < length (cond b (m ∷ filter p ns) (filter p ns))
    at true b u v h = contrary true refl u
    at false true u v h = omega arith
    at false false u v h = contrary false v refl
some_fewer p q (m ∷ ns) weaker n (inr later) yes' no' = at (q m) (p m) (weaker m) (some_fewer p q ns weaker n later yes' no')
  where
    at : (a b : Bool) → (a ≡ true → b ≡ true) → length (filter q ns) < length (filter p ns) → length (cond a (m ∷ filter q ns) (filter q ns)) < length (cond b (m ∷ filter p ns) (filter p ns))
    at true true w h = omega arith
    at true false w h = contrary false (w refl) refl
    at false true w h = omega arith
    at false false w h = h

-- the claims that are not there
abbrev pub outside : List Needed → Set → ℕ
outside ns z = length (filter (λ n. not (is_there z n)) ns)

not_lemma : (a b : Bool) → (b ≡ true → a ≡ true) → not a ≡ true → not b ≡ true
not_lemma true b w h = contrary false h refl
not_lemma false true w h = contrary false (w refl) refl
not_lemma false false w h = refl

pub fewer_outside : (ns : List Needed) (z : Set) → is_subset (swept ns z) z ≡ false → outside ns (swept ns z) < outside ns z
fewer_outside ns z grows =
    both_cases (list_any (λ n. is_there (swept ns z) n && not (is_there z n)) ns)
    (λ some.
    let found = passing (λ n. is_there (swept ns z) n && not (is_there z n)) ns some in
    let both = and_parts (is_there (swept ns z) found.0) (not (is_there z found.0)) found.2 in
    some_fewer (λ n. not (is_there z n)) (λ n. not (is_there (swept ns z) n)) ns
    (λ n h. not_lemma (is_there (swept ns z) n) (is_there z n) (λ t. within_transitive n.claim.places z (swept ns z) t (swept_more ns z)) h)
    found.0 found.1 both.1 (ap not both.0))
    (λ none. contrary (is_subset (swept ns z) z)
    (swept_stays ns z (λ n there now. both_cases (is_there z n) (λ t. t) (λ f. contrary (is_there (swept ns z) n && not (is_there z n)) (and_from _ _ now (ap not f)) (none_among (λ n. is_there (swept ns z) n && not (is_there z n)) ns n none there))))
    grows)

-- ---- what grows by sweeps

-- some places grew: they contain those they began with, and lie in each closed set that has these
pub record HasGrown (ns : List Needed) (places z : Set) : Type 0 where
  pub has : is_subset places z ≡ true
  pub within : (s : Set) → IsClosed ns s → is_subset places s ≡ true → is_subset z s ≡ true

pub grown_first : (ns : List Needed) (places : Set) → HasGrown ns places places
grown_first ns places = record { has = within_reflexive places; within = λ s closed h. h }

pub grown_more : (ns : List Needed) (places z : Set) → HasGrown ns places z → HasGrown ns places (swept ns z)
grown_more ns places z grown = record {
  has = within_transitive places z (swept ns z) grown.has (swept_more ns z);
  within = λ s closed h. swept_within ns z s closed (grown.within s closed h);
}

pub zone_is : (ns : List Needed) (places z : Set) → HasGrown ns places z → is_subset (swept ns z) z ≡ true → z ≡ zone_of ns places
zone_is ns places z grown rests =
    let zone = zones_are_closed ns places in
    within_both z (zone_of ns places) (grown.within (zone_of ns places) zone.closed zone.has) (zone_within ns places z (swept_closed ns z rests) grown.has)
