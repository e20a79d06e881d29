-- Zones are closed, and each closed set with the same first places contains the zone.
use Rattle.std.proofs.Common.{◌≡◌, ◌≤◌, ◌<◌, ℕ, suc, zero, Bool, true, false, not, ◌||◌, cond, List, [], ◌∷◌, length, map, fold, filter, refl, sym, ap, subst, ◌∙◌, inl, inr, arith}
use Rattle.std.proofs.lemmas.Bool.{or_parts}
use Rattle.std.specs.FinSet.{union, is_subset}
use Rattle.std.specs.List.{list_any}
use Rattle.rset.specs.Sets.{Set, meets}
use Rattle.rset.proofs.SetLemmas.{within_reflexive, within_transitive, within_union_left, within_union_right, union_within, meets_within_right}
use Rattle.rmodel.proofs.ListFacts.{Among, contrary, among_filter, in_filter, none_among}
use Rattle.rmodel.proofs.settling.OneSettlement.{both_cases}
use Rattle.rmodel.proofs.reaching.Came.{in_map}
use Rattle.rbound.specs.Needs.{Needed}
use Rattle.rbound.specs.Zones.{joined, joined_in_rounds, all_places, zone_of, IsClosed, ZonesAreClosed}

module _ (z : Set) where
  abbrev join : Set → Set → Set
  join all p = cond (meets p z) (union all p) all

  joins_more : (all p : Set) → is_subset all (join all p) ≡ true
  joins_more all p = at (meets p z)
    where
      at : (b : Bool) → is_subset all (cond b (union all p) all) ≡ true
      at true = within_union_left all p
      at false = within_reflexive all

  fold_more : (ps : List Set) (all : Set) → is_subset all (fold join all ps) ≡ true
  fold_more [] all = within_reflexive all
  fold_more (p ∷ ps) all = within_transitive all (join all p) (fold join (join all p) ps) (joins_more all p) (fold_more ps (join all p))

  fold_has : (ps : List Set) (all p : Set) → Among p ps → meets p z ≡ true → is_subset p (fold join all ps) ≡ true
  fold_has [] all p there h = absurd there
  fold_has (q ∷ qs) all p (inl same) h =
      within_transitive p (join all q) (fold join (join all q) qs)
      (subst (λ (b : Bool). is_subset p (cond b (union all q) all) ≡ true) (sym (ap (λ x. meets x z) (sym same) ∙ h)) (subst (λ (x : Set). is_subset p (union all x) ≡ true) same (within_union_right all p)))
      (fold_more qs (join all q))
  fold_has (q ∷ qs) all p (inr later) h = fold_has qs (join all q) p later h

  fold_none : (ps : List Set) (all : Set) → list_any (λ p. meets p z) ps ≡ false → fold join all ps ≡ all
  fold_none [] all none = refl
  fold_none (p ∷ ps) all none =
      let parts = or_parts (meets p z) (list_any (λ p. meets p z) ps) none in
      ap (λ b. fold join (cond b (union all p) all) ps) parts.0 ∙ fold_none ps all parts.1

pub rounds_more : (n : ℕ) (z : Set) (ps : List Set) → is_subset z (joined_in_rounds n z ps) ≡ true
rounds_more zero z ps = within_reflexive z
rounds_more (suc n) z ps =
    within_transitive z (joined z ps) (joined_in_rounds (suc n) z ps) (fold_more z ps z) (rounds_more n (joined z ps) (filter (λ p. not (meets p z)) ps))

-- where no element passes, all are left; where some element passes, fewer are
all_left : {X : Type 0} (q : X → Bool) (xs : List X) → list_any q xs ≡ false → filter (λ x. not (q x)) xs ≡ xs
all_left q [] none = refl
all_left q (x ∷ xs) none =
    let parts = or_parts (q x) (list_any q xs) none in
    ap (λ b. cond (not b) (x ∷ filter (λ x. not (q x)) xs) (filter (λ x. not (q x)) xs)) parts.0 ∙ ap (λ ys. x ∷ ys) (all_left q xs parts.1)

fewer_left : {X : Type 0} (q : X → Bool) (xs : List X) → list_any q xs ≡ true → length (filter (λ x. not (q x)) xs) < length xs
fewer_left q [] some = contrary false some refl
fewer_left q (x ∷ xs) some = at (q x) (λ fail. fewer_left q xs (ap (λ b. b || list_any q xs) (sym fail) ∙ some)) (no_more xs)
  where
    no_more : (ys : List _) → length (filter (λ x. not (q x)) ys) ≤ length ys
    no_more [] = omega arith
    no_more (y ∷ ys) = step (q y) (no_more ys)
      where
        step : (b : Bool) → length (filter (λ x. not (q x)) ys) ≤ length ys → length (cond (not b) (y ∷ filter (λ x. not (q x)) ys) (filter (λ x. not (q x)) ys)) ≤ length (y ∷ ys)
        step true rest = omega arith
        step false rest = omega arith

    at : (b : Bool) → (b ≡ false → length (filter (λ x. not (q x)) xs) < length xs) → length (filter (λ x. not (q x)) xs) ≤ length xs
        → length (cond (not b) (x ∷ filter (λ x. not (q x)) xs) (filter (λ x. not (q x)) xs)) < length (x ∷ xs)
    at true fewer most = omega arith
    at false fewer most = let rest = fewer refl in omega arith

rounds_none : (n : ℕ) (z : Set) (ps : List Set) → list_any (λ p. meets p z) ps ≡ false → joined_in_rounds n z ps ≡ z
rounds_none zero z ps none = refl
rounds_none (suc n) z ps none = (λ i. joined_in_rounds n (fold_none z ps z none i) (all_left (λ p. meets p z) ps none i)) ∙ rounds_none n z ps none

rounds_closed : (n : ℕ) (z : Set) (ps : List Set) → length ps ≤ n → (p : Set) → Among p ps → meets p (joined_in_rounds n z ps) ≡ true → is_subset p (joined_in_rounds n z ps) ≡ true
rounds_closed zero z [] few p there h = absurd there
rounds_closed zero z (q ∷ qs) few p there h = absurd (omega arith)
rounds_closed (suc n) z ps few p there h =
    both_cases (list_any (λ p. meets p z) ps)
    (λ some.
    let fewer = fewer_left (λ p. meets p z) ps some in
    both_cases (meets p z)
    (λ near. within_transitive p (joined z ps) (joined_in_rounds (suc n) z ps) (fold_has z ps z p there near) (rounds_more n (joined z ps) (filter (λ p. not (meets p z)) ps)))
    (λ apart. rounds_closed n (joined z ps) (filter (λ p. not (meets p z)) ps) (omega arith) p (in_filter (λ p. not (meets p z)) ps p there (ap not apart)) h))
    (λ none. contrary (meets p z) (ap (meets p) (sym (rounds_none (suc n) z ps none)) ∙ h) (none_among (λ p. meets p z) ps p none there))

length_map : {X Y : Type 0} (f : X → Y) (xs : List X) → length (map f xs) ≤ length xs
length_map f [] = omega arith
length_map f (x ∷ xs) = let rest = length_map f xs in omega arith

-- ---- the zone is the least closed set that has the places

joined_within : (ps : List Set) (z all s : Set) → ((p : Set) → Among p ps → meets p s ≡ true → is_subset p s ≡ true) → is_subset z s ≡ true → is_subset all s ≡ true
    → is_subset (fold (λ all p. cond (meets p z) (union all p) all) all ps) s ≡ true
joined_within [] z all s closed h a = a
joined_within (p ∷ ps) z all s closed h a =
    joined_within ps z (cond (meets p z) (union all p) all) s (λ q there. closed q (inr there)) h
    (both_cases (meets p z)
    (λ m. subst (λ (b : Bool). is_subset (cond b (union all p) all) s ≡ true) (sym m) (union_within all p s a (closed p (inl refl) (meets_within_right p z s h m))))
    (λ m. subst (λ (b : Bool). is_subset (cond b (union all p) all) s ≡ true) (sym m) a))

rounds_within : (k : ℕ) (z s : Set) (ps : List Set) → ((p : Set) → Among p ps → meets p s ≡ true → is_subset p s ≡ true) → is_subset z s ≡ true → is_subset (joined_in_rounds k z ps) s ≡ true
rounds_within zero z s ps closed h = h
rounds_within (suc k) z s ps closed h =
    rounds_within k (joined z ps) s (filter (λ p. not (meets p z)) ps)
    (λ p there. closed p ((among_filter (λ p. not (meets p z)) ps p there).0))
    (joined_within ps z z s closed h h)

places_among : (ns : List Needed) (p : Set) → Among p (all_places ns) → (n : Needed) × Among n ns × (p ≡ n.claim.places)
places_among [] p there = absurd there
places_among (n ∷ ns) p (inl same) = (n, inl refl, same)
places_among (n ∷ ns) p (inr later) = let found = places_among ns p later in (found.0, inr found.1, found.2)

pub zone_within : (ns : List Needed) (places s : Set) → IsClosed ns s → is_subset places s ≡ true → is_subset (zone_of ns places) s ≡ true
unfolding zone_of
zone_within ns places s closed h =
    rounds_within (length ns) places s (all_places ns)
    (λ p there m.
    let found = places_among ns p there in
    subst (λ (x : Set). is_subset x s ≡ true) (sym found.2) (closed found.0 found.1 (subst (λ (x : Set). meets x s ≡ true) found.2 m)))
    h

pub zones_are_closed : ZonesAreClosed
unfolding zone_of
zones_are_closed ns places = record {
  has = rounds_more (length ns) places (all_places ns);
  closed = λ n there h. rounds_closed (length ns) places (all_places ns) (length_map (λ n. n.claim.places) ns) n.claim.places (in_map (λ (n : Needed). n.claim.places) ns n there) h;
  least = zone_within ns places;
}
