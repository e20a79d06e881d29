-- Zones of places: each place of a zone has the same zone, and the zone of a claim is that of any of its places.
use Rattle.std.proofs.Common.{◌≡◌, ◌<◌, ◌+◌, ◌==◌, not, ℕ, true, false, fold, List, [], ◌∷◌, ◌++◌, map, length, get_or, refl, sym, ap, subst, inl, inr, ◌∙◌, arith}
use Rattle.std.specs.List.{range_with_len}
use Rattle.std.specs.FinSet.{empty, insert, union, contains, difference, is_subset}
use Rattle.std.proofs.lemmas.Bool.{and_parts, and_from, eq-eqb, eqb-true, or_cases, or_left, or_right}
use Rattle.std.specs.Ordering.{nat_cmp}
use Rattle.std.proofs.lemmas.List.FromFn.{map-range_with_len_more, get_or-map-range_with_len, length-map-range_with_len}
use Rattle.rset.specs.Sets.{Set}
use Rattle.rset.proofs.SetLemmas.{within_at, within_from, within_both, within_empty, insert_within, contains_empty, contains_insert, contains_union, contains_difference, meets_from, meets_common}
use Rattle.rmodel.specs.WellFormed.{Among}
use Rattle.rmodel.proofs.ListFacts.{contrary}
use Rattle.rmodel.proofs.settling.OneSettlement.{both_cases}
use Rattle.rbound.specs.Needs.{Needed}
use Rattle.rbound.specs.Zones.{zone_of, IsClosed}
use Rattle.rbound_table.specs.PlaceZones.{zone_at, places_in}
use Rattle.rbound.proofs.ClosedZones.{zone_within, zones_are_closed}

one_within : (s : Set) (l : ℕ) → contains s l ≡ true → is_subset (insert empty l) s ≡ true
one_within s l h = insert_within empty s l (within_empty s) h

one_has : (l : ℕ) → contains {R = nat_cmp} (insert empty l) l ≡ true
one_has l = contains_insert empty l l ∙ or_left (l == l) _ (eq-eqb l l refl)

-- each place of a claim is among those of all claims
places_kept : (ns : List Needed) (s : Set) (l : ℕ) → contains s l ≡ true → contains (fold (λ all (n : Needed). union all n.claim.places) s ns) l ≡ true
places_kept [] s l h = h
places_kept (n ∷ ns) s l h = places_kept ns (union s n.claim.places) l (contains_union s n.claim.places l ∙ or_left (contains s l) (contains n.claim.places l) h)

places_there : (ns : List Needed) (s : Set) (n : Needed) (l : ℕ) → Among n ns → contains n.claim.places l ≡ true → contains (fold (λ all (m : Needed). union all m.claim.places) s ns) l ≡ true
places_there [] s n l there h = absurd there
places_there (m ∷ ns) s n l (inl same) h =
    places_kept ns (union s m.claim.places) l (contains_union s m.claim.places l ∙ or_right (contains s l) (contains m.claim.places l) (ap (λ (x : Needed). contains x.claim.places l) (sym same) ∙ h))
places_there (m ∷ ns) s n l (inr later) h = places_there ns (union s m.claim.places) n l later h

-- the only member of a set with one member
one_is : (l m : ℕ) → contains {R = nat_cmp} (insert empty l) m ≡ true → m ≡ l
one_is l m h = elim (or_cases (m == l) (contains {R = nat_cmp} empty m) (sym (contains_insert empty l m) ∙ h)) [
  | inl same ↦ eqb-true m l same
  | inr none ↦ contrary (contains {R = nat_cmp} empty m) none (contains_empty m)
]

module _ (ns : List Needed) where
  pub zone_has : (l : ℕ) → contains (zone_at ns l) l ≡ true
  zone_has l = within_at (insert empty l) (zone_at ns l) (zones_are_closed ns (insert empty l)).has l (one_has l)

  pub zone_closed : (l : ℕ) → IsClosed ns (zone_at ns l)
  zone_closed l = (zones_are_closed ns (insert empty l)).closed

  least : (l : ℕ) (s : Set) → IsClosed ns s → contains s l ≡ true → is_subset (zone_at ns l) s ≡ true
  least l s closed h = zone_within ns (insert empty l) s closed (one_within s l h)

  -- *The zone of a place that no claim has is that place alone*
  pub lone_zone : (places : Set) (l : ℕ) → places ≡ places_in ns → contains places l ≡ false → insert empty l ≡ zone_at ns l
  lone_zone places l are none =
      within_both (insert empty l) (zone_at ns l) (one_within (zone_at ns l) l (zone_has l))
      (least l (insert empty l) (λ n there near.
      let shared = meets_common n.claim.places (insert empty l) near in
      let has : contains n.claim.places l ≡ true = subst (λ m. contains n.claim.places m ≡ true) (one_is l shared.0 shared.2) shared.1 in
      contrary (contains places l) (ap (λ s. contains s l) are ∙ places_there ns empty n l there has) none) (one_has l))

  -- what is in a zone and not in another is closed
  apart_closed : (k m : ℕ) → IsClosed ns (difference (zone_at ns k) (zone_at ns m))
  apart_closed k m n there near =
      let l = meets_common n.claim.places (difference (zone_at ns k) (zone_at ns m)) near in
      let parts = and_parts (contains (zone_at ns k) l.0) (not (contains (zone_at ns m) l.0)) (sym (contains_difference (zone_at ns k) (zone_at ns m) l.0) ∙ l.2) in
      let in_k = zone_closed k n there (meets_from n.claim.places (zone_at ns k) l.0 l.1 parts.0) in
      within_from n.claim.places (difference (zone_at ns k) (zone_at ns m)) (λ p has.
      contains_difference (zone_at ns k) (zone_at ns m) p
      ∙ and_from (contains (zone_at ns k) p) (not (contains (zone_at ns m) p)) (within_at n.claim.places (zone_at ns k) in_k p has)
      (both_cases (contains (zone_at ns m) p)
      (λ both.
      let in_m = zone_closed m n there (meets_from n.claim.places (zone_at ns m) p has both) in
      contrary true refl (sym parts.1 ∙ ap not (within_at n.claim.places (zone_at ns m) in_m l.0 l.1)))
      (λ none. ap not none)))

  back : (k m : ℕ) → contains (zone_at ns k) m ≡ true → contains (zone_at ns m) k ≡ true
  back k m h =
      both_cases (contains (zone_at ns m) k) (λ yes. yes)
      (λ none.
      let within = least k (difference (zone_at ns k) (zone_at ns m)) (apart_closed k m) (contains_difference (zone_at ns k) (zone_at ns m) k ∙ and_from (contains (zone_at ns k) k) (not (contains (zone_at ns m) k)) (zone_has k) (ap not none)) in
      let there = within_at (zone_at ns k) (difference (zone_at ns k) (zone_at ns m)) within m h in
      let parts = and_parts (contains (zone_at ns k) m) (not (contains (zone_at ns m) m)) (sym (contains_difference (zone_at ns k) (zone_at ns m) m) ∙ there) in
      contrary true refl (sym parts.1 ∙ ap not (zone_has m)))

  -- *Each place of a zone has the same zone*
  pub same_zone : (k m : ℕ) → contains (zone_at ns k) m ≡ true → zone_at ns k ≡ zone_at ns m
  same_zone k m h = within_both (zone_at ns k) (zone_at ns m) (least k (zone_at ns m) (zone_closed m) (back k m h)) (least m (zone_at ns k) (zone_closed k) h)

  -- *The zone of a claim is that of any of its places*
  pub zone_by_place : (n : Needed) (l : ℕ) → Among n ns → contains n.claim.places l ≡ true → zone_of ns n.claim.places ≡ zone_at ns l
  zone_by_place n l there h =
      let zone = zones_are_closed ns n.claim.places in
      within_both (zone_of ns n.claim.places) (zone_at ns l)
      (zone_within ns n.claim.places (zone_at ns l) (zone_closed l) (zone_closed l n there (meets_from n.claim.places (zone_at ns l) l h (zone_has l))))
      (least l (zone_of ns n.claim.places) zone.closed (within_at n.claim.places (zone_of ns n.claim.places) zone.has l h))

  pub found_zone : (zones : List Set) (l i : ℕ) (z : Set) → zones ≡ map (zone_at ns) (range_with_len 0 l) → i < length zones → z ≡ get_or zones i z → contains z l ≡ true → z ≡ zone_at ns l
  found_zone zones l i z are less at has =
      let below : i < l = omega (arith, less, ap length are ∙ length-map-range_with_len (zone_at ns) 0 l) in
      let is : z ≡ zone_at ns i = at ∙ ap (λ zs. get_or zs i z) are ∙ get_or-map-range_with_len (zone_at ns) 0 l i i z below (omega arith) in
      is ∙ same_zone i l (sym (ap (λ s. contains s l) is) ∙ has)

  pub zones_more : (old new : List Set) (l : ℕ) (z : Set) → old ≡ map (zone_at ns) (range_with_len 0 l) → new ≡ old ++ z ∷ [] → z ≡ zone_at ns l → new ≡ map (zone_at ns) (range_with_len 0 (l + 1))
  zones_more old new l z were is of = is ∙ (λ i. were i ++ of i ∷ []) ∙ sym (map-range_with_len_more (zone_at ns) 0 l l (omega arith))
