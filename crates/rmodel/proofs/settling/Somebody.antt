-- Where there are claims, some claim is satisfied once they are settled.
use Rattle.std.proofs.Common.{◌≡◌, ◌≢◌, Bool, true, false, not, ◌&&◌, ◌||◌, nat_lt, List, [], ◌∷◌, refl, sym, ap, ◌∙◌, inl, inr, arith}
use Rattle.std.proofs.lemmas.Bool.{true≢false, or_left, or_right, and_parts, and_from, le-ltb}
use Rattle.std.specs.List.{list_any, AllByRecursion}
use Rattle.rclaim.specs.declared.claim.Claim.{Claim}
use Rattle.rmodel.specs.declared.claimed.Claimed.{Claimed}
use Rattle.rmodel.specs.Claims.{share_place, conflicts, is_active, is_satisfied}
use Rattle.rmodel.specs.Rules.{is_earlier_write, is_kept_out, is_held_up, SettlesAt, Settles}
use Rattle.rmodel.specs.Laws.{shares_with_earlier}
use Rattle.rmodel.specs.WellFormed.{EachPair, Rises, AreWellFormed}
use Rattle.rmodel.proofs.ListFacts.{Among, contrary, false_from, passing, any_among, none_among, none_from, all_at, each_second, some_second}
use Rattle.rmodel.proofs.settling.OneSettlement.{both_cases}
use Rattle.rmodel.proofs.reaching.Soundness.{same_claims, same_claims_well_formed}
use Rattle.rmodel.proofs.settling.Earliest.{earliest}

abbrev is_write : Claimed → Bool
is_write x = x.claim.write_half

-- the first write of a list of rising stamps: no write has a smaller one
record FirstWrite (xs : List Claimed) : Type 0 where
  first : Claimed
  there : Among first xs
  writes : first.claim.write_half ≡ true
  none_earlier : list_any (λ v. is_earlier_write first.claim v.claim) xs ≡ false

first_write : (xs : List Claimed) → EachPair Rises xs → list_any is_write xs ≡ true → FirstWrite xs
first_write [] rising some = absurd (true≢false (sym some))
first_write (x ∷ xs) rising some = at x.claim.write_half refl (first_write xs rising.1)
  where
    later : (y : Claimed) → x.claim.write_half ≡ true → Rises x y → is_earlier_write x.claim y.claim ≡ false
    later y w rises = false_from _ (λ h. let low = rises.after_write w in contrary _ (and_parts y.claim.write_half (nat_lt y.claim.stamp x.claim.stamp) h).1 (le-ltb y.claim.stamp x.claim.stamp (omega arith)))

    itself : is_earlier_write x.claim x.claim ≡ false
    itself = false_from _ (λ h. contrary _ (and_parts x.claim.write_half (nat_lt x.claim.stamp x.claim.stamp) h).1 (le-ltb x.claim.stamp x.claim.stamp (omega arith)))

    at : (b : Bool) → x.claim.write_half ≡ b → (list_any is_write xs ≡ true → FirstWrite xs) → FirstWrite (x ∷ xs)
    at true w behind = record {
      first = x;
      there = inl refl;
      writes = w;
      none_earlier = none_from (λ v. is_earlier_write x.claim v.claim) (x ∷ xs) each;
    }
      where
        each : (v : Claimed) → Among v (x ∷ xs) → is_earlier_write x.claim v.claim ≡ false
        each v (inl same) = ap (λ z. is_earlier_write x.claim z.claim) same ∙ itself
        each v (inr there) = later v w (all_at (Rises x) xs v rising.0 there)
    at false r behind =
        let rest = behind (ap (λ b. b || list_any is_write xs) (sym r) ∙ some) in
        record {
          first = rest.first;
          there = inr rest.there;
          writes = rest.writes;
          none_earlier = ap (λ b. (b && nat_lt x.claim.stamp rest.first.claim.stamp) || list_any (λ v. is_earlier_write rest.first.claim v.claim) xs) r ∙ rest.none_earlier;
        }

module _ (s t : List Claimed) (well : AreWellFormed s) (settles : Settles s t) where
  well_after : AreWellFormed t
  well_after = same_claims_well_formed s t well (same_claims s t settles)

  -- with no write in t there was none in s, so nothing keeps a read out
  no_write_before : list_any is_write t ≡ false → list_any is_write s ≡ false
  no_write_before none = false_from _ (λ some. contrary _ (some_second (SettlesAt s t) is_write is_write (λ x y at w. ap (λ c. c.write_half) at.same ∙ w) s t settles some) none)

  kept_out_by_none : list_any is_write s ≡ false → (c : Claim) → is_kept_out s c ≡ false
  kept_out_by_none none c = false_from _ (λ some.
      let found = passing (λ v. v.claim.write_half && is_active v && conflicts v.claim c) s some in
      let write = (and_parts found.0.claim.write_half (is_active found.0) (and_parts (found.0.claim.write_half && is_active found.0) (conflicts found.0.claim c) found.2).0).0 in
      contrary _ write (none_among is_write s found.0 none found.1))

  each_read : AllByRecursion (λ y. y.claim.write_half ≡ false → list_any is_write s ≡ false → is_satisfied y ≡ true) t
  each_read = each_second (SettlesAt s t) _ (λ x y at r none. at.reads r ∙ or_right (is_satisfied x) (not (is_kept_out s y.claim)) (ap not (kept_out_by_none none y.claim))) s t settles

  reads_hold : t ≢ [] → list_any is_write t ≡ false → list_any is_satisfied t ≡ true
  reads_hold filled none = at t filled each_read (λ y there. none_among is_write t y none there)
    where
      at : (ys : List Claimed) → ys ≢ [] → AllByRecursion (λ y. y.claim.write_half ≡ false → list_any is_write s ≡ false → is_satisfied y ≡ true) ys → ((y : Claimed) → Among y ys → y.claim.write_half ≡ false) → list_any is_satisfied ys ≡ true
      at [] filled each reads = absurd (filled refl)
      at (y ∷ ys) filled each reads = or_left (is_satisfied y) (list_any is_satisfied ys) (each.0 (reads y (inl refl)) (no_write_before none))

  -- a write that is entitled or satisfied is satisfied, or a satisfied claim holds it up
  or_held_up : AllByRecursion (λ y. y.claim.write_half ≡ true → is_active y ≡ true → is_held_up t y.claim ≡ false → is_satisfied y ≡ true) t
  or_held_up = each_second (SettlesAt s t) _
      (λ x y at w active free. at.satisfaction w ∙ or_right (is_satisfied x) _ (and_from (is_active y) (not (is_held_up t y.claim)) active (ap not free)))
      s t settles

  first_holds : FirstWrite t → list_any is_satisfied t ≡ true
  first_holds w =
      both_cases (is_held_up t w.first.claim)
      (λ held.
      let found = passing (λ v. is_satisfied v && (not v.claim.write_half || is_earlier_write w.first.claim v.claim) && conflicts v.claim w.first.claim) t held in
      any_among is_satisfied t found.0 found.1 (and_parts (is_satisfied found.0) _ (and_parts (is_satisfied found.0 && _) (conflicts found.0.claim w.first.claim) found.2).0).0)
      (λ free. any_among is_satisfied t w.first w.there (all_at _ t w.first or_held_up w.there w.writes active free))
    where
      alone : shares_with_earlier t w.first.claim ≡ false
      alone = none_from (λ v. is_earlier_write w.first.claim v.claim && share_place v.claim w.first.claim) t
          (λ v there. ap (λ b. b && share_place v.claim w.first.claim) (none_among (λ v. is_earlier_write w.first.claim v.claim) t v w.none_earlier there))

      active : is_active w.first ≡ true
      active = all_at _ t w.first (earliest s t settles) w.there w.writes alone

  pub some_satisfied : t ≢ [] → list_any is_satisfied t ≡ true
  some_satisfied filled = both_cases (list_any is_write t) (λ some. first_holds (first_write t well_after.rising some)) (reads_hold filled)
