-- What is found of a line from its end is its least claim.
use Rattle.std.proofs.Common.{◌≡◌, ℕ, ◌<◌, ◌≤◌, nat_lt, Bool, true, false, not, ◌&&◌, cond, [], ◌∷◌, ◌++◌, refl, sym, ap, subst, ◌∙◌, ◌⊎◌, inl, inr, arith}
use Rattle.std.proofs.lemmas.Bool.{and_parts, ltb-true, ltb-false}
use Rattle.std.specs.List.{AllByRecursion}
use Rattle.std.specs.FinSet.{contains, difference, empty}
use Rattle.rset.specs.Sets.{Set, meets}
use Rattle.rset.proofs.SetMembers.{contains_difference}
use Rattle.rset.proofs.SetsMeet.{meets_from, meets_common, apart_at, meets_empty_right}
use Rattle.rclaim.specs.declared.claim.Claim.{Claim}
use Rattle.rmodel.specs.declared.claimed.Claimed.{Claimed}
use Rattle.rmodel.specs.WellFormed.{Among, EachPair, Rises}
use Rattle.rmodel.proofs.ListFacts.{contrary, all_at, all_from, among_append, among_behind}
use Rattle.rmodel.proofs.reaching.Came.{in_append}
use Rattle.rmodel.proofs.settling.OneSettlement.{both_cases}
use Rattle.rcover_laws.specs.Line.{least_of}
use Rattle.rcover_laws.specs.Moments.{Moment}
use Rattle.rcover_laws.proofs.states.Lines.{earlier_of, earlier_from, least_below}
use Rattle.rcover.specs.declared.lines.Found.{Found}
use Rattle.rcover.specs.Found.{AreBefore, IsBeside, IsLeastOf, IsItself, HasPlace, IsFound}
use Rattle.rcover.specs.Lines.{lowered}
use Rattle.rcover.proofs.Pairs.{pairs_before, pairs_after, pairs_front}
use Rattle.rcover.proofs.heads_told.Leasts.{least_under, least_from, same_least, itself_least}

module _ (m : Moment) (c : Claim) (y : Claimed) (zs : Moment) (are : AreBefore m c (y ∷ zs)) (f : Found) (is : IsFound m c zs f) where
  more : (place : ℕ) → HasPlace zs place → HasPlace (y ∷ zs) place
  more place h = record { at = h.at; among = inr h.among; write = h.write; has = h.has }

  further : (g : Found) → f.stamp ≡ g.stamp → f.seat ≡ g.seat → IsItself c f ⊎ IsLeastOf m c zs f → IsItself c g ⊎ IsLeastOf m c (y ∷ zs) g
  further g stamp seat (inl h) = inl (record { stamp = h.stamp ∙ stamp; seat = h.seat ∙ seat })
  further g stamp seat (inr h) = inr (record { at = h.at; among = inr h.among; beside = h.beside; stamp = h.stamp ∙ stamp; seat = h.seat ∙ seat })

  same_by : (IsBeside c y.claim → f.stamp ≤ (least_of y.claim m).stamp) → IsFound m c (y ∷ zs) f
  same_by low = record {
    is_least = further f refl refl is.is_least;
    not_above = is.not_above;
    least = (low, is.least);
    seen = λ place on off. more place (is.seen place on off);
    within = is.within;
  }

  -- a read changes nothing
  pub found_read : y.claim.write_half ≡ false → IsFound m c (y ∷ zs) f
  found_read read = same_by (λ beside. contrary y.claim.write_half beside.write read)

  -- nor does a write with none of the places that are left: a later write that shares the place reaches it
  pub found_apart : y.claim.write_half ≡ true → meets y.claim.places f.left ≡ false → IsFound m c (y ∷ zs) f
  found_apart write apart =
      same_by (λ beside.
      let p = meets_common y.claim.places c.places beside.share in
      let d = is.seen p.0 p.2 (apart_at y.claim.places f.left apart p.0 p.1) in
      let below = (all_at (Rises y) zs d.at are.pairs.0 d.among).after_write write in
      let up = least_under m are.rising d.at.claim y are.within.0 (earlier_from d.at.claim y.claim (record { write = write; below = below })) (meets_from y.claim.places d.at.claim.places p.0 p.1 d.has) in
      let low = all_at (λ z. IsBeside c z.claim → f.stamp ≤ (least_of z.claim m).stamp) zs d.at is.least d.among (record { write = d.write; share = meets_from d.at.claim.places c.places p.0 d.has p.2 }) in
      omega arith)

  module _ (write : y.claim.write_half ≡ true) (met : meets y.claim.places f.left ≡ true) where
    beside : IsBeside c y.claim
    beside = let p = meets_common y.claim.places f.left met in record { write = write; share = meets_from y.claim.places c.places p.0 p.1 (is.within p.0 p.2) }

    abbrev left : Set
    left = difference f.left y.claim.places

    without : (a b : Bool) → (a && not b) ≡ false → b ≡ false → a ≡ false
    without true true h off = off
    without true false h off = h
    without false b h off = refl

    seen : (place : ℕ) → contains c.places place ≡ true → contains left place ≡ false → HasPlace (y ∷ zs) place
    seen place on off =
        both_cases (contains y.claim.places place)
        (λ own. record { at = y; among = inl refl; write = write; has = own })
        (λ other. more place (is.seen place on (without (contains f.left place) (contains y.claim.places place) (sym (contains_difference f.left y.claim.places place) ∙ off) other)))

    within : (place : ℕ) → contains left place ≡ true → contains c.places place ≡ true
    within place on = is.within place (and_parts (contains f.left place) (not (contains y.claim.places place)) (sym (contains_difference f.left y.claim.places place) ∙ on)).0

    -- another write with some of them has its least claim in the line
    pub found_lower : (d : Claim) → d ≡ least_of y.claim m → IsFound m c (y ∷ zs) (lowered f d left)
    found_lower d is_d =
        let stamp = ap (λ (e : Claim). e.stamp) is_d in
        both_cases (nat_lt d.stamp f.stamp)
        (λ on.
        let below = ltb-true d.stamp f.stamp on in
        let most = is.not_above in
        subst (IsFound m c (y ∷ zs)) (sym (ap (λ b. cond b (to d.seat d.stamp) (to f.seat f.stamp)) on))
        (record {
          is_least = inr (record { at = y; among = inl refl; beside = beside; stamp = sym stamp; seat = ap (λ (e : Claim). e.seat) (sym is_d) });
          not_above = omega arith;
          least = (
            (λ _. omega arith),
            all_from (λ z. IsBeside c z.claim → d.stamp ≤ (least_of z.claim m).stamp) zs
                (λ z there b. let low = all_at (λ z. IsBeside c z.claim → f.stamp ≤ (least_of z.claim m).stamp) zs z is.least there b in omega arith),
          );
          seen = seen;
          within = within;
        }))
        (λ off.
        let over = ltb-false d.stamp f.stamp off in
        subst (IsFound m c (y ∷ zs)) (sym (ap (λ b. cond b (to d.seat d.stamp) (to f.seat f.stamp)) off))
        (record {
          is_least = further (to f.seat f.stamp) refl refl is.is_least;
          not_above = is.not_above;
          least = ((λ _. omega arith), is.least);
          seen = seen;
          within = within;
        }))
      where
        to : ℕ → ℕ → Found
        to seat stamp = record { seat = seat; stamp = stamp; left = left }

-- if no place is left, nothing more is found
pub found_rest : (m : Moment) (c : Claim) (us zs : Moment) → AreBefore m c (us ++ zs) → (f : Found) → f.left ≡ empty → IsFound m c zs f → IsFound m c (us ++ zs) f
found_rest m c [] zs are f none is = is
found_rest m c (u ∷ us) zs are f none is =
    let rest = found_rest m c us zs (record { rising = are.rising; pairs = are.pairs.1; within = are.within.1; earlier = are.earlier.1 }) f none is in
    both_cases u.claim.write_half
    (λ write. found_apart m c u (us ++ zs) are f rest write (ap (meets u.claim.places) none ∙ meets_empty_right u.claim.places))
    (λ read. found_read m c u (us ++ zs) are f rest read)

pub before_rest : (m : Moment) (c : Claim) (us zs : Moment) → AreBefore m c (us ++ zs) → AreBefore m c zs
before_rest m c [] zs are = are
before_rest m c (u ∷ us) zs are = before_rest m c us zs (record { rising = are.rising; pairs = are.pairs.1; within = are.within.1; earlier = are.earlier.1 })

module _ (xs ys : Moment) (x : Claimed) (rising : EachPair Rises (xs ++ x ∷ ys)) (write : x.claim.write_half ≡ true) where
  abbrev m : Moment
  m = xs ++ x ∷ ys

  abbrev c : Claim
  c = x.claim

  in_m : Among x m
  in_m = among_behind xs (x ∷ ys) x (inl refl)

  -- all claims in front are before it
  pub are_before : AreBefore m c xs
  are_before = record {
    rising = rising;
    pairs = pairs_front Rises xs (x ∷ ys) rising;
    within = all_from (λ z. Among z m) xs (λ z there. in_append xs (x ∷ ys) z there);
    earlier = all_from (λ z. z.claim.write_half ≡ true → z.claim.stamp < c.stamp) xs (λ z there w. (all_at (λ u. Rises u x) xs z (pairs_before Rises xs x ys rising) there).after_write w);
  }

  -- an earlier write is among those
  in_front : (z : Claimed) → Among z m → z.claim.stamp < c.stamp → Among z xs
  in_front z there below = elim (among_append xs (x ∷ ys) z there) [
    | inl front ↦ front
    | inr (inl same) ↦ (let e = ap (λ (u : Claimed). u.claim.stamp) same in absurd (omega arith))
    | inr (inr behind) ↦ (let not_above = (all_at (Rises x) ys z (pairs_after Rises xs x ys rising) behind).not_above in absurd (omega arith))
  ]

  -- what holds of those in front holds of all earlier ones
  pub earlier_all : (P : Claimed → Type 0) → AllByRecursion P xs → AllByRecursion (λ y. y.claim.stamp < c.stamp → P y) m
  earlier_all P all = all_from (λ y. y.claim.stamp < c.stamp → P y) m (λ y there below. all_at P xs y all (in_front y there below))

  module _ (f : Found) (is : IsFound m c xs f) where
    low : f.stamp ≤ (least_of c m).stamp
    low = elim (least_from m rising c) [
      | inl itself ↦ (let h = is.not_above in let e = ap (λ (d : Claim). d.stamp) itself in omega arith)
      | inr y ↦ (
          let parts = earlier_of c y.0.claim y.2 in
          let h = all_at (λ z. IsBeside c z.claim → f.stamp ≤ (least_of z.claim m).stamp) xs y.0 is.least (in_front y.0 y.1 parts.below) (record { write = parts.write; share = y.3 }) in
          let up = y.4 in omega arith)
    ]

    -- the stamp that is found is that of the least
    pub stamp_found : f.stamp ≡ (least_of c m).stamp
    stamp_found = elim is.is_least [
      | inl itself ↦ (let h = least_below c m rising c (inl refl) in let l = low in let e = itself.stamp in omega arith)
      | inr y ↦ (
          let in_y = in_append xs (x ∷ ys) y.at y.among in
          let below = all_at (λ z. z.claim.write_half ≡ true → z.claim.stamp < c.stamp) xs y.at are_before.earlier y.among y.beside.write in
          let h = least_under m rising c y.at in_y (earlier_from c y.at.claim (record { write = y.beside.write; below = below })) y.beside.share in
          let l = low in
          let e = y.stamp in
          omega arith)
    ]

    -- the seat that is found is that of the least
    pub seat_found : f.seat ≡ (least_of c m).seat
    seat_found = elim is.is_least [
      | inl itself ↦ (
          let h = least_below c m rising c (inl refl) in
          let l = low in
          let e = itself.stamp in
          sym itself.seat ∙ ap (λ (d : Claim). d.seat) (sym (itself_least m rising x in_m write (omega arith))))
      | inr y ↦ (
          let in_y = in_append xs (x ∷ ys) y.at y.among in
          let below = all_at (λ z. z.claim.write_half ≡ true → z.claim.stamp < c.stamp) xs y.at are_before.earlier y.among y.beside.write in
          let h = least_under m rising c y.at in_y (earlier_from c y.at.claim (record { write = y.beside.write; below = below })) y.beside.share in
          let l = low in
          let e = y.stamp in
          sym y.seat ∙ ap (λ (d : Claim). d.seat) (same_least m rising y.at x in_y in_m y.beside.write write (omega arith)))
    ]
