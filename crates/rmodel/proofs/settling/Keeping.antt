-- What one settlement keeps: writes have entered by the rules, and no two satisfied claims conflict.
use Rattle.std.proofs.Common.{◌≡◌, ◌<◌, Bool, true, false, not, ◌&&◌, ◌||◌, nat_lt, List, refl, sym, ap, subst, ◌∙◌, inl, inr}
use Rattle.std.proofs.lemmas.Bool.{or_cases, or_left, or_right, and_parts, and_from, lt-ltb}
use Rattle.std.specs.List.{AllZip}
use Rattle.rset.specs.Sets.{Set, meets}
use Rattle.rset.proofs.SetLemmas.{meets_symmetric, meets_empty_right, meets_within_left, meets_within_right}
use Rattle.rclaim.specs.declared.claim.Claim.{Claim}
use Rattle.rmodel.specs.declared.claimed.Claimed.{Claimed}
use Rattle.rmodel.specs.Claims.{conflicts, touches, share_place, is_satisfied, is_active}
use Rattle.rmodel.specs.Rules.{is_earlier_write, is_kept_out, makes_way, may_enter, is_held_up, SettlesAt, Settles}
use Rattle.rmodel.specs.WellFormed.{EachPair, Rises, IsClaim, AreWellFormed, Entered, Apart, AreExclusive}
use Rattle.rmodel.proofs.ListFacts.{Among, contrary, false_from, none_among, all_among, zip_all, zip_among, pairs_of_zip, pairs_both}
use Rattle.rmodel.proofs.settling.OneSettlement.{both_cases}
use Rattle.rmodel.proofs.settling.Settlement.{conflict_of_read}
use Rattle.rmodel.proofs.reaching.Soundness.{active_of_satisfied, same_claims, same_claims_well_formed}

-- ---- conflicts

or_swap : (a b : Bool) → (a || b) ≡ (b || a)
or_swap true true = refl
or_swap true false = refl
or_swap false true = refl
or_swap false false = refl

pub conflicts_symmetric : (a b : Claim) → conflicts a b ≡ conflicts b a
conflicts_symmetric a b = or_swap (touches b a.writes) (touches a b.writes)

-- what a write touches meets its places
pub touches_places : (a : Claim) (s : Set) → IsClaim a → a.write_half ≡ true → touches a s ≡ true → meets a.places s ≡ true
touches_places a s is w t =
    elim (or_cases (meets a.reads s) (meets a.writes s) t) [
      | inl r ↦ meets_within_left a.reads a.places s (is.reads_placed w) r
      | inr r ↦ meets_within_left a.writes a.places s (is.writes_placed w) r
    ]

-- two writes that conflict share a place
pub conflict_shares : (a b : Claim) → IsClaim a → IsClaim b → a.write_half ≡ true → b.write_half ≡ true → conflicts a b ≡ true → share_place a b ≡ true
conflict_shares a b is_a is_b wa wb h =
    elim (or_cases (touches b a.writes) (touches a b.writes) h) [
      | inl t ↦ meets_symmetric a.places b.places ∙ meets_within_right b.places a.writes a.places (is_a.writes_placed wa) (touches_places b a.writes is_b wb t)
      | inr t ↦ meets_within_right a.places b.writes b.places (is_b.writes_placed wb) (touches_places a b.writes is_a wa t)
    ]

-- two reads do not conflict
reads_apart : (a b : Claim) → IsClaim a → IsClaim b → a.write_half ≡ false → b.write_half ≡ false → conflicts a b ≡ false
reads_apart a b is_a is_b ra rb =
    conflict_of_read a b (is_a.read_only ra) ∙ ap (meets a.reads) (is_b.read_only rb) ∙ meets_empty_right a.reads

pub not_false : (b : Bool) → not b ≡ true → b ≡ false
not_false true h = sym h
not_false false h = refl

-- ---- one settlement keeps them

module _ (s t : List Claimed) where
  -- a claim before and after the settlement
  pub record Moves (x y : Claimed) : Type 0 where
    pub by_rule : SettlesAt s t x y
    pub in_s : Among x s
    pub in_t : Among y t
    pub is_claim : IsClaim y.claim

  -- a pair of claims before the settlement
  pub record Before (x x' : Claimed) : Type 0 where
    pub rises : Rises x x'
    pub entered : Entered x x'
    pub apart : Apart x x'

  pub entered_after : (x x' y y' : Claimed) → Before x x' → Moves x y → Moves x' y' → Entered y y'
  entered_after x x' y y' b m m' w w' share active =
      elim (or_cases (is_active x') (may_enter t y'.claim) (sym (m'.by_rule.entitlement w') ∙ active)) [
        | inl was ↦
            let had = b.entered (ap (λ c. c.write_half) (sym m.by_rule.same) ∙ w) (ap (λ c. c.write_half) (sym m'.by_rule.same) ∙ w')
            ((λ i. share_place (sym m.by_rule.same i) (sym m'.by_rule.same i)) ∙ share) was in (
              m.by_rule.satisfaction w ∙ ap (λ a. a || (is_active y && not (is_held_up t y.claim))) had.0,
              (λ i. meets (m.by_rule.same i).writes (m'.by_rule.same i).places) ∙ had.1,
            )
        | inr enters ↦
            let way = all_among (λ v. not (is_earlier_write y'.claim v.claim && share_place v.claim y'.claim) || makes_way t y'.claim v) t y enters m.in_t in
            let stamps : x.claim.stamp < x'.claim.stamp = b.rises.after_write (ap (λ c. c.write_half) (sym m.by_rule.same) ∙ w) in
            let below : y.claim.stamp < y'.claim.stamp =
            subst (λ (c : Claim). c.stamp < y'.claim.stamp) (sym m.by_rule.same) (subst (λ (c : Claim). x.claim.stamp < c.stamp) (sym m'.by_rule.same) stamps) in
            let earlier : (is_earlier_write y'.claim y.claim && share_place y.claim y'.claim) ≡ true =
            and_from (is_earlier_write y'.claim y.claim) (share_place y.claim y'.claim)
            (and_from y.claim.write_half (nat_lt y.claim.stamp y'.claim.stamp) w (lt-ltb y.claim.stamp y'.claim.stamp below)) share in
            let made : makes_way t y'.claim y ≡ true = ap (λ e. not e || makes_way t y'.claim y) (sym earlier) ∙ way in
            let parts = and_parts (is_satisfied y && not (meets y.claim.writes y'.claim.places)) _ made in
            let first = and_parts (is_satisfied y) (not (meets y.claim.writes y'.claim.places)) parts.0 in
            (first.0, not_false (meets y.claim.writes y'.claim.places) first.1)
      ]

  -- a write that is newly satisfied conflicts with no satisfied read and no earlier satisfied write
  newly_apart : (x y z : Claimed) → Moves x y → Among z t → y.claim.write_half ≡ true → is_satisfied y ≡ true → is_satisfied x ≡ false → is_satisfied z ≡ true
      → (not z.claim.write_half || is_earlier_write y.claim z.claim) ≡ true → conflicts z.claim y.claim ≡ false
  newly_apart x y z m in_t w sat was sat_z counts =
      let new : (is_active y && not (is_held_up t y.claim)) ≡ true = ap (λ a. a || (is_active y && not (is_held_up t y.claim))) (sym was) ∙ sym (m.by_rule.satisfaction w) ∙ sat in
      let free : is_held_up t y.claim ≡ false = not_false (is_held_up t y.claim) (and_parts (is_active y) (not (is_held_up t y.claim)) new).1 in
      let none = none_among (λ v. is_satisfied v && (not v.claim.write_half || is_earlier_write y.claim v.claim) && conflicts v.claim y.claim) t z free in_t in
      sym (ap (λ a. a && conflicts z.claim y.claim) (and_from (is_satisfied z) (not z.claim.write_half || is_earlier_write y.claim z.claim) sat_z counts)) ∙ none

  -- a read that is newly satisfied conflicts with no write that was active
  pub read_apart : (x y z : Claimed) → Moves x y → Among z s → y.claim.write_half ≡ false → is_satisfied y ≡ true → is_satisfied x ≡ false → z.claim.write_half ≡ true → is_active z ≡ true
      → conflicts z.claim y.claim ≡ false
  read_apart x y z m in_s r sat was w act =
      let free : is_kept_out s y.claim ≡ false
      = not_false (is_kept_out s y.claim) (ap (λ a. a || not (is_kept_out s y.claim)) (sym was) ∙ sym (m.by_rule.reads r) ∙ sat) in
      let none = none_among (λ v. v.claim.write_half && is_active v && conflicts v.claim y.claim) s z free in_s in
      sym (ap (λ a. a && conflicts z.claim y.claim) (and_from z.claim.write_half (is_active z) w act)) ∙ none

  -- two claims that both were satisfied
  still_apart : (x x' y y' : Claimed) → Before x x' → Moves x y → Moves x' y' → is_satisfied x ≡ true → is_satisfied x' ≡ true → conflicts y.claim y'.claim ≡ false
  still_apart x x' y y' b m m' was was' = (λ i. conflicts (m.by_rule.same i) (m'.by_rule.same i)) ∙ b.apart was was'

  write_and_read : (x x' y y' : Claimed) → Before x x' → Moves x y → Moves x' y' → y.claim.write_half ≡ true → y'.claim.write_half ≡ false → is_satisfied y ≡ true → is_satisfied y' ≡ true
      → conflicts y.claim y'.claim ≡ false
  write_and_read x x' y y' b m m' w r sat sat' =
      both_cases (is_satisfied x)
      (λ was. both_cases (is_satisfied x')
      (λ was'. still_apart x x' y y' b m m' was was')
      (λ new'. ap (λ c. conflicts c y'.claim) m.by_rule.same
      ∙ read_apart x' y' x m' m.in_s r sat' new' (ap (λ c. c.write_half) (sym m.by_rule.same) ∙ w) (active_of_satisfied x.status was)))
      (λ new. conflicts_symmetric y.claim y'.claim
      ∙ newly_apart x y y' m m'.in_t w sat new sat' (or_left (not y'.claim.write_half) _ (ap not r)))

  read_and_write : (x x' y y' : Claimed) → Before x x' → Moves x y → Moves x' y' → y.claim.write_half ≡ false → y'.claim.write_half ≡ true → is_satisfied y ≡ true → is_satisfied y' ≡ true
      → conflicts y.claim y'.claim ≡ false
  read_and_write x x' y y' b m m' r w sat sat' =
      both_cases (is_satisfied x')
      (λ was'. both_cases (is_satisfied x)
      (λ was. still_apart x x' y y' b m m' was was')
      (λ new. conflicts_symmetric y.claim y'.claim
      ∙ ap (λ c. conflicts c y.claim) m'.by_rule.same
      ∙ read_apart x y x' m m'.in_s r sat new (ap (λ c. c.write_half) (sym m'.by_rule.same) ∙ w) (active_of_satisfied x'.status was')))
      (λ new'. newly_apart x' y' y m' m.in_t w sat' new' sat (or_left (not y.claim.write_half) _ (ap not r)))

  write_and_write : (x x' y y' : Claimed) → Before x x' → Moves x y → Moves x' y' → y.claim.write_half ≡ true → y'.claim.write_half ≡ true → is_satisfied y ≡ true → is_satisfied y' ≡ true
      → conflicts y.claim y'.claim ≡ false
  write_and_write x x' y y' b m m' w w' sat sat' =
      let wx : x.claim.write_half ≡ true = ap (λ c. c.write_half) (sym m.by_rule.same) ∙ w in
      let wx' : x'.claim.write_half ≡ true = ap (λ c. c.write_half) (sym m'.by_rule.same) ∙ w' in
      both_cases (is_satisfied x')
      (λ was'. both_cases (is_satisfied x)
      (λ was. still_apart x x' y y' b m m' was was')
      (λ new. false_from (conflicts y.claim y'.claim) (λ h.
      let share : share_place x.claim x'.claim ≡ true
      = (λ i. share_place (sym m.by_rule.same i) (sym m'.by_rule.same i)) ∙ conflict_shares y.claim y'.claim m.is_claim m'.is_claim w w' h in
      contrary (is_satisfied x) (b.entered wx wx' share (active_of_satisfied x'.status was')).0 new)))
      (λ new'.
      let below : y.claim.stamp < y'.claim.stamp =
      subst (λ (c : Claim). c.stamp < y'.claim.stamp) (sym m.by_rule.same) (subst (λ (c : Claim). x.claim.stamp < c.stamp) (sym m'.by_rule.same) (b.rises.after_write wx)) in
      newly_apart x' y' y m' m.in_t w' sat' new' sat
      (or_right (not y.claim.write_half) _ (and_from y.claim.write_half (nat_lt y.claim.stamp y'.claim.stamp) w (lt-ltb y.claim.stamp y'.claim.stamp below))))

  apart_after : (x x' y y' : Claimed) → Before x x' → Moves x y → Moves x' y' → Apart y y'
  apart_after x x' y y' b m m' sat sat' =
      both_cases y.claim.write_half
      (λ w. both_cases y'.claim.write_half
      (λ w'. write_and_write x x' y y' b m m' w w' sat sat')
      (λ r'. write_and_read x x' y y' b m m' w r' sat sat'))
      (λ r. both_cases y'.claim.write_half
      (λ w'. read_and_write x x' y y' b m m' r w' sat sat')
      (λ r'. reads_apart y.claim y'.claim m.is_claim m'.is_claim r r'))

  module _ (settles : Settles s t) (well : AreWellFormed s) (entered : EachPair Entered s) (apart : EachPair Apart s) where
    pub moves : AllZip Moves s t
    moves =
        zip_all (λ x. IsClaim x.claim) (λ x y. SettlesAt s t x y × Among x s × Among y t) Moves
        (λ x y is h. record { by_rule = h.0; in_s = h.1; in_t = h.2; is_claim = subst (λ (c : Claim). IsClaim c) (sym h.0.same) is })
        s t well.claims (zip_among (SettlesAt s t) s t settles)

    pub before : EachPair Before s
    before =
        pairs_both Rises (λ x y. Entered x y × Apart x y) Before (λ x y r h. record { rises = r; entered = h.0; apart = h.1 }) s well.rising
        (pairs_both Entered Apart (λ x y. Entered x y × Apart x y) (λ x y e a. (e, a)) s entered apart)

    pub entered_settled : EachPair Entered t
    entered_settled = pairs_of_zip Before Moves Entered entered_after s t before moves

    pub apart_settled : EachPair Apart t
    apart_settled = pairs_of_zip Before Moves Apart apart_after s t before moves

-- a list of exclusive claims settles to one
pub exclusive_settled : (s t : List Claimed) → AreExclusive s → Settles s t → AreExclusive t
exclusive_settled s t had settles = record {
  well_formed = same_claims_well_formed s t had.well_formed (same_claims s t settles);
  entered = entered_settled s t settles had.well_formed had.entered had.apart;
  apart = apart_settled s t settles had.well_formed had.entered had.apart;
}
