-- What holds at one moment, in a state that accepted events lead to.
use Rattle.std.proofs.Common.{◌≡◌, ◌<◌, Bool, true, false, not, ◌&&◌, ◌||◌, nat_lt, refl, sym, ap, subst, ◌∙◌, inl, inr, arith}
use Rattle.std.proofs.lemmas.Bool.{or_cases, or_left, or_parts, and_parts, and_from, lt-ltb, cases_order}
use Rattle.rset.specs.Sets.{meets}
use Rattle.rset.proofs.SetLemmas.{meets_symmetric, apart_within_right}
use Rattle.rclaim.specs.declared.claim.Claim.{Claim}
use Rattle.rmodel.specs.declared.claimed.Claimed.{Claimed}
use Rattle.rmodel.specs.Claims.{conflicts, touches, share_place, is_active, is_satisfied}
use Rattle.rmodel.specs.Laws.{keeps_out}
use Rattle.rmodel.specs.Reached.{IsReached}
use Rattle.rmodel.specs.Rules.{is_earlier_write, is_kept_out, is_held_up, SettlesAt}
use Rattle.rmodel.specs.State.{LockState}
use Rattle.rmodel.specs.WellFormed.{Rises, IsClaim, Entered, AreExclusive, Distinct, HasParts}
use Rattle.rmodel.proofs.ListFacts.{Among, contrary, all_at, passing, pair_among, pairs_both, all_of_itself}
use Rattle.rmodel.proofs.settling.Behind.{not_same, so_from}
use Rattle.rmodel.proofs.settling.Keeping.{conflict_shares}
use Rattle.rmodel.proofs.settling.OneSettlement.{both_cases}
use Rattle.rmodel.proofs.settling.OneWrite.{one_keeps}
use Rattle.rmodel.proofs.settling.Settlement.{conflict_of_read}
use Rattle.rmodel.proofs.reaching.Soundness.{active_of_satisfied}
use Rattle.rcover_laws.specs.Moments.{Moment}

-- a claim is there, and satisfied
pub record Sat (c : Claim) (m : Moment) : Type 0 where
  pub at : Claimed
  pub among : Among at m
  pub is : at.claim ≡ c
  pub satisfied : is_satisfied at ≡ true

-- a write is there, and entitled
pub record IsEntitled (v : Claim) (m : Moment) : Type 0 where
  pub at : Claimed
  pub among : Among at m
  pub is : at.claim ≡ v
  pub write : v.write_half ≡ true
  pub active : is_active at ≡ true
  pub unsatisfied : is_satisfied at ≡ false

-- a claim that, satisfied, holds the write v up
pub record HoldsUp (v x : Claim) : Type 0 where
  pub before : (not x.write_half || is_earlier_write v x) ≡ true
  pub conflict : conflicts x v ≡ true

-- a claim of this sort holds the write v up at a moment
pub record IsHeld (R : Claim → Type 0) (v : Claim) (m : Moment) : Type 0 where
  pub by : Claim
  pub right : R by
  pub holds_up : HoldsUp v by
  pub sat : Sat by m

module _ (s : LockState) (reached : IsReached s) where
  pub exclusive : AreExclusive s.claims
  exclusive = record { well_formed = reached.sound.well_formed; entered = reached.entered; apart = reached.apart }

  pub claim_is : (x : Claimed) → Among x s.claims → IsClaim x.claim
  claim_is x there = all_at (λ x. IsClaim x.claim) s.claims x reached.sound.well_formed.claims there

  pub parts_of : (x : Claimed) → Among x s.claims → HasParts x
  parts_of x there = all_at HasParts s.claims x reached.sound.parts there

  pub stamp_given : (x : Claimed) → Among x s.claims → x.claim.stamp < s.issued
  stamp_given x there = all_at (λ x. x.claim.stamp < s.issued) s.claims x reached.sound.given_out there

  -- a claim occurs once
  pub one_claim : (x y : Claimed) → Among x s.claims → Among y s.claims → x.claim ≡ y.claim → x ≡ y
  one_claim x y in_x in_y same =
      elim (pair_among Distinct s.claims x y reached.sound.one_each in_x in_y) [
        | inl is ↦ is
        | inr (inl d) ↦ not_same x y d same
        | inr (inr d) ↦ not_same y x d (sym same)
      ]

  -- stamps distinguish writes
  pub same_write : (x y : Claimed) → Among x s.claims → Among y s.claims → x.claim.write_half ≡ true → y.claim.write_half ≡ true → x.claim.stamp ≡ y.claim.stamp → x ≡ y
  same_write x y in_x in_y w w' stamps =
      elim (pair_among Rises s.claims x y reached.sound.well_formed.rising in_x in_y) [
        | inl is ↦ is
        | inr (inl r) ↦ let below = r.after_write w in absurd (omega arith)
        | inr (inr r) ↦ let below = r.after_write w' in absurd (omega arith)
      ]

  -- what keeps a read waiting
  pub keeper : (r : Claimed) → Among r s.claims → r.claim.write_half ≡ false → is_satisfied r ≡ false → is_kept_out s.claims r.claim ≡ true
  keeper r there read unsat =
      let at = all_at (λ x. SettlesAt s.claims s.claims x x) s.claims r (all_of_itself (SettlesAt s.claims s.claims) s.claims reached.stable) there in
      so_from (is_kept_out s.claims r.claim) (or_parts (is_satisfied r) (not (is_kept_out s.claims r.claim)) (sym (at.reads read) ∙ unsat)).1

  pub one_keeper : (r v w : Claimed) → Among r s.claims → r.claim.write_half ≡ false → Among v s.claims → keeps_out r.claim v ≡ true → Among w s.claims → keeps_out r.claim w ≡ true → w ≡ v
  one_keeper r v w in_r read in_v keeps_v in_w keeps_w =
      elim (pair_among (λ a b. keeps_out r.claim a ≡ true → keeps_out r.claim b ≡ false) s.claims w v (one_keeps s.groups.groups s.claims exclusive reached.admitted r in_r read) in_w in_v) [
        | inl same ↦ same
        | inr (inl first) ↦ contrary (keeps_out r.claim v) keeps_v (first keeps_w)
        | inr (inr last) ↦ contrary (keeps_out r.claim w) keeps_w (last keeps_v)
      ]

  -- an earlier write that shares a place with an entitled or satisfied one is satisfied, and writes none of its places
  pub earlier_done : (x y : Claimed) → Among x s.claims → Among y s.claims → x.claim.write_half ≡ true → y.claim.write_half ≡ true → x.claim.stamp < y.claim.stamp → share_place x.claim y.claim ≡ true
      → is_active y ≡ true → (is_satisfied x ≡ true) × (meets x.claim.writes y.claim.places ≡ false)
  earlier_done x y in_x in_y w w' below share active =
      elim (pair_among (λ x y. Rises x y × Entered x y) s.claims x y
      (pairs_both Rises Entered (λ x y. Rises x y × Entered x y) (λ x y r e. (r, e)) s.claims reached.sound.well_formed.rising reached.entered) in_x in_y) [
        | inl same ↦ absurd (differ x.claim.stamp y.claim.stamp below (ap (λ (z : Claimed). z.claim.stamp) same))
        | inr (inl h) ↦ h.1 w w' share active
        | inr (inr h) ↦ let up = h.0.not_above in absurd (omega arith)
      ]
    where
      differ : (m n : _) → m < n → m ≡ n → ⊥
      differ m n less same = omega arith

  -- an entitled write is held up
  pub holder : (v : Claim) → IsEntitled v s.claims → IsHeld (λ x. Unit {0}) v s.claims
  holder v ent =
      let y = ent.at in
      let at = all_at (λ x. SettlesAt s.claims s.claims x x) s.claims y (all_of_itself (SettlesAt s.claims s.claims) s.claims reached.stable) ent.among in
      let none = or_parts (is_satisfied y) (is_active y && not (is_held_up s.claims y.claim)) (sym (at.satisfaction (ap (λ c. c.write_half) ent.is ∙ ent.write)) ∙ ent.unsatisfied) in
      let held : is_held_up s.claims y.claim ≡ true = so_from (is_held_up s.claims y.claim) (ap (λ a. a && not (is_held_up s.claims y.claim)) (sym ent.active) ∙ none.1) in
      let x = passing (λ x. is_satisfied x && (not x.claim.write_half || is_earlier_write y.claim x.claim) && conflicts x.claim y.claim) s.claims held in
      let parts = and_parts (is_satisfied x.0 && (not x.0.claim.write_half || is_earlier_write y.claim x.0.claim)) (conflicts x.0.claim y.claim) x.2 in
      let first = and_parts (is_satisfied x.0) (not x.0.claim.write_half || is_earlier_write y.claim x.0.claim) parts.0 in
      record {
        by = x.0.claim;
        right = tt;
        holds_up = record { before = ap (λ c. not x.0.claim.write_half || is_earlier_write c x.0.claim) (sym ent.is) ∙ first.1; conflict = ap (conflicts x.0.claim) (sym ent.is) ∙ parts.1 };
        sat = record { at = x.0; among = x.1; is = refl; satisfied = first.0 };
      }

  -- a satisfied write that conflicts with an entitled one is earlier, and writes none of its places
  pub aside : (v x : Claimed) → Among v s.claims → Among x s.claims → v.claim.write_half ≡ true → x.claim.write_half ≡ true → is_active v ≡ true → is_satisfied v ≡ false → is_satisfied x ≡ true
      → share_place x.claim v.claim ≡ true → (x.claim.stamp < v.claim.stamp) × (meets x.claim.writes v.claim.places ≡ false)
  aside v x in_v in_x w w' active unsat sat share =
      elim (cases_order x.claim.stamp v.claim.stamp) [
        | inl same ↦ contrary (is_satisfied v) (ap is_satisfied (sym (same_write x v in_x in_v w' w same)) ∙ sat) unsat
        | inr (inl below) ↦ (below, (earlier_done x v in_x in_v w' w below share active).1)
        | inr (inr above) ↦
            contrary (is_satisfied v) (earlier_done v x in_v in_x w w' above (meets_symmetric v.claim.places x.claim.places ∙ share) (active_of_satisfied x.status sat)).0 unsat
      ]

  -- what a satisfied claim that conflicts with an entitled write is: it holds the write up, and reads what that writes
  pub holds_it_up : (v x : Claim) → IsEntitled v s.claims → Sat x s.claims → conflicts x v ≡ true → HoldsUp v x
  holds_it_up v x ent sat conflict =
      record {
        conflict = conflict;
        before = both_cases x.write_half (λ w. after_not x.write_half (is_earlier_write v x) (earlier w)) (λ r. or_left (not x.write_half) (is_earlier_write v x) (ap not r));
      }
    where
      after_not : (a b : Bool) → b ≡ true → (not a || b) ≡ true
      after_not true b h = h
      after_not false b h = refl

      earlier : x.write_half ≡ true → is_earlier_write v x ≡ true
      earlier w =
          let share = conflict_shares sat.at.claim ent.at.claim (claim_is sat.at sat.among) (claim_is ent.at ent.among) (ap (λ c. c.write_half) sat.is ∙ w) (ap (λ c. c.write_half) ent.is ∙ ent.write)
          ((λ i. conflicts (sat.is i) (ent.is i)) ∙ conflict) in
          let h = aside ent.at sat.at ent.among sat.among (ap (λ c. c.write_half) ent.is ∙ ent.write) (ap (λ c. c.write_half) sat.is ∙ w) ent.active ent.unsatisfied sat.satisfied share in
          and_from x.write_half (nat_lt x.stamp v.stamp) w ((λ i. nat_lt (sym sat.is i).stamp (sym ent.is i).stamp) ∙ lt-ltb sat.at.claim.stamp ent.at.claim.stamp h.0)

  pub reads_written : (v x : Claim) → IsEntitled v s.claims → Sat x s.claims → conflicts x v ≡ true → meets x.reads v.writes ≡ true
  reads_written v x ent sat conflict =
      both_cases x.write_half by_write
      (λ r. sym (conflict_of_read x v (ap (λ c. c.writes) (sym sat.is) ∙ (claim_is sat.at sat.among).read_only (ap (λ c. c.write_half) sat.is ∙ r))) ∙ conflict)
    where
      by_write : x.write_half ≡ true → meets x.reads v.writes ≡ true
      by_write w =
          let is_x : IsClaim x = subst IsClaim sat.is (claim_is sat.at sat.among) in
          let is_v : IsClaim v = subst IsClaim ent.is (claim_is ent.at ent.among) in
          let share = conflict_shares x v is_x is_v w ent.write conflict in
          let h = aside ent.at sat.at ent.among sat.among (ap (λ c. c.write_half) ent.is ∙ ent.write) (ap (λ c. c.write_half) sat.is ∙ w) ent.active ent.unsatisfied sat.satisfied
          ((λ i. share_place (sat.is i) (ent.is i)) ∙ share) in
          let none : meets x.writes v.places ≡ false = (λ i. meets (sym sat.is i).writes (sym ent.is i).places) ∙ h.1 in
          let no_read : meets v.reads x.writes ≡ false = meets_symmetric v.reads x.writes ∙ apart_within_right x.writes v.reads v.places (is_v.reads_placed ent.write) none in
          let no_write : meets x.writes v.writes ≡ false = apart_within_right x.writes v.writes v.places (is_v.writes_placed ent.write) none in
          let no_write' : meets v.writes x.writes ≡ false = meets_symmetric v.writes x.writes ∙ no_write in
          elim (or_cases (touches v x.writes) (touches x v.writes) conflict) [
            | inl t ↦ contrary (touches v x.writes) t (λ i. no_read i || no_write' i)
            | inr t ↦ elim (or_cases (meets x.reads v.writes) (meets x.writes v.writes) t) [ inl r ↦ r | inr w' ↦ contrary (meets x.writes v.writes) w' no_write ]
          ]
