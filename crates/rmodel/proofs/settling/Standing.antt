-- Claims whose standing is the same, whatever they ask for and were granted: the rules see no difference.
use Rattle.std.proofs.Common.{◌≡◌, ℕ, ◌==◌, Bool, true, false, not, ◌&&◌, ◌||◌, cond, List, map, refl, sym, ap, subst, ◌∙◌}
use Rattle.std.specs.List.{AllZip}
use Rattle.std.specs.FinSet.{empty, union}
use Rattle.rset.specs.Sets.{Set, meets}
use Rattle.rclaim.specs.declared.claim.Claim.{Claim}
use Rattle.rmodel.specs.declared.claimed.Claimed.{Claimed}
use Rattle.rmodel.specs.Claims.{conflicts, share_place, is_active, is_satisfied, active_by, satisfied_by}
use Rattle.rmodel.specs.Rules.{is_kept_out, may_enter, is_held_up, is_kept, SettlesAt, Settles}
use Rattle.rmodel.specs.Steps.{asking, gets_asked, with_asked, given}
use Rattle.rmodel.specs.WellFormed.{EachPair, Entered, Apart, TakeTurns}
use Rattle.rmodel.proofs.ListFacts.{any_zip, zip_all, zip_weaker, zip_map_right, zip_same, second_itself, all_of_itself, pairs_of_zip}
use Rattle.rmodel.proofs.settling.Alike.{SameSatisfied, may_enter_alike, is_held_up_alike, same_satisfied_alike, is_kept_same}

-- one claim with one status
pub record SameStanding (x y : Claimed) : Type 0 where
  pub claim : y.claim ≡ x.claim
  pub status : y.status ≡ x.status

-- ---- the tests of the rules

module _ (t u : List Claimed) (same : AllZip SameStanding t u) where
  satisfied : AllZip SameSatisfied t u
  satisfied = zip_weaker SameStanding SameSatisfied (λ x y h. record { claim = sym h.claim; satisfied = ap satisfied_by (sym h.status) }) t u same

  kept_out : (c : Claim) → is_kept_out t c ≡ is_kept_out u c
  kept_out c = any_zip SameStanding _ _ (λ x y h. (λ i. (sym h.claim i).write_half && active_by (sym h.status i) && conflicts (sym h.claim i) c)) t u same

  enters : (c : Claim) → may_enter t c ≡ may_enter u c
  enters c = may_enter_alike c.stamp t u (same_satisfied_alike c.stamp t u satisfied) c refl

  held_up : (c : Claim) → is_held_up t c ≡ is_held_up u c
  held_up c = is_held_up_alike c.stamp t u (same_satisfied_alike c.stamp t u satisfied) c refl

  settles_at : (x y : Claimed) → SettlesAt t t x x → SameStanding x y → SettlesAt u u y y
  settles_at x y at h = record {
    same = refl;
    asked = refl;
    granted = refl;
    reads = λ r.
        ap satisfied_by h.status ∙ at.reads (half ∙ r) ∙ (λ i. satisfied_by (sym h.status i) || not (is_kept_out t (sym h.claim i))) ∙ ap (λ b. is_satisfied y || not b) (kept_out y.claim);
    entitlement = λ w. ap active_by h.status ∙ at.entitlement (half ∙ w) ∙ (λ i. active_by (sym h.status i) || may_enter t (sym h.claim i)) ∙ ap (λ b. is_active y || b) (enters y.claim);
    satisfaction = λ w.
        ap satisfied_by h.status ∙ at.satisfaction (half ∙ w)
        ∙ (λ i. satisfied_by (sym h.status i) || (active_by (sym h.status i) && not (is_held_up t (sym h.claim i)))) ∙ ap (λ b. is_satisfied y || (is_active y && not b)) (held_up y.claim);
    kept_reads = λ r.
        ap active_by h.status ∙ at.kept_reads (half ∙ r) ∙ (λ i. satisfied_by (sym h.status i) || is_kept t (sym h.claim i)) ∙ ap (λ b. is_satisfied y || b) (is_kept_same t u satisfied y.claim);
  }
    where
      half : x.claim.write_half ≡ y.claim.write_half
      half = ap (λ c. c.write_half) (sym h.claim)

  pub settles_standing : Settles t t → Settles u u
  settles_standing settles =
      second_itself (λ x y. SettlesAt u u y y) (SettlesAt u u) (λ x y h. h) t u
      (zip_all (λ x. SettlesAt t t x x) SameStanding (λ x y. SettlesAt u u y y) settles_at t u (all_of_itself (SettlesAt t t) t settles) same)

  pub entered_standing : EachPair Entered t → EachPair Entered u
  entered_standing pairs = pairs_of_zip Entered SameStanding Entered (λ x x' y y' e a b. λ w w' share active.
      let had = e (ap (λ c. c.write_half) (sym a.claim) ∙ w) (ap (λ c. c.write_half) (sym b.claim) ∙ w') ((λ i. share_place (sym a.claim i) (sym b.claim i)) ∙ share) (ap active_by (sym b.status) ∙ active) in
      (ap satisfied_by a.status ∙ had.0, (λ i. meets (a.claim i).writes (b.claim i).places) ∙ had.1)) t u pairs same

  pub apart_standing : EachPair Apart t → EachPair Apart u
  apart_standing pairs = pairs_of_zip Apart SameStanding Apart (λ x x' y y' e a b. λ sat sat'.
      (λ i. conflicts (a.claim i) (b.claim i)) ∙ e (ap satisfied_by (sym a.status) ∙ sat) (ap satisfied_by (sym b.status) ∙ sat')) t u pairs same

  pub turns_standing : EachPair TakeTurns t → EachPair TakeTurns u
  turns_standing pairs = pairs_of_zip TakeTurns SameStanding TakeTurns (λ x x' y y' e a b. λ seats active.
      ap satisfied_by a.status ∙ e (ap (λ c. c.seat) (sym a.claim) ∙ seats ∙ ap (λ c. c.seat) b.claim) (ap active_by (sym b.status) ∙ active)) t u pairs same

-- ---- an ask, and what is granted

pub asking_standing : (seat : ℕ) (part : Set) (xs : List Claimed) → AllZip SameStanding xs (map (asking seat part) xs)
asking_standing seat part xs = zip_map_right (asking seat part) (λ x y. x ≡ y) SameStanding (λ x y e. subst (λ (z : Claimed). SameStanding z (asking seat part y)) (sym e) (at y (y.claim.seat == seat))) xs xs (zip_same (λ x y. x ≡ y) (λ x. refl) xs)
  where
    at : (y : Claimed) (b : Bool) → SameStanding y (cond b (record y { asked = part }) y)
    at y true = record { claim = refl; status = refl }
    at y false = record { claim = refl; status = refl }

pub given_standing : (xs : List Claimed) → AllZip SameStanding xs (given xs)
unfolding given
given_standing xs = zip_map_right (with_asked xs) (λ x y. x ≡ y) SameStanding (λ x y e. subst (λ (z : Claimed). SameStanding z (with_asked xs y)) (sym e) (at y (gets_asked xs y))) xs xs (zip_same (λ x y. x ≡ y) (λ x. refl) xs)
  where
    at : (y : Claimed) (b : Bool) → SameStanding y (cond b (record y { asked = empty; granted = union y.granted y.asked }) y)
    at y true = record { claim = refl; status = refl }
    at y false = record { claim = refl; status = refl }
