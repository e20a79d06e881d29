-- What one event does to the claims that wait and to those that keep them waiting.
use Rattle.std.proofs.Common.{◌≡◌, ◌<◌, true, false, not, ◌&&◌, ◌||◌, nat_lt, List, sym, ap, ◌∙◌, inl, inr, arith}
use Rattle.std.proofs.lemmas.Bool.{or_cases, or_parts, and_parts, and_from, ltb-true}
use Rattle.rclaim.specs.declared.claim.Claim.{Claim}
use Rattle.rclaim.specs.declared.event.Event.{Event}
use Rattle.rmodel.specs.declared.claimed.Claimed.{Claimed}
use Rattle.rmodel.specs.Claims.{conflicts, share_place, is_active, is_satisfied, active_by, satisfied_by}
use Rattle.rmodel.specs.Laws.{keeps_out}
use Rattle.rmodel.specs.Reached.{IsReached}
use Rattle.rmodel.specs.Rules.{is_earlier_write, is_kept_out}
use Rattle.rmodel.specs.Settling.{settled}
use Rattle.rmodel.specs.State.{LockState}
use Rattle.rmodel.specs.Steps.{changed, next, Comes}
use Rattle.rmodel.proofs.ListFacts.{Among, contrary, none_among, passing}
use Rattle.rmodel.proofs.settling.Behind.{so_from}
use Rattle.rmodel.proofs.settling.Keeping.{conflicts_symmetric, conflict_shares, not_false}
use Rattle.rmodel.proofs.settling.OneSettlement.{both_cases}
use Rattle.rmodel.proofs.settling.Stable.{keeps_on}
use Rattle.rmodel.proofs.reaching.Came.{WasThere, origin, Moves, came, goes}
use Rattle.rmodel.proofs.reaching.Going.{satisfied_stays}
use Rattle.rmodel.proofs.reaching.Reached.{reached_next}
use Rattle.rcover_laws.specs.Moments.{There}
use Rattle.rcover_laws.proofs.states.AtRest.{Sat, IsEntitled, HoldsUp, one_claim, one_keeper, stamp_given, claim_is, earlier_done}

module _ (s : LockState) (e : Event) (reached : IsReached s) (comes : Comes s e) where
  abbrev mid : List Claimed
  mid = (changed s e).claims

  abbrev after_it : List Claimed
  after_it = (next s e).claims

  claim_moved : (x y : Claimed) → Moves s e x y → y.claim ≡ x.claim
  claim_moved x y m = m.given.claim ∙ m.by_rule.same

  -- a claim that was satisfied stays so, and one that keeps a read out goes on doing so
  satisfied_moved : (x y : Claimed) → Moves s e x y → is_satisfied x ≡ true → is_satisfied y ≡ true
  satisfied_moved x y m sat = ap satisfied_by m.given.status ∙ satisfied_stays mid (settled mid) x m.mid m.by_rule sat

  keeps_moved : (c : Claim) (x y : Claimed) → Moves s e x y → keeps_out c x ≡ true → keeps_out c y ≡ true
  keeps_moved c x y m keeps =
      (λ i. (m.given.claim i).write_half && active_by (m.given.status i) && conflicts (m.given.claim i) c) ∙ keeps_on mid (settled mid) c x m.mid m.by_rule keeps

  -- among the claims before all are settled, each whose stamp was given out before the event was there
  pub was_there : (x : Claimed) → Among x mid → x.claim.stamp < s.issued → WasThere s x
  was_there x there below = elim (origin s e comes x there) [ inl was ↦ was | inr new ↦ (let stamped = new.stamped in absurd (omega arith)) ]

  -- so was a claim that is entitled or satisfied
  was_active : (x : Claimed) → Among x mid → is_active x ≡ true → WasThere s x
  was_active x there active = elim (origin s e comes x there) [
    | inl was ↦ was
    | inr new ↦ contrary (is_active x) active (ap active_by new.waits)
  ]

  was_satisfied : (x : Claimed) → Among x mid → is_satisfied x ≡ true → WasThere s x
  was_satisfied x there sat = elim (origin s e comes x there) [
    | inl was ↦ was
    | inr new ↦ contrary (is_satisfied x) sat (ap satisfied_by new.waits)
  ]

  -- a claim of a smaller stamp than those to come was there before the event
  pub there_before : (c : Claim) → There c after_it → c.stamp < s.issued → There c s.claims
  there_before c h below =
      let m = came s e reached comes h.at h.among in
      let same : m.0.claim ≡ c = sym (claim_moved m.0 h.at m.1) ∙ h.is in
      let stamps : m.0.claim.stamp < s.issued = (let eq = ap (λ c. c.stamp) same in omega arith) in
      let w = was_there m.0 m.1.in_changed stamps in
      record { at = w.was; among = w.there; is = sym w.still.claim ∙ same }

  -- a claim that is still there stays satisfied
  pub sat_next : (c : Claim) → Sat c s.claims → There c after_it → Sat c after_it
  sat_next c sat h =
      let m = came s e reached comes h.at h.among in
      let same : m.0.claim ≡ c = sym (claim_moved m.0 h.at m.1) ∙ h.is in
      let stamps : m.0.claim.stamp < s.issued = (let eq = ap (λ c. c.stamp) (same ∙ sym sat.is) in let below = stamp_given s reached sat.at sat.among in omega arith) in
      let w = was_there m.0 m.1.in_changed stamps in
      let one : w.was ≡ sat.at = one_claim s reached w.was sat.at w.there sat.among (sym w.still.claim ∙ same ∙ sym sat.is) in
      record { at = h.at; among = h.among; is = h.is; satisfied = satisfied_moved m.0 h.at m.1 (ap satisfied_by w.still.status ∙ ap is_satisfied one ∙ sat.satisfied) }

  -- the write that keeps a read waiting after the event kept it waiting before
  pub same_keeper : (r r' v w : Claimed) → Among r s.claims → Among r' after_it → r'.claim ≡ r.claim → r.claim.write_half ≡ false → is_satisfied r' ≡ false
      → Among v s.claims → keeps_out r.claim v ≡ true → Among w after_it → keeps_out r.claim w ≡ true → w.claim ≡ v.claim
  same_keeper r r' v w in_r in_r' same read unsat in_v keeps_v in_w keeps_w =
      let m = came s e reached comes r' in_r' in
      let is : m.1.mid.claim ≡ r.claim = sym m.1.given.claim ∙ same in
      let unsat_mid : is_satisfied m.1.mid ≡ false = ap satisfied_by (sym m.1.given.status) ∙ unsat in
      let none = or_parts (is_satisfied m.0) (not (is_kept_out mid m.1.mid.claim)) (sym (m.1.by_rule.reads (ap (λ c. c.write_half) is ∙ read)) ∙ unsat_mid) in
      let kept : is_kept_out mid r.claim ≡ true = ap (is_kept_out mid) (sym is) ∙ so_from (is_kept_out mid m.1.mid.claim) none.1 in
      let u = passing (keeps_out r.claim) mid kept in
      let parts = and_parts (u.0.claim.write_half && is_active u.0) (conflicts u.0.claim r.claim) u.2 in
      let was = was_active u.0 u.1 (and_parts u.0.claim.write_half (is_active u.0) parts.0).1 in
      let keeps_was : keeps_out r.claim was.was ≡ true =
      (λ i. (sym was.still.claim i).write_half && active_by (sym was.still.status i) && conflicts (sym was.still.claim i) r.claim) ∙ u.2 in
      let one : was.was ≡ v = one_keeper s reached r v was.was in_r read in_v keeps_v was.there keeps_was in
      let g = goes s e reached comes u.0 u.1 in
      let keeps_g : keeps_out r.claim g.0 ≡ true = keeps_moved r.claim u.0 g.0 g.1 u.2 in
      let two : w ≡ g.0 = one_keeper (next s e) (reached_next s e reached comes) r' g.0 w in_r' (ap (λ c. c.write_half) same ∙ read) g.1.in_next (ap (λ c. keeps_out c g.0) same ∙ keeps_g) in_w (ap (λ c. keeps_out c w) same ∙ keeps_w) in
      ap (λ z. z.claim) two ∙ claim_moved u.0 g.0 g.1 ∙ was.still.claim ∙ ap (λ z. z.claim) one

  -- an entitled write that stays entitled is so while the claims are settled
  entitled_between : (v : Claim) → IsEntitled v s.claims → IsEntitled v after_it → (x : Claimed) × Among x mid × (x.claim ≡ v) × (is_active x ≡ true)
  entitled_between v ent ent' =
      let m = came s e reached comes ent'.at ent'.among in
      let same : m.0.claim ≡ v = sym (claim_moved m.0 ent'.at m.1) ∙ ent'.is in
      let stamps : m.0.claim.stamp < s.issued = (let eq = ap (λ c. c.stamp) (same ∙ sym ent.is) in let below = stamp_given s reached ent.at ent.among in omega arith) in
      let w = was_there m.0 m.1.in_changed stamps in
      let one : w.was ≡ ent.at = one_claim s reached w.was ent.at w.there ent.among (sym w.still.claim ∙ same ∙ sym ent.is) in
      (m.0, m.1.in_changed, same, ap active_by w.still.status ∙ ap is_active one ∙ ent.active)

  -- so a read that conflicts with it does not come to be satisfied
  held_read : (v x : Claim) → IsEntitled v s.claims → IsEntitled v after_it → conflicts x v ≡ true → x.write_half ≡ false
      → (x0 y : Claimed) → Moves s e x0 y → y.claim ≡ x → is_satisfied y ≡ true → is_satisfied x0 ≡ false → ⊥
  held_read v x ent ent' conflict read x0 y m is sat unsat =
      let mid_sat : is_satisfied m.mid ≡ true = ap satisfied_by (sym m.given.status) ∙ sat in
      let mid_is : m.mid.claim ≡ x = sym m.given.claim ∙ is in
      let between = entitled_between v ent ent' in
      let keeps : keeps_out m.mid.claim between.0 ≡ true =
      and_from (between.0.claim.write_half && is_active between.0) (conflicts between.0.claim m.mid.claim)
      (and_from between.0.claim.write_half (is_active between.0) (ap (λ c. c.write_half) between.2 ∙ ent.write) between.3)
      ((λ i. conflicts (between.2 i) (mid_is i)) ∙ conflicts_symmetric v x ∙ conflict) in
      elim (or_cases (is_satisfied x0) (not (is_kept_out mid m.mid.claim)) (sym (m.by_rule.reads (ap (λ c. c.write_half) mid_is ∙ read)) ∙ mid_sat)) [
        | inl was ↦ contrary (is_satisfied x0) was unsat
        | inr free ↦ contrary (keeps_out m.mid.claim between.0) keeps (none_among (keeps_out m.mid.claim) mid between.0 (not_false (is_kept_out mid m.mid.claim) free) between.1)
      ]

  -- what holds a write up after the event held it up before, if the write is entitled both before and after
  pub held_before : (v x : Claim) → IsEntitled v s.claims → IsEntitled v after_it → HoldsUp v x → Sat x after_it → Sat x s.claims
  held_before v x ent ent' holds sat =
      both_cases (is_satisfied m.0) satisfied_before
      (λ unsat. both_cases x.write_half (λ w. by_write w) (λ r. absurd (held_read v x ent ent' holds.conflict r m.0 sat.at m.1 sat.is sat.satisfied unsat)))
    where
      m : (x0 : Claimed) × Moves s e x0 sat.at
      m = came s e reached comes sat.at sat.among

      same : m.0.claim ≡ x
      same = sym (claim_moved m.0 sat.at m.1) ∙ sat.is

      satisfied_before : is_satisfied m.0 ≡ true → Sat x s.claims
      satisfied_before was_sat =
          let w = was_satisfied m.0 m.1.in_changed was_sat in
          record { at = w.was; among = w.there; is = sym w.still.claim ∙ same; satisfied = ap satisfied_by (sym w.still.status) ∙ was_sat }

      earlier : x.write_half ≡ true → x.stamp < v.stamp
      earlier w =
          let h : is_earlier_write v x ≡ true = ap (λ b. not b || is_earlier_write v x) (sym w) ∙ holds.before in
          ltb-true x.stamp v.stamp (and_parts x.write_half (nat_lt x.stamp v.stamp) h).1

      -- an earlier write that conflicts with an entitled one is satisfied
      by_write : x.write_half ≡ true → Sat x s.claims
      by_write w =
          let less = earlier w in
          let stamps : m.0.claim.stamp < s.issued =
          (let eq = ap (λ c. c.stamp) same in let eq' = ap (λ c. c.stamp) ent.is in let below = stamp_given s reached ent.at ent.among in omega arith) in
          let was = was_there m.0 m.1.in_changed stamps in
          let is : was.was.claim ≡ x = sym was.still.claim ∙ same in
          let w' : was.was.claim.write_half ≡ true = ap (λ c. c.write_half) is ∙ w in
          let wv : ent.at.claim.write_half ≡ true = ap (λ c. c.write_half) ent.is ∙ ent.write in
          let share : share_place was.was.claim ent.at.claim ≡ true =
          conflict_shares was.was.claim ent.at.claim (claim_is s reached was.was was.there) (claim_is s reached ent.at ent.among) w' wv ((λ i. conflicts (is i) (ent.is i)) ∙ holds.conflict) in
          let below : was.was.claim.stamp < ent.at.claim.stamp = (let eq = ap (λ c. c.stamp) is in let eq' = ap (λ c. c.stamp) ent.is in omega arith) in
          record { at = was.was; among = was.there; is = is; satisfied = (earlier_done s reached was.was ent.at was.there ent.among w' wv below share ent.active).0 }
