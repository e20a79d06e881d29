-- Which claims can keep a claim waiting: those of other seats, or the read half of the same upgrade.
use Rattle.std.proofs.Common.{◌≡◌, ◌≢◌, true, false, sym, ap, ◌∙◌, inl, inr}
use Rattle.rset.specs.Sets.{Set}
use Rattle.rclaim.specs.declared.claim.Claim.{Claim}
use Rattle.rmodel.specs.declared.claimed.Claimed.{Claimed}
use Rattle.rmodel.specs.Claims.{is_active, is_satisfied, is_read_half, is_nested}
use Rattle.rmodel.specs.Reached.{IsReached}
use Rattle.rmodel.specs.State.{LockState}
use Rattle.rmodel.specs.WellFormed.{Distinct, TakeTurns}
use Rattle.rmodel.proofs.ListFacts.{Among, contrary, pair_among, pairs_both}
use Rattle.rmodel.proofs.reaching.Soundness.{active_of_satisfied, read_of_half, same_seat}
use Rattle.rcover_laws.specs.Waits.{ReadWaits, AskWaits}
use Rattle.rcover_laws.proofs.states.AtRest.{Sat, IsEntitled, one_claim}
use Rattle.rcover_laws.proofs.states.Asking.{ask_entitled}

module _ (s : LockState) (reached : IsReached s) where
  -- an entitled or satisfied claim is of another seat than a read that waits, if it is another claim
  pub elsewhere : (r x : Claimed) → Among r s.claims → Among x s.claims → r.claim.write_half ≡ false → is_satisfied r ≡ false → is_active x ≡ true → (x ≡ r → ⊥) → x.claim.seat ≢ r.claim.seat
  elsewhere r x in_r in_x read unsat active other seats =
      elim (pair_among (λ x y. Distinct x y × TakeTurns x y) s.claims x r
      (pairs_both Distinct TakeTurns (λ x y. Distinct x y × TakeTurns x y) (λ x y d t. (d, t)) s.claims reached.sound.one_each reached.turns) in_x in_r) [
        | inl same ↦ other same
        | inr (inl h) ↦ contrary r.claim.write_half (h.0 seats).writes read
        | inr (inr h) ↦ contrary (is_satisfied r) (h.1 (sym seats) active) unsat
      ]

  pub satisfied_elsewhere : (c x : Claim) → ReadWaits c s.claims → Sat x s.claims → x.seat ≢ c.seat
  satisfied_elsewhere c x w sat seats =
      elsewhere w.at sat.at w.among sat.among (ap (λ d. d.write_half) w.is ∙ w.read) w.unsatisfied (active_of_satisfied sat.at.status sat.satisfied)
      (λ same. contrary (is_satisfied sat.at) sat.satisfied (ap is_satisfied same ∙ w.unsatisfied)) (ap (λ d. d.seat) sat.is ∙ seats ∙ ap (λ d. d.seat) (sym w.is))

  -- a satisfied claim of the seat of an entitled write is the read half of its upgrade
  pub own_half : (v x : Claim) → IsEntitled v s.claims → Sat x s.claims → x.seat ≡ v.seat → (is_read_half x ≡ true) × (x.stamp ≡ v.stamp)
  own_half v x ent sat seats =
      elim (pair_among Distinct s.claims sat.at ent.at reached.sound.one_each sat.among ent.among) [
        | inl same ↦ contrary (is_satisfied sat.at) sat.satisfied (ap is_satisfied same ∙ ent.unsatisfied)
        | inr (inl h) ↦ let halves = h at_one in (ap is_read_half (sym sat.is) ∙ halves.reads, ap (λ d. d.stamp) (sym sat.is) ∙ halves.stamp ∙ ap (λ d. d.stamp) ent.is)
        | inr (inr h) ↦ contrary ent.at.claim.write_half (ap (λ d. d.write_half) ent.is ∙ ent.write) (read_of_half ent.at.claim (h (sym at_one)).reads)
      ]
    where
      at_one : sat.at.claim.seat ≡ ent.at.claim.seat
      at_one = ap (λ d. d.seat) sat.is ∙ seats ∙ ap (λ d. d.seat) (sym ent.is)

  -- a satisfied claim is of another seat than an ask that waits
  pub ask_elsewhere : (c : Claim) (part : Set) (x : Claim) → AskWaits c part s.claims → Sat x s.claims → x.seat ≢ c.seat
  ask_elsewhere c part x w sat seats =
      let ent = ask_entitled s reached c part w in
      let w_unsat = is_unsatisfied w.at w.among ent.at ent.among (w.is ∙ sym ent.is) in
      let same = same_seat s.claims w.at sat.at reached.sound.one_each w.among sat.among (ap (λ d. d.seat) w.is ∙ sym seats ∙ ap (λ d. d.seat) (sym sat.is)) (ap (λ d. is_nested d.kind) w.is ∙ w.nested) in
      contrary (is_satisfied sat.at) sat.satisfied (ap is_satisfied (sym same) ∙ (w_unsat ∙ ent.unsatisfied))
    where
      is_unsatisfied : (a : Claimed) → Among a s.claims → (b : Claimed) → Among b s.claims → a.claim ≡ b.claim → is_satisfied a ≡ is_satisfied b
      is_unsatisfied a in_a b in_b same = ap is_satisfied (one_claim s reached a b in_a in_b same)
