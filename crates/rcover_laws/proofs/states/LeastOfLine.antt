-- The least of the line in a state that accepted events lead to: it is entitled or satisfied, and only reads hold it up.
use Rattle.std.proofs.Common.{◌≡◌, true, false, not, ◌&&◌, ◌||◌, List, refl, sym, ap, subst, ◌∙◌, inl, inr, arith}
use Rattle.std.proofs.lemmas.Bool.{and_parts}
use Rattle.rclaim.specs.declared.claim.Claim.{Claim}
use Rattle.rclaim.specs.declared.event.Event.{Event}
use Rattle.rmodel.specs.declared.claimed.Claimed.{Claimed}
use Rattle.rmodel.specs.Claims.{share_place, is_active}
use Rattle.rmodel.specs.Laws.{shares_with_earlier}
use Rattle.rmodel.specs.Reached.{IsReached}
use Rattle.rmodel.specs.Rules.{is_earlier_write}
use Rattle.rmodel.specs.State.{LockState}
use Rattle.rmodel.specs.Steps.{next, Comes}
use Rattle.rmodel.specs.WellFormed.{EachPair, Rises, IsClaim, Distinct}
use Rattle.rmodel.proofs.ListFacts.{Among, contrary, false_from, all_at, none_from, pair_among}
use Rattle.rmodel.proofs.settling.Earliest.{earliest}
use Rattle.rmodel.proofs.settling.Keeping.{conflict_shares}
use Rattle.rmodel.proofs.reaching.Reached.{reached_next}
use Rattle.rmodel.proofs.reaching.Soundness.{read_of_half}
use Rattle.rcover_laws.specs.Line.{least_of}
use Rattle.rcover_laws.specs.Moments.{There, holds_at}
use Rattle.rcover_laws.proofs.runs.Moments.{not_held}
use Rattle.rcover_laws.proofs.states.AtRest.{IsEntitled, IsHeld, claim_is, holder, same_write, stamp_given}
use Rattle.rcover_laws.proofs.states.Lines.{earlier_of, in_line, IsOfLine, line_closed, line_within, least_is, least_below}
use Rattle.rcover_laws.proofs.states.ThroughEvent.{there_before}

-- a write that is there
pub record IsWriteThere (d : Claim) (xs : List Claimed) : Type 0 where
  pub there : There d xs
  pub write : d.write_half ≡ true

module _ (s : LockState) (reached : IsReached s) where
  rising : EachPair Rises s.claims
  rising = reached.sound.well_formed.rising

  -- writes of one stamp, or of one seat, are the same
  pub write_by_stamp : (d e : Claim) → IsWriteThere d s.claims → IsWriteThere e s.claims → d.stamp ≡ e.stamp → d ≡ e
  write_by_stamp d e a b stamps =
      sym a.there.is
      ∙ ap (λ x. x.claim) (same_write s reached a.there.at b.there.at a.there.among b.there.among (ap (λ x. x.write_half) a.there.is ∙ a.write) (ap (λ x. x.write_half) b.there.is ∙ b.write)
      (ap (λ x. x.stamp) a.there.is ∙ stamps ∙ ap (λ x. x.stamp) (sym b.there.is)))
      ∙ b.there.is

  pub write_by_seat : (d e : Claim) → IsWriteThere d s.claims → IsWriteThere e s.claims → d.seat ≡ e.seat → d ≡ e
  write_by_seat d e a b seats =
      elim (pair_among Distinct s.claims a.there.at b.there.at reached.sound.one_each a.there.among b.there.among) [
        | inl same ↦ sym a.there.is ∙ ap (λ x. x.claim) same ∙ b.there.is
        | inr (inl h) ↦ contrary a.there.at.claim.write_half (ap (λ x. x.write_half) a.there.is ∙ a.write) (read_of_half a.there.at.claim (h at_one).reads)
        | inr (inr h) ↦ contrary b.there.at.claim.write_half (ap (λ x. x.write_half) b.there.is ∙ b.write) (read_of_half b.there.at.claim (h (sym at_one)).reads)
      ]
    where
      at_one : a.there.at.claim.seat ≡ b.there.at.claim.seat
      at_one = ap (λ x. x.seat) a.there.is ∙ seats ∙ ap (λ x. x.seat) (sym b.there.is)

  module _ (c : Claim) (waits : IsWriteThere c s.claims) where
    pub of_line_there : (d : Claim) → IsOfLine c s.claims d → IsWriteThere d s.claims
    of_line_there d (inl is) = subst (λ (x : Claim). IsWriteThere x s.claims) (sym is) waits
    of_line_there d (inr there) = let h = in_line c s.claims d there in record { there = record { at = h.at; among = h.among; is = h.is }; write = (earlier_of c d h.earlier).write }

    abbrev least : Claim
    least = least_of c s.claims

    pub least_there : IsWriteThere (least_of c s.claims) s.claims
    least_there = of_line_there (least_of c s.claims) (least_is c s.claims)

    -- no earlier write shares a place with the least
    none_before : (x : Claimed) → Among x s.claims → is_earlier_write least x.claim ≡ true → share_place x.claim least ≡ true → ⊥
    none_before x there earlier share =
        let in_it = line_closed c s.claims rising least (least_is c s.claims) x there earlier share in
        let up = least_below c s.claims rising x.claim (inr in_it) in
        let down = (earlier_of least x.claim earlier).below in omega arith

    least_active : is_active least_there.there.at ≡ true
    least_active =
        let x = least_there.there in
        all_at (λ x. x.claim.write_half ≡ true → shares_with_earlier s.claims x.claim ≡ false → is_active x ≡ true) s.claims x.at (earliest s.claims s.claims reached.stable) x.among
        (ap (λ d. d.write_half) x.is ∙ least_there.write)
        (ap (shares_with_earlier s.claims) x.is ∙ none_from (λ v. is_earlier_write least v.claim && share_place v.claim least) s.claims (λ v in_v. false_from _ (λ h.
        let parts = and_parts (is_earlier_write least v.claim) (share_place v.claim least) h in none_before v in_v parts.0 parts.1)))

    pub least_entitled : holds_at (least_of c s.claims) s.claims ≡ false → IsEntitled (least_of c s.claims) s.claims
    least_entitled off = record {
      at = least_there.there.at;
      among = least_there.there.among;
      is = least_there.there.is;
      write = least_there.write;
      active = least_active;
      unsatisfied = not_held least s.claims least_there.there off;
    }

    -- what holds it up is a read
    pub least_held : IsEntitled (least_of c s.claims) s.claims → IsHeld (λ x. x.write_half ≡ false) (least_of c s.claims) s.claims
    least_held ent =
        let h = holder s reached least ent in
        record { by = h.by; right = false_from h.by.write_half (λ w. by_write h w); holds_up = h.holds_up; sat = h.sat }
      where
        by_write : (h : IsHeld (λ x. Unit {0}) least s.claims) → h.by.write_half ≡ true → ⊥
        by_write h w =
            let is_by : IsClaim h.by = subst IsClaim h.sat.is (claim_is s reached h.sat.at h.sat.among) in
            let is_least : IsClaim least = subst IsClaim ent.is (claim_is s reached ent.at ent.among) in
            let share = conflict_shares h.by least is_by is_least w ent.write h.holds_up.conflict in
            none_before h.sat.at h.sat.among (ap (is_earlier_write least) h.sat.is ∙ (ap (λ b. not b || is_earlier_write least h.by) (sym w) ∙ h.holds_up.before)) (ap (λ d. share_place d least) h.sat.is ∙ share)

  -- the line only loses claims
  module _ (e : Event) (comes : Comes s e) (c : Claim) (waits : IsWriteThere c s.claims) where
    pub line_shrinks : (d : Claim) → IsOfLine c (next s e).claims d → IsOfLine c s.claims d
    line_shrinks d (inl is) = inl is
    line_shrinks d (inr there) =
        inr (line_within c s.claims (next s e).claims rising (reached_next s e reached comes).sound.well_formed.rising
        (λ y in_y earlier. there_before s e reached comes y.claim (record { at = y; among = in_y; is = refl })
        (let below = (earlier_of c y.claim earlier).below in let given = stamp_given s reached waits.there.at waits.there.among in let same = ap (λ x. x.stamp) waits.there.is in omega arith)) d there)
