-- What a state shows of a claim is that it waits.
use Rattle.std.proofs.Common.{◌≡◌, ◌==◌, nat_lt, true, false, not, ◌&&◌, sym, ap, ◌∙◌, inl, inr}
use Rattle.std.proofs.lemmas.Bool.{and_parts, and_from, eq-eqb}
use Rattle.std.specs.FinSet.{empty, len, intersection}
use Rattle.rset.specs.Sets.{Set}
use Rattle.rset.proofs.SetLemmas.{meets_by_intersection, meets_empty_left}
use Rattle.rbound.proofs.DeclaredLemmas.{filled_by_number}
use Rattle.rclaim.specs.declared.claim.Claim.{Claim}
use Rattle.rmodel.specs.declared.claimed.Claimed.{Claimed}
use Rattle.rmodel.specs.Claims.{is_nested, is_satisfied, is_upgrade}
use Rattle.rmodel.specs.Holds.{held_by, is_nothing, nothing}
use Rattle.rmodel.specs.Reached.{IsReached}
use Rattle.rmodel.specs.State.{LockState}
use Rattle.rmodel.specs.WellFormed.{Distinct}
use Rattle.rmodel.proofs.ListFacts.{Among, contrary, false_from, all_at, all_from, none_among, pair_among}
use Rattle.rmodel.proofs.reaching.HeldBySeat.{nothing_of, is_nothing_of, held_of_plain, held_of_nested}
use Rattle.rmodel.proofs.reaching.Soundness.{read_of_half}
use Rattle.rmodel.proofs.settling.Keeping.{not_false}
use Rattle.rmodel.proofs.settling.OneSettlement.{both_cases}
use Rattle.rmodel.proofs.theorems.Something.{granted_some}
use Rattle.rcover_laws.specs.Told.{is_rising_half, waits_first, has_read_claim, waits_to_rise, waits_for_ask}
use Rattle.rcover_laws.specs.Waits.{ReadWaits, WriteWaits, AskWaits}
use Rattle.rcover_laws.proofs.states.AtRest.{claim_is, parts_of}
use Rattle.rcover_laws.proofs.told.OneClaim.{StandsAs}

module _ (s : LockState) (reached : IsReached s) where
  -- a claim that holds nothing is not satisfied
  holds_nothing : (x : Claimed) → Among x s.claims → is_nothing (held_by x) ≡ true → is_satisfied x ≡ false
  holds_nothing x there h = false_from (is_satisfied x) (λ sat.
      let none = nothing_of (held_by x) h in
      both_cases (is_nested x.claim.kind)
      (λ nested.
      granted_some x (parts_of s reached x there) nested (all_at (λ y. is_satisfied y ≡ true → y.asked ≡ empty) s.claims x reached.answered there sat)
      (ap (λ g. g.reads) (sym (held_of_nested x nested) ∙ none)) (ap (λ g. g.writes) (sym (held_of_nested x nested) ∙ none)))
      (λ plain. both_cases x.claim.write_half
      (λ w. (claim_is s reached x there).writes_some w (ap (λ g. g.writes) (sym (held_of_plain x plain sat) ∙ none)))
      (λ r. (claim_is s reached x there).reads_some r (ap (λ g. g.reads) (sym (held_of_plain x plain sat) ∙ none)))))

  pub read_waits : (c : Claim) → c.write_half ≡ false → StandsAs waits_first c s.claims → ReadWaits c s.claims
  read_waits c read h = record {
    at = h.at;
    among = h.among;
    is = h.is;
    read = read;
    unsatisfied = holds_nothing h.at h.among (and_parts (is_nothing (held_by h.at)) (not (is_rising_half h.at.claim)) h.passes).0;
  }

  pub write_waits : (c : Claim) → c.write_half ≡ true → StandsAs waits_first c s.claims → WriteWaits c s.claims
  write_waits c write h =
      record {
        at = h.at;
        among = h.among;
        is = h.is;
        write = write;
        unsatisfied = holds_nothing h.at h.among parts.0;
        alone = all_from (λ y. y.claim.seat ≡ c.seat → y.claim.write_half ≡ true) s.claims alone;
      }
    where
      parts : (is_nothing (held_by h.at) ≡ true) × (not (is_rising_half h.at.claim) ≡ true)
      parts = and_parts (is_nothing (held_by h.at)) (not (is_rising_half h.at.claim)) h.passes

      at_write : h.at.claim.write_half ≡ true
      at_write = ap (λ d. d.write_half) h.is ∙ write

      alone : (y : Claimed) → Among y s.claims → y.claim.seat ≡ c.seat → y.claim.write_half ≡ true
      alone y in_y seats =
          elim (pair_among Distinct s.claims y h.at reached.sound.one_each in_y h.among) [
            | inl same ↦ ap (λ (z : Claimed). z.claim.write_half) same ∙ at_write
            | inr (inl two) ↦
                contrary (is_rising_half h.at.claim) (and_from (is_upgrade h.at.claim.kind) h.at.claim.write_half (two (seats ∙ ap (λ d. d.seat) (sym h.is))).upgrade at_write) (not_false (is_rising_half h.at.claim) parts.1)
            | inr (inr two) ↦ contrary h.at.claim.write_half at_write (read_of_half h.at.claim (two (ap (λ d. d.seat) h.is ∙ sym seats)).reads)
          ]

  pub rise_waits : (c : Claim) → StandsAs waits_to_rise c s.claims → WriteWaits c s.claims
  rise_waits c h =
      record {
        at = h.at;
        among = h.among;
        is = h.is;
        write = ap (λ d. d.write_half) (sym h.is) ∙ (and_parts (is_upgrade h.at.claim.kind) h.at.claim.write_half first.0).1;
        unsatisfied = not_false (is_satisfied h.at) parts.1;
        alone = all_from (λ y. y.claim.seat ≡ c.seat → y.claim.write_half ≡ true) s.claims alone;
      }
    where
      parts : ((is_rising_half h.at.claim && not (has_read_claim s.claims h.at.claim)) ≡ true) × (not (is_satisfied h.at) ≡ true)
      parts = and_parts (is_rising_half h.at.claim && not (has_read_claim s.claims h.at.claim)) (not (is_satisfied h.at)) h.passes

      first : (is_rising_half h.at.claim ≡ true) × (not (has_read_claim s.claims h.at.claim) ≡ true)
      first = and_parts (is_rising_half h.at.claim) (not (has_read_claim s.claims h.at.claim)) parts.0

      alone : (y : Claimed) → Among y s.claims → y.claim.seat ≡ c.seat → y.claim.write_half ≡ true
      alone y in_y seats =
          both_cases y.claim.write_half (λ w. w)
          (λ r. contrary ((y.claim.seat == h.at.claim.seat) && not y.claim.write_half)
          (and_from (y.claim.seat == h.at.claim.seat) (not y.claim.write_half) (eq-eqb y.claim.seat h.at.claim.seat (seats ∙ ap (λ d. d.seat) (sym h.is))) (ap not r))
          (none_among (λ y. (y.claim.seat == h.at.claim.seat) && not y.claim.write_half) s.claims y (not_false (has_read_claim s.claims h.at.claim) first.1) in_y))

  pub ask_waits : (c : Claim) (part : Set) → (h : StandsAs waits_for_ask c s.claims) → h.at.asked ≡ part → AskWaits c part s.claims
  ask_waits c part h asks =
      record {
        at = h.at;
        among = h.among;
        is = h.is;
        nested = ap (λ d. is_nested d.kind) (sym h.is) ∙ nested;
        asks = asks;
        some = λ none. filled_by_number h.at.asked parts.1 (asks ∙ none);
        holds_some = λ none. contrary (is_nothing (held_by h.at)) (is_nothing_of (held_by h.at) (held_of_nested h.at nested ∙ all_empty none)) (not_false (is_nothing (held_by h.at)) parts.0);
      }
    where
      parts : (not (is_nothing (held_by h.at)) ≡ true) × (nat_lt 0 (len h.at.asked) ≡ true)
      parts = and_parts (not (is_nothing (held_by h.at))) (nat_lt 0 (len h.at.asked)) h.passes

      nested : is_nested h.at.claim.kind ≡ true
      nested = both_cases (is_nested h.at.claim.kind) (λ n. n) (λ plain. absurd (filled_by_number h.at.asked parts.1 ((parts_of s reached h.at h.among).of_others plain).0))

      none_left : (t : Set) → intersection empty t ≡ empty
      none_left t = meets_by_intersection empty t (meets_empty_left t)

      all_empty : h.at.granted ≡ empty → record { reads = intersection h.at.granted h.at.claim.reads; writes = intersection h.at.granted h.at.claim.writes } ≡ nothing
      all_empty none = (λ i. record { reads = (ap (λ g. intersection g h.at.claim.reads) none ∙ none_left h.at.claim.reads) i; writes = (ap (λ g. intersection g h.at.claim.writes) none ∙ none_left h.at.claim.writes) i })
