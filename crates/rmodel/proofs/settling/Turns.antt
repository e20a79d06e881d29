-- The halves of an upgrade take turns.
use Rattle.std.proofs.Common.{◌≡◌, true, false, not, ◌&&◌, List, sym, ap, ◌∙◌, inl, inr}
use Rattle.std.proofs.lemmas.Bool.{or_left, or_right, and_parts, and_from}
use Rattle.std.specs.List.{AllZip}
use Rattle.rset.specs.Sets.{Set, meets}
use Rattle.rset.proofs.SetLemmas.{meets_itself}
use Rattle.std.proofs.lemmas.Bool.{true_from_ne_false}
use Rattle.rclaim.specs.declared.claim.Claim.{Claim}
use Rattle.rmodel.specs.declared.claimed.Claimed.{Claimed}
use Rattle.rmodel.specs.Claims.{conflicts, touches, is_active, is_satisfied, is_read_half, is_upgrade}
use Rattle.rmodel.specs.Laws.{keeps_out, TurnsAreTaken, HalvesTakeTurns}
use Rattle.rmodel.specs.Rules.{is_kept_out, may_enter, SettlesAt, Settles}
use Rattle.rmodel.specs.WellFormed.{EachPair, IsClaim, Distinct, AreHalves, TakeTurns, Apart, AreExclusive, AreAdmittedBy}
use Rattle.rmodel.proofs.ListFacts.{Among, contrary, false_from, passing, all_at, pair_among, pairs_both, pairs_with, pairs_of_zip, zip_among, zip_partner, zip_weaker}
use Rattle.rmodel.proofs.settling.OneSettlement.{both_cases}
use Rattle.rmodel.proofs.settling.OneWrite.{one_keeps}
use Rattle.rmodel.proofs.settling.Admitted.{admitted_settled}
use Rattle.rmodel.proofs.settling.Keeping.{conflicts_symmetric, exclusive_settled}
use Rattle.rmodel.proofs.reaching.Soundness.{active_of_satisfied, same_claims, distinct_same, read_of_half}

-- the write half conflicts with its read half
halves_conflict : (r w : Claim) → IsClaim r → AreHalves r w → r.write_half ≡ false → conflicts w r ≡ true
halves_conflict r w is halves read =
    or_left (touches r w.writes) (touches w r.writes)
    (or_left (meets r.reads w.writes) (meets r.writes w.writes)
    (ap (meets r.reads) halves.same ∙ true_from_ne_false (meets r.reads r.reads) (λ none. is.reads_some read (meets_itself r.reads none))))

module _ (groups : List Set) (s t : List Claimed) (settles : Settles s t) (exclusive : AreExclusive s) (admitted : AreAdmittedBy groups s) (distinct : EachPair Distinct s) where
  exclusive_t : AreExclusive t
  exclusive_t = exclusive_settled s t exclusive settles

  -- a claim before and after
  record Moved (x y : Claimed) : Type 0 where
    by_rule : SettlesAt s t x y
    in_s : Among x s
    in_t : Among y t

  -- the halves of an upgrade before
  record Was (x x' : Claimed) : Type 0 where
    turns : TakeTurns x x'
    halves : Distinct x x'

  -- a write of s that is the write half is its claim in s
  only_half : (v y0 : Claimed) → Among v s → Among y0 s → v.claim ≡ y0.claim → v.claim.write_half ≡ true → v ≡ y0
  only_half v y0 in_v in_y same writes =
      elim (pair_among Distinct s v y0 distinct in_v in_y) [
        | inl is ↦ is
        | inr (inl first) ↦ contrary v.claim.write_half writes (read_of_half v.claim (first (ap (λ c. c.seat) same)).reads)
        | inr (inr last) ↦
            contrary v.claim.write_half writes (ap (λ c. c.write_half) same ∙ read_of_half y0.claim (last (ap (λ c. c.seat) (sym same))).reads)
      ]

  -- a read half that is kept out by a write of s is not kept out by its own write half
  kept_by_other : (x x' y y' : Claimed) → Moved x y → Moved x' y' → AreHalves y.claim y'.claim → is_active y' ≡ true → is_active x' ≡ false → is_kept_out s y.claim ≡ true → ⊥
  kept_by_other x x' y y' m m' halves active was out =
      let found = passing (λ v. v.claim.write_half && is_active v && conflicts v.claim y.claim) s out in
      let v = found.0 in
      let parts = and_parts (v.claim.write_half && is_active v) (conflicts v.claim y.claim) found.2 in
      let first = and_parts v.claim.write_half (is_active v) parts.0 in
      let partner = zip_partner (SettlesAt s t) s t v settles found.1 in
      let v' = partner.0 in
      let same : v'.claim ≡ v.claim = partner.2.same in
      let writes' : v'.claim.write_half ≡ true = ap (λ c. c.write_half) same ∙ first.0 in
      let active' : is_active v' ≡ true = partner.2.entitlement writes' ∙ or_left (is_active v) (may_enter t v'.claim) first.1 in
      let read : y.claim.write_half ≡ false = read_of_half y.claim halves.reads in
      let keeps_v : keeps_out y.claim v' ≡ true =
      and_from (v'.claim.write_half && is_active v') (conflicts v'.claim y.claim) (and_from v'.claim.write_half (is_active v') writes' active') (ap (λ c. conflicts c y.claim) same ∙ parts.1) in
      let is_claim : IsClaim y.claim = all_at (λ z. IsClaim z.claim) t y exclusive_t.well_formed.claims m.in_t in
      let keeps_w : keeps_out y.claim y' ≡ true =
      and_from (y'.claim.write_half && is_active y') (conflicts y'.claim y.claim) (and_from y'.claim.write_half (is_active y') halves.writes active) (halves_conflict y.claim y'.claim is_claim halves read) in
      let pairs = one_keeps groups t exclusive_t (admitted_settled groups s t admitted settles) y m.in_t read in
      elim (pair_among _ t v' y' pairs partner.1 m'.in_t) [
        | inl one ↦
            let is : v ≡ x' = only_half v x' found.1 m'.in_s (sym same ∙ ap (λ z. z.claim) one ∙ m'.by_rule.same) first.0 in
            contrary (is_active x') (ap is_active (sym is) ∙ first.1) was
        | inr (inl before) ↦ contrary (keeps_out y.claim y') keeps_w (before keeps_v)
        | inr (inr behind) ↦ contrary (keeps_out y.claim v') keeps_v (behind keeps_w)
      ]

  turns_after : (x x' y y' : Claimed) → Was x x' → Moved x y → Moved x' y' → TakeTurns y y'
  turns_after x x' y y' was m m' seats active =
      let seats_s = ap (λ c. c.seat) (sym m.by_rule.same) ∙ seats ∙ ap (λ c. c.seat) m'.by_rule.same in
      let halves_s = was.halves seats_s in
      let halves : AreHalves y.claim y'.claim = (let a = m.by_rule.same in let b = m'.by_rule.same in record {
        stamp = ap (λ c. c.stamp) a ∙ halves_s.stamp ∙ ap (λ c. c.stamp) (sym b);
        reads = ap is_read_half a ∙ halves_s.reads;
        upgrade = ap (λ c. is_upgrade c.kind) b ∙ halves_s.upgrade;
        writes = ap (λ c. c.write_half) b ∙ halves_s.writes;
        same = ap (λ c. c.writes) b ∙ halves_s.same ∙ ap (λ c. c.reads) (sym a);
      }) in
      let read : y.claim.write_half ≡ false = read_of_half y.claim halves.reads in
      both_cases (is_active x')
      (λ before. m.by_rule.reads read ∙ or_left (is_satisfied x) (not (is_kept_out s y.claim)) (was.turns seats_s before))
      (λ new. both_cases (is_kept_out s y.claim)
      (λ out. absurd (kept_by_other x x' y y' m m' halves active new out))
      (λ free. m.by_rule.reads read ∙ or_right (is_satisfied x) (not (is_kept_out s y.claim)) (ap not free)))

  pub turns_settled : EachPair TakeTurns s → EachPair TakeTurns t
  turns_settled turns =
      pairs_of_zip Was Moved TakeTurns turns_after s t (pairs_both TakeTurns Distinct Was (λ x y a b. record { turns = a; halves = b }) s turns distinct) moved
    where
      moved : AllZip Moved s t
      moved = zip_weaker (λ x y. SettlesAt s t x y × Among x s × Among y t) Moved (λ x y h. record { by_rule = h.0; in_s = h.1; in_t = h.2 }) s t (zip_among (SettlesAt s t) s t settles)

-- what is known of two claims
record Half (x y : Claimed) : Type 0 where
  halves : Distinct x y
  turns : TakeTurns x y
  apart : Apart x y

-- so the write half waits while the read half is unsatisfied, and is unsatisfied while the read half is there
pub halves_take_turns : (xs : List Claimed) → AreExclusive xs → EachPair Distinct xs → EachPair TakeTurns xs → HalvesTakeTurns xs
halves_take_turns xs exclusive distinct turns =
    pairs_with (λ x. IsClaim x.claim) Half (λ x y. x.claim.seat ≡ y.claim.seat → TurnsAreTaken x y)
    at xs exclusive.well_formed.claims
    (pairs_both Distinct (λ x y. TakeTurns x y × Apart x y) Half (λ x y d p. record { halves = d; turns = p.0; apart = p.1 }) xs distinct
    (pairs_both TakeTurns Apart (λ x y. TakeTurns x y × Apart x y) (λ x y t a. (t, a)) xs turns exclusive.apart))
  where
    at : (x y : Claimed) → IsClaim x.claim → IsClaim y.claim → Half x y → x.claim.seat ≡ y.claim.seat → TurnsAreTaken x y
    at x y is_x is_y h seats = record {
      waits = λ unsat. false_from (is_active y) (λ active. contrary (is_satisfied x) (h.turns seats active) unsat);
      unsatisfied = false_from (is_satisfied y) (λ sat.
          let halves = h.halves seats in
          contrary (conflicts x.claim y.claim)
          (conflicts_symmetric x.claim y.claim ∙ halves_conflict x.claim y.claim is_x halves (read_of_half x.claim halves.reads))
          (h.apart (h.turns seats (active_of_satisfied y.status sat)) sat));
    }

pub halves_take_turns_settled : (groups : List Set) (s t : List Claimed) → AreExclusive s → AreAdmittedBy groups s → EachPair Distinct s → EachPair TakeTurns s → Settles s t → HalvesTakeTurns t
halves_take_turns_settled groups s t exclusive admitted distinct turns settles =
    halves_take_turns t (exclusive_settled s t exclusive settles) (distinct_same s t distinct (same_claims s t settles)) (turns_settled groups s t settles exclusive admitted distinct turns)
