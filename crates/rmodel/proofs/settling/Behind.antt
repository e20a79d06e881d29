-- No later write keeps a read waiting: what keeps it waiting was there when it came.
use Rattle.std.proofs.Common.{◌≡◌, Bool, true, false, not, ◌&&◌, List, refl, sym, ap, subst, ◌∙◌, inl, inr}
use Rattle.std.proofs.lemmas.Bool.{or_parts}
use Rattle.std.specs.List.{AllZip}
use Rattle.rset.specs.Sets.{Set}
use Rattle.rmodel.specs.declared.claimed.Claimed.{Claimed}
use Rattle.rmodel.specs.Claims.{conflicts, is_satisfied, satisfied_by, active_by}
use Rattle.rmodel.specs.Laws.{keeps_out}
use Rattle.rmodel.specs.Reached.{KeptBehind}
use Rattle.rmodel.specs.Rules.{is_kept_out, SettlesAt, Settles}
use Rattle.rmodel.specs.WellFormed.{EachPair, AreExclusive, AreAdmittedBy, Distinct}
use Rattle.rmodel.proofs.ListFacts.{Among, contrary, false_from, passing, pair_among, pairs_of_zip, zip_among, zip_partner, zip_weaker}
use Rattle.rmodel.proofs.settling.OneWrite.{one_keeps}
use Rattle.rmodel.proofs.reaching.Soundness.{read_of_half}
use Rattle.rmodel.proofs.settling.Stable.{keeps_on}
use Rattle.rmodel.proofs.settling.Standing.{SameStanding}

-- of two claims of a list, the first is not the second
pub not_same : {P : Type 0} → (x y : Claimed) → Distinct x y → x.claim ≡ y.claim → P
not_same x y distinct same =
    let halves = distinct (ap (λ c. c.seat) same) in
    contrary y.claim.write_half halves.writes (ap (λ c. c.write_half) (sym same) ∙ read_of_half x.claim halves.reads)

-- what is not so little as not is
pub so_from : (b : Bool) → not b ≡ false → b ≡ true
so_from true h = refl
so_from false h = sym h

module _ (groups : List Set) (s t : List Claimed) (settles : Settles s t) (exclusive : AreExclusive t) (admitted : AreAdmittedBy groups t) (one_each : EachPair Distinct s) where
  -- a claim before and after the settlement
  record Moved (x y : Claimed) : Type 0 where
    by_rule : SettlesAt s t x y
    in_s : Among x s
    in_t : Among y t

  -- of two claims that keep a read out once it is settled, one of which did so before, the other did so before
  did_before : (r v w x y : Claimed) → Among r t → r.claim.write_half ≡ false → Among v s → Among w t → SettlesAt s t v w → Moved x y
      → keeps_out r.claim v ≡ true → keeps_out r.claim w ≡ true → keeps_out r.claim y ≡ true → keeps_out r.claim x ≡ true
  did_before r v w x y in_t read in_s in_t' at m keeps_v keeps_w keeps_y =
      elim (pair_among (λ a b. keeps_out r.claim a ≡ true → keeps_out r.claim b ≡ false) t w y (one_keeps groups t exclusive admitted r in_t read) in_t' m.in_t) [
        | inl same ↦ one_claim (sym at.same ∙ ap (λ z. z.claim) same ∙ m.by_rule.same)
        | inr other ↦ elim other [
          | inl first ↦ contrary (keeps_out r.claim y) keeps_y (first keeps_w)
          | inr second ↦ contrary (keeps_out r.claim w) keeps_w (second keeps_y)
        ]
      ]
    where
      one_claim : v.claim ≡ x.claim → keeps_out r.claim x ≡ true
      one_claim same =
          elim (pair_among Distinct s v x one_each in_s m.in_s) [
            | inl is ↦ subst (λ (z : Claimed). keeps_out r.claim z ≡ true) is keeps_v
            | inr other ↦ elim other [ inl d ↦ not_same v x d same | inr d ↦ not_same x v d (sym same) ]
          ]

  behind_after : (x x' y y' : Claimed) → KeptBehind x x' → Moved x y → Moved x' y' → KeptBehind y y'
  behind_after x x' y y' had m m' read unsat = false_from (keeps_out y.claim y') (λ keeps.
      let none = or_parts (is_satisfied x) (not (is_kept_out s y.claim)) (sym (m.by_rule.reads read) ∙ unsat) in
      let found = passing (keeps_out y.claim) s (so_from (is_kept_out s y.claim) none.1) in
      let beside = zip_partner (SettlesAt s t) s t found.0 settles found.1 in
      let before = did_before y found.0 beside.0 x' y' m.in_t read found.1 beside.1 beside.2 m' found.2 (keeps_on s t y.claim found.0 beside.0 beside.2 found.2) keeps in
      contrary (keeps_out y.claim x') before
      (ap (λ c. keeps_out c x') m.by_rule.same ∙ had (ap (λ c. c.write_half) (sym m.by_rule.same) ∙ read) none.0))

  pub behind_settled : EachPair KeptBehind s → EachPair KeptBehind t
  behind_settled pairs =
      pairs_of_zip KeptBehind Moved KeptBehind behind_after s t pairs
      (zip_weaker (λ x y. SettlesAt s t x y × Among x s × Among y t) Moved (λ x y h. record { by_rule = h.0; in_s = h.1; in_t = h.2 }) s t (zip_among (SettlesAt s t) s t settles))

pub behind_standing : (t u : List Claimed) → AllZip SameStanding t u → EachPair KeptBehind t → EachPair KeptBehind u
behind_standing t u same pairs = pairs_of_zip KeptBehind SameStanding KeptBehind (λ x x' y y' had a b. λ read unsat.
    (λ i. (b.claim i).write_half && active_by (b.status i) && conflicts (b.claim i) (a.claim i))
    ∙ had (ap (λ c. c.write_half) (sym a.claim) ∙ read) (ap satisfied_by (sym a.status) ∙ unsat)) t u pairs same
