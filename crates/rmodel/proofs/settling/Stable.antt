-- What claims settle to settles to itself.
use Rattle.std.proofs.Common.{◌≡◌, Bool, true, false, not, ◌&&◌, ◌||◌, List, refl, sym, ap, ◌∙◌}
use Rattle.std.proofs.lemmas.Bool.{or_left, and_parts, and_from}
use Rattle.rclaim.specs.declared.claim.Claim.{Claim}
use Rattle.rmodel.specs.declared.claimed.Claimed.{Claimed}
use Rattle.rmodel.specs.Claims.{conflicts, is_active}
use Rattle.rmodel.specs.Laws.{keeps_out}
use Rattle.rmodel.specs.Rules.{is_kept_out, may_enter, SettlesAt, Settles}
use Rattle.rmodel.proofs.ListFacts.{second_itself, some_second}

-- what follows from what was or from a test follows from what is or from that test
asked_again : (was is test : Bool) → is ≡ (was || test) → is ≡ (is || test)
asked_again was is test h = h ∙ twice was test ∙ ap (λ b. b || test) (sym h)
  where
    twice : (a b : Bool) → (a || b) ≡ ((a || b) || b)
    twice true b = refl
    twice false true = refl
    twice false false = refl

-- so it does where what was kept out stays kept out
kept_out_again : (was is out still : Bool) → is ≡ (was || not out) → (out ≡ true → still ≡ true) → is ≡ (is || not still)
kept_out_again true is out still h stays = h ∙ ap (λ b. b || not still) (sym h)
kept_out_again false is false still h stays = h ∙ ap (λ b. b || not still) (sym h)
kept_out_again false is true still h stays = h ∙ ap not (sym (stays refl)) ∙ ap (λ b. b || not still) (sym h)

-- a write that keeps a claim out before the settlement keeps it out after it
pub keeps_on : (s t : List Claimed) (c : Claim) (x y : Claimed) → SettlesAt s t x y → keeps_out c x ≡ true → keeps_out c y ≡ true
keeps_on s t c x y at h =
    let parts = and_parts (x.claim.write_half && is_active x) (conflicts x.claim c) h in
    let first = and_parts x.claim.write_half (is_active x) parts.0 in
    let write : y.claim.write_half ≡ true = ap (λ k. k.write_half) at.same ∙ first.0 in
    and_from (y.claim.write_half && is_active y) (conflicts y.claim c)
    (and_from y.claim.write_half (is_active y) write (at.entitlement write ∙ or_left (is_active x) (may_enter t y.claim) first.1))
    (ap (λ k. conflicts k c) at.same ∙ parts.1)

-- so what is kept out stays kept out
pub still_kept_out : (s t : List Claimed) → Settles s t → (c : Claim) → is_kept_out s c ≡ true → is_kept_out t c ≡ true
still_kept_out s t settles c = some_second (SettlesAt s t) _ _ (keeps_on s t c) s t settles

pub stable_settled : (s t : List Claimed) → Settles s t → Settles t t
stable_settled s t settles = second_itself (SettlesAt s t) (SettlesAt t t)
    (λ x y at. record {
      same = refl;
      asked = refl;
      granted = refl;
      reads = λ r. kept_out_again _ _ (is_kept_out s y.claim) (is_kept_out t y.claim) (at.reads r) (still_kept_out s t settles y.claim);
      entitlement = λ w. asked_again _ _ _ (at.entitlement w);
      satisfaction = λ w. asked_again _ _ _ (at.satisfaction w);
      kept_reads = at.kept_reads;
    })
    s t settles
