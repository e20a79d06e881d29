-- A write that shares a place with no write of smaller stamp is entitled or satisfied.
use Rattle.std.proofs.Common.{◌≡◌, true, false, not, ◌&&◌, List, ap, ◌∙◌}
use Rattle.std.proofs.lemmas.Bool.{or_left, or_right}
use Rattle.rclaim.specs.declared.claim.Claim.{Claim}
use Rattle.rmodel.specs.declared.claimed.Claimed.{Claimed}
use Rattle.rmodel.specs.Claims.{share_place, is_active}
use Rattle.rmodel.specs.Rules.{is_earlier_write, makes_way, may_enter, SettlesAt, Settles}
use Rattle.rmodel.specs.Laws.{shares_with_earlier, EarliestAreEntitled}
use Rattle.rmodel.proofs.ListFacts.{all_of_none, each_second}

-- nothing bars such a write
pub enters_first : (t : List Claimed) (c : Claim) → shares_with_earlier t c ≡ false → may_enter t c ≡ true
enters_first t c none = all_of_none (λ v. is_earlier_write c v.claim && share_place v.claim c) _ (λ v free. or_left _ (makes_way t c v) (ap not free)) t none

pub earliest : (s t : List Claimed) → Settles s t → EarliestAreEntitled t
earliest s t settles =
    each_second (SettlesAt s t) (λ y. y.claim.write_half ≡ true → shares_with_earlier t y.claim ≡ false → is_active y ≡ true)
    (λ x y at w none. at.entitlement w ∙ or_right (is_active x) (may_enter t y.claim) (enters_first t y.claim none))
    s t settles
