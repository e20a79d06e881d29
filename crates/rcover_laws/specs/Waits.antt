-- Waits: what holds of a claim, or of an ask, at each moment of its wait.
use Rattle.std.specs.Prelude.{◌≡◌, ◌≢◌, true, false}
use Rattle.std.specs.List.{AllByRecursion}
use Rattle.std.specs.FinSet.{empty}
use Rattle.rset.specs.Sets.{Set}
use Rattle.rclaim.specs.declared.claim.Claim.{Claim}
use Rattle.rmodel.specs.declared.claimed.Claimed.{Claimed}
use Rattle.rmodel.specs.Claims.{is_satisfied, is_nested}
use Rattle.rmodel.specs.WellFormed.{Among}
use Rattle.rcover_laws.specs.Moments.{Moment}

-- a read claim is there and unsatisfied
pub record ReadWaits (c : Claim) (m : Moment) : Type 0 where
  pub at : Claimed
  pub among : Among at m
  pub is : at.claim ≡ c
  pub read : c.write_half ≡ false
  pub unsatisfied : is_satisfied at ≡ false

-- a write claim is there and unsatisfied, and its seat has no read claim: it is the only claim of its request, or an upgrade that has risen
pub record WriteWaits (c : Claim) (m : Moment) : Type 0 where
  pub at : Claimed
  pub among : Among at m
  pub is : at.claim ≡ c
  pub write : c.write_half ≡ true
  pub unsatisfied : is_satisfied at ≡ false
  pub alone : AllByRecursion (λ x. x.claim.seat ≡ c.seat → x.claim.write_half ≡ true) m

-- the claim of a nested request that was granted something asks for this part, and does not have it yet
pub record AskWaits (c : Claim) (part : Set) (m : Moment) : Type 0 where
  pub at : Claimed
  pub among : Among at m
  pub is : at.claim ≡ c
  pub nested : is_nested c.kind ≡ true
  pub asks : at.asked ≡ part
  pub some : part ≢ empty
  pub holds_some : at.granted ≢ empty
