-- The least claim of a line, found from its end by the least claims of the writes before it.
use Rattle.std.specs.Prelude.{◌≡◌, ◌≤◌, ◌<◌, ℕ, true, false, ◌⊎◌}
use Rattle.std.specs.List.{AllByRecursion}
use Rattle.std.specs.FinSet.{contains}
use Rattle.rclaim.specs.declared.claim.Claim.{Claim}
use Rattle.rmodel.specs.declared.claimed.Claimed.{Claimed}
use Rattle.rmodel.specs.Claims.{share_place}
use Rattle.rmodel.specs.WellFormed.{Among, EachPair, Rises}
use Rattle.rcover_laws.specs.Line.{least_of}
use Rattle.rcover_laws.specs.Moments.{Moment}
use Rattle.rcover.specs.declared.lines.Found.{Found}

-- some claims of a moment are next to each other, and before a write
pub record AreBefore (m : Moment) (c : Claim) (zs : Moment) : Type 0 where
  pub rising : EachPair Rises m
  pub pairs : EachPair Rises zs
  pub within : AllByRecursion (λ z. Among z m) zs
  pub earlier : AllByRecursion (λ z. z.claim.write_half ≡ true → z.claim.stamp < c.stamp) zs

-- a write shares a place with another
pub record IsBeside (c d : Claim) : Type 0 where
  pub write : d.write_half ≡ true
  pub share : share_place d c ≡ true

-- this is the least claim of a write beside another, among these
pub record IsLeastOf (m : Moment) (c : Claim) (zs : Moment) (f : Found) : Type 0 where
  pub at : Claimed
  pub among : Among at zs
  pub beside : IsBeside c at.claim
  pub stamp : (least_of at.claim m).stamp ≡ f.stamp
  pub seat : (least_of at.claim m).seat ≡ f.seat

-- this is a write itself
pub record IsItself (c : Claim) (f : Found) : Type 0 where
  pub stamp : c.stamp ≡ f.stamp
  pub seat : c.seat ≡ f.seat

-- some write among these has a place
pub record HasPlace (zs : Moment) (place : ℕ) : Type 0 where
  pub at : Claimed
  pub among : Among at zs
  pub write : at.claim.write_half ≡ true
  pub has : contains at.claim.places place ≡ true

-- what is found of the line of a write among these claims: the claim of least stamp among the least claims of the writes beside it and itself; and
-- the places that none of these writes has
pub record IsFound (m : Moment) (c : Claim) (zs : Moment) (f : Found) : Type 0 where
  pub is_least : IsItself c f ⊎ IsLeastOf m c zs f
  pub not_above : f.stamp ≤ c.stamp
  pub least : AllByRecursion (λ z. IsBeside c z.claim → f.stamp ≤ (least_of z.claim m).stamp) zs
  pub seen : (place : ℕ) → contains c.places place ≡ true → contains f.left place ≡ false → HasPlace zs place
  pub within : (place : ℕ) → contains f.left place ≡ true → contains c.places place ≡ true
