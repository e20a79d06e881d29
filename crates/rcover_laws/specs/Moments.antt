-- Moments: the claims between two events, and when a claim holds at them.
use Rattle.std.specs.Prelude.{◌≡◌, Bool, ◌&&◌, ◌==◌, List, [], ◌∷◌}
use Rattle.std.specs.List.{list_any}
use Rattle.rclaim.specs.declared.claim.Claim.{Claim}
use Rattle.rclaim.specs.declared.event.Event.{Event}
use Rattle.rmodel.specs.declared.claimed.Claimed.{Claimed}
use Rattle.rmodel.specs.Changes.{is_same}
use Rattle.rmodel.specs.Claims.{is_satisfied}
use Rattle.rmodel.specs.State.{LockState}
use Rattle.rmodel.specs.Steps.{next}
use Rattle.rmodel.specs.WellFormed.{Among}

-- a moment: the claims between two events
abbrev pub Moment : Type 0
Moment = List Claimed

-- the moments after each of these events
abbrev pub later : LockState → List Event → List Moment
later s [] = []
later s (e ∷ es) = (next s e).claims ∷ later (next s e) es

-- a run of moments: the one of a state, and those after each of these events
abbrev pub moments : LockState → List Event → List Moment
moments s es = s.claims ∷ later s es

-- two claims are the same: the same stamp, and both read claims or both write claims
abbrev pub is_claim : Claim → Claim → Bool
is_claim c d = (c.stamp == d.stamp) && is_same c.write_half d.write_half

-- a claim is satisfied at a moment
abbrev pub holds_at : Claim → Moment → Bool
holds_at c m = list_any (λ x. is_satisfied x && is_claim c x.claim) m

-- a claim is among those of a moment
pub record There (c : Claim) (m : Moment) : Type 0 where
  pub at : Claimed
  pub among : Among at m
  pub is : at.claim ≡ c
