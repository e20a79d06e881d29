-- What is seen of a wait at its last moment.
use Rattle.std.specs.Prelude.{Bool, ◌&&◌, Option, None, List, [], ◌∷◌, find}
use Rattle.std.specs.Option.{option_map}
use Rattle.rclaim.specs.declared.claim.Claim.{Claim}
use Rattle.rmodel.specs.Claims.{is_satisfied}
use Rattle.rcover_laws.specs.Moments.{Moment}

-- the claim of least stamp that passes a test and is satisfied at a moment
abbrev pub first_at : (Claim → Bool) → Moment → Option Claim
first_at p m = option_map (λ x. x.claim) (find (λ x. p x.claim && is_satisfied x) m)

-- the same at the last of a moment and those after it
abbrev pub first_behind : (Claim → Bool) → Moment → List Moment → Option Claim
first_behind p m [] = first_at p m
first_behind p m (n ∷ ns) = first_behind p n ns

-- the same at the last of some moments
abbrev pub first_at_last : (Claim → Bool) → List Moment → Option Claim
first_at_last p [] = None
first_at_last p (m ∷ ms) = first_behind p m ms
