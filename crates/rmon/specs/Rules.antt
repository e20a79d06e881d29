-- The rule of the published image, and what is known after its steps.
use Rattle.std.specs.Prelude.{◌≡◌, ℕ, List, [], fold, Option, Some, None}
use mathlib.Core.Option.{some}
use lib.ListN.{get_elem?}
use Rattle.rmodel.specs.Steps.{after, AreAccepted}
use Rattle.left_right.specs.Register.{TurnsAt}
use Rattle.rmon.specs.declared.image.Image.{Image}
use Rattle.rmon.specs.declared.image.Change.{Change}
use Rattle.rmon.specs.Images.{absorbed}
use Rattle.rmon.specs.declared.rule.Opening.{Opening}
use Rattle.rmon.specs.declared.rule.Told.{Told}
use Rattle.rmon.specs.Opened.{opening_of, opening_in}

-- the image is what its events lead to, and they are accepted
pub record IsAfter (o : Opening) (x : Image) : Type 0 where
  pub state : x.machine.state ≡ after (opening_of o) x.front.events
  pub accepted : AreAccepted (opening_of o) x.front.events

-- what is known is right
pub record IsRight (o : Opening) (x : Image) (t : Told) : Type 0 where
  pub opening : t.opening ≡ o
  pub feed : t.front.feed ≡ x.front.feed

abbrev pub Agrees : Opening → Image → Option Told → Type 0
Agrees o x v = (t : Told) → v ≡ Some t → IsRight o x t

pub record IsRuled (x : Image) (views : List (Option Told)) : Type 0 where
  pub opening : Opening
  pub image : IsAfter opening x
  pub each : (seat : ℕ) (v : Option Told) → get_elem? views seat ≡ some v → Agrees opening x v

-- an image with no events is known
abbrev pub Begins : Option Told → Image → Image → Option Told → Type 0
Begins v x y w = y.front.events ≡ [] → w ≡ Some (record { opening = opening_in y.machine.state; front = y.front })

-- if the image is known, it is what its events lead to
abbrev pub Looks : Option Told → Image → Image → Option Told → Type 0
Looks v x y w = (w ≡ v) × ((t : Told) → v ≡ Some t → IsAfter t.opening x × (t.front.feed ≡ x.front.feed))

-- how the feed of a seat began, if that is known
abbrev pub opening_told : Option Told → Option Opening
opening_told None = None
opening_told (Some t) = Some t.opening

-- the rule survives when the image is shown with these changes
abbrev pub KeepsRule : ℕ → Option Told → Image → List Change → Type 0
KeepsRule seat v x changes = (next : Image) → next ≡ fold absorbed x changes → TurnsAt IsRuled seat v x next (λ v x y w. w ≡ v)
