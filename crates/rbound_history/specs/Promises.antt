-- What holds of bounds and shapes: a bound is the same from needs and from their shapes.
use Rattle.std.specs.Prelude.{◌≡◌, ℕ, true, List, length, slice_get, Some}
use Rattle.rset.specs.Sets.{Set}
use Rattle.rexpand.specs.Groups.{ReadGroups}
use Rattle.rbound.specs.Needs.{RequestNeeds, Needs}
use Rattle.rbound.specs.TaskNeeds.{requests_of, bound_of}
use Rattle.rbound.specs.Kept.{AreFine}
use Rattle.rbound.specs.declared.which.Which.{Which}
use Rattle.rbound.specs.declared.which.Which.TheVariants.{First, Rise, Ask}
use Rattle.rbound_history.specs.Shapes.{Shape, has_shape}
use Rattle.rbound_history.specs.ShapeNeeds.{needs_of_shapes, number_before, shapes_of}
use Rattle.rbound_history.specs.Histories.{HaveShapes}

-- the same wait of a request and of its shape: an ask is known by its set
abbrev pub IsSameWait : List Set → Which → List Set → Which → Type 0
IsSameWait asks First parts which = which ≡ First
IsSameWait asks Rise parts which = which ≡ Rise
IsSameWait asks (Ask n) parts which = (j : ℕ) × (part : Set) × (which ≡ Ask j) × (slice_get asks n ≡ Some part) × (slice_get parts j ≡ Some part)

-- the bounds of all waits of the requests are those of the waits of their shapes, by the needs that issue the shapes
abbrev pub AreBoundsOfShapes : ReadGroups → Needs → List Shape → Needs → Type 0
AreBoundsOfShapes groups needs shapes issued =
    (cap task k place : ℕ) (n : RequestNeeds) (s : Shape) (which other : Which)
    → slice_get (requests_of needs task) k ≡ Some n → slice_get shapes place ≡ Some s → has_shape task n.request s ≡ true → IsSameWait n.asks which s.asks other
    → bound_of (record { groups = groups; tasks = needs }) cap task k which
    ≡ bound_of (record { groups = groups; tasks = issued }) cap s.task (number_before shapes s.task place) other

-- each bound is the same from needs and from their shapes
abbrev pub BoundsAreOfShapes : Type 0
BoundsAreOfShapes = (groups : ReadGroups) (needs : Needs) (shapes : List Shape) → AreFine groups.q needs → HaveShapes needs shapes → AreBoundsOfShapes groups needs shapes (needs_of_shapes (length needs) shapes)

-- compact needs: one request of each shape, with the greatest lengths, and one ask for each set
abbrev pub compact : Needs → Needs
compact needs = needs_of_shapes (length needs) (shapes_of needs)

-- each bound is the same from needs and from compact needs
abbrev pub BoundsAreOfCompactNeeds : Type 0
BoundsAreOfCompactNeeds = (groups : ReadGroups) (needs : Needs) → AreFine groups.q needs → AreBoundsOfShapes groups needs (shapes_of needs) (compact needs)
