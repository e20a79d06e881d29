-- Which shapes represent given needs.
use Rattle.std.specs.Prelude.{◌≡◌, ◌≤◌, ⊤, ℕ, true, false, List, [], ◌∷◌, Option, Some, None}
use Rattle.std.specs.List.{list_any}
use Rattle.rset.specs.Sets.{Set}
use Rattle.rmodel.specs.WellFormed.{Among}
use Rattle.rbound.specs.Needs.{RequestNeeds, Needs}
use Rattle.rbound.specs.TaskNeeds.{requests_of}
use Rattle.rbound_history.specs.Shapes.{Shape, has_shape}

-- a shape represents a request of a task with its asks: the request has the shape, its lengths are not greater, and it asks for no other set
pub record IsTold (task : ℕ) (n : RequestNeeds) (s : Shape) : Type 0 where
  pub same : has_shape task n.request s ≡ true
  pub len : n.request.len ≤ s.request.len
  pub later : n.request.later ≤ s.request.later
  pub asks : (part : Set) → Among part n.asks → Among part s.asks

-- some request of this shape, among those in question, satisfies this
pub record SomeRequest (is_one : ℕ → RequestNeeds → Type 0) (s : Shape) (is_so : RequestNeeds → Type 0) : Type 0 where
  pub request : RequestNeeds
  pub there : is_one s.task request
  pub same : has_shape s.task request.request s ≡ true
  pub so : is_so request

-- a shape says nothing that no request has: each length is that of some request of this shape, and each ask is that of some request
pub record IsMade (is_one : ℕ → RequestNeeds → Type 0) (s : Shape) : Type 0 where
  pub len : SomeRequest is_one s (λ n. n.request.len ≡ s.request.len)
  pub later : SomeRequest is_one s (λ n. n.request.later ≡ s.request.later)
  pub asks : (part : Set) → Among part s.asks → SomeRequest is_one s (λ n. Among part n.asks)

-- no two of the shapes are the same
abbrev pub AreDifferent : List Shape → Type 0
AreDifferent [] = ⊤
AreDifferent (s ∷ ss) = (list_any (has_shape s.task s.request) ss ≡ false) × AreDifferent ss

-- the shapes represent all requests in question, and nothing else
pub record TellAll (is_one : ℕ → RequestNeeds → Type 0) (shapes : List Shape) : Type 0 where
  pub told : (task : ℕ) (n : RequestNeeds) → is_one task n → (s : Shape) × Among s shapes × IsTold task n s
  pub made : (s : Shape) → Among s shapes → IsMade is_one s
  pub different : AreDifferent shapes

-- a task needs this request with its asks
abbrev pub IsNeededBy : Needs → ℕ → RequestNeeds → Type 0
IsNeededBy needs task n = Among n (requests_of needs task)

-- the shapes are those of these needs
abbrev pub HaveShapes : Needs → List Shape → Type 0
HaveShapes needs shapes = TellAll (IsNeededBy needs) shapes

-- the last of these requests
abbrev pub last_request : List RequestNeeds → Option RequestNeeds
last_request [] = None
last_request (n ∷ []) = Some n
last_request (n ∷ m ∷ ns) = last_request (m ∷ ns)
