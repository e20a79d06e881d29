-- Shapes of requests: requests of one task that differ in nothing but their lengths and their asks have one shape.
use Rattle.std.specs.Prelude.{ℕ, zero, suc, Bool, false, ◌&&◌, ◌==◌, max, List, [], ◌∷◌, ◌++◌, fold, Option, Some, None, if◌then◌else◌}
use Rattle.std.specs.List.{list_any, position_or_len}
use Rattle.rset.specs.Sets.{Set, equals}
use Rattle.rclaim.specs.Codes.{kind_number}
use Rattle.rclaim.specs.Requests.{RequestFields}
use Rattle.rmodel.specs.Claims.{is_nested}
use Rattle.rbound.specs.Needs.{RequestNeeds}

-- a shape: its task, a request with the greatest lengths, and the different sets that it asks for, in the order in which they first came
pub record Shape : Type 0 where
  pub task : ℕ
  pub request : RequestFields
  pub asks : List Set

-- two requests differ in nothing but their lengths
abbrev pub same_shape : RequestFields → RequestFields → Bool
same_shape a b = (kind_number a.kind == kind_number b.kind) && equals a.reads b.reads && equals a.writes b.writes && equals a.first b.first

-- a request of a task has this shape
abbrev pub has_shape : ℕ → RequestFields → Shape → Bool
has_shape task r s = (task == s.task) && same_shape r s.request

-- a request with the greater lengths of two
abbrev pub lengthened : RequestFields → RequestFields → RequestFields
lengthened a b = record a { len = max a.len b.len; later = max a.later b.later }

-- one more set after the others, unless it is among them
abbrev pub with_part : List Set → Set → List Set
with_part asks part = if list_any (equals part) asks then asks else asks ++ part ∷ []

-- the different sets of both lists
abbrev pub with_parts : List Set → List Set → List Set
with_parts asks parts = fold with_part asks parts

-- the shape of a request with its asks
abbrev pub shape_of : ℕ → RequestNeeds → Shape
shape_of task n = record { task = task; request = n.request; asks = with_parts [] n.asks }

-- a shape after one more request of it, with its asks
abbrev pub joined : Shape → RequestNeeds → Shape
joined s n = record { task = s.task; request = lengthened s.request n.request; asks = with_parts s.asks n.asks }

-- the shapes after one more request of a task, with its asks: a new shape goes after the others, a known one keeps its place
abbrev pub with_needed : List Shape → ℕ → RequestNeeds → List Shape
with_needed [] task n = shape_of task n ∷ []
with_needed (s ∷ ss) task n = if has_shape task n.request s then joined s n ∷ ss else s ∷ with_needed ss task n

-- the shapes after one more request of a task that asks for nothing yet
abbrev pub with_shape : List Shape → ℕ → RequestFields → List Shape
with_shape shapes task r = with_needed shapes task (record { request = r; asks = [] })

-- the place of the shape of a request of a task: after all others where it is new
abbrev pub shape_index : List Shape → ℕ → RequestFields → ℕ
shape_index shapes task r = position_or_len (has_shape task r) shapes

-- the shapes after a request of this shape asked for one more set
abbrev pub with_shape_ask : List Shape → ℕ → Set → List Shape
with_shape_ask [] place part = []
with_shape_ask (s ∷ ss) zero part = record s { asks = with_part s.asks part } ∷ ss
with_shape_ask (s ∷ ss) (suc place) part = s ∷ with_shape_ask ss place part

-- the different sets that a shape asks for
abbrev pub parts_of : List Shape → ℕ → List Set
parts_of [] place = []
parts_of (s ∷ ss) zero = s.asks
parts_of (s ∷ ss) (suc place) = parts_of ss place

-- the number of a set among those that a shape asks for: after all others where it is new
abbrev pub ask_index : List Shape → ℕ → Set → ℕ
ask_index shapes place part = position_or_len (equals part) (parts_of shapes place)

-- a request of a task has the shape at this place
abbrev pub is_shape_of : Option Shape → ℕ → RequestFields → Bool
is_shape_of None task r = false
is_shape_of (Some s) task r = has_shape task r s

-- the task of the shape at a place, 0 where there is none
abbrev pub task_at : List Shape → ℕ → ℕ
task_at [] place = 0
task_at (s ∷ ss) zero = s.task
task_at (s ∷ ss) (suc place) = task_at ss place

-- the shape at a place takes the lengths of a request over
abbrev pub taken_over : List Shape → ℕ → RequestFields → List Shape
taken_over [] place r = []
taken_over (s ∷ ss) zero r = joined s (record { request = r; asks = [] }) ∷ ss
taken_over (s ∷ ss) (suc place) r = s ∷ taken_over ss place r

-- the shape at a place is that of nested requests
abbrev pub is_nested_at : List Shape → ℕ → Bool
is_nested_at [] place = false
is_nested_at (s ∷ ss) zero = is_nested s.request.kind
is_nested_at (s ∷ ss) (suc place) = is_nested_at ss place
