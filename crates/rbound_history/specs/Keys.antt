-- The keys by which the bounds of waits are found once a history is complete.
use Rattle.std.specs.Prelude.{◌≡◌, ℕ, Option, Some, None, List, [], ◌∷◌, ◌++◌}
use Rattle.rset.specs.Sets.{Set}
use Rattle.rexpand.specs.Groups.{ReadGroups}
use Rattle.rclaim.specs.Requests.{RequestFields}
use Rattle.rclaim.specs.declared.event.Event.{Event}
use Rattle.rmodel.specs.State.{opening}
use Rattle.rmodel.specs.Steps.{AreAccepted}
use Rattle.rmodel.specs.WellFormed.{Among}
use Rattle.rbound.specs.declared.which.Which.{Which}
use Rattle.rbound.specs.declared.which.Which.TheVariants.{First, Rise, Ask}
use Rattle.rcover_laws.specs.Ended.{ended_by}
use Rattle.rcover_laws.specs.declared.wait_end.WaitEnd.{WaitEnd}
use Rattle.rbound_history.specs.Shapes.{Shape, shape_index, ask_index}
use Rattle.rbound_history.specs.History.{shapes_told, last_issue, last_set}
use Rattle.rbound_history.specs.declared.key.BoundKey.{BoundKey}

-- the place of the shape of a request of a task, 0 without a request
abbrev pub place_among : List Shape → ℕ → Option RequestFields → ℕ
place_among shapes task None = 0
place_among shapes task (Some r) = shape_index shapes task r

-- the number of a set among the different sets that the shape of a request asks for, 0 without a request or a set
abbrev pub ask_among : List Shape → ℕ → Option RequestFields → Option Set → ℕ
ask_among shapes task None part = 0
ask_among shapes task (Some r) None = 0
ask_among shapes task (Some r) (Some part) = ask_index shapes (shape_index shapes task r) part

-- the place of the shape of a seat's last request
abbrev pub place_of : List Event → ℕ → ℕ
place_of es seat = place_among (shapes_told es) seat (last_issue seat es)

-- the number of a seat's last ask among the different asks of its shape
abbrev pub ask_of : List Event → ℕ → ℕ
ask_of es seat = ask_among (shapes_told es) seat (last_issue seat es) (last_set seat es)

-- the same wait with another number of its ask
abbrev pub with_ask_number : Which → ℕ → Which
with_ask_number First number = First
with_ask_number Rise number = Rise
with_ask_number (Ask i) number = Ask number

-- the key of a wait of a seat's last request; for an ask, the last one is meant
abbrev pub key_of : List Event → WaitEnd → BoundKey
key_of es w = record { shape = place_of es w.seat; which = with_ask_number w.which (ask_of es w.seat) }

-- the last of these accepted events ended this wait
pub record IsLastEnded (groups : ReadGroups) (seats cap : ℕ) (es : List Event) (w : WaitEnd) : Type 0 where
  pub accepted : AreAccepted (opening groups seats cap) es
  pub before : List Event
  pub last : Event
  pub split : es ≡ before ++ last ∷ []
  pub ended : Among w (ended_by (opening groups seats cap) before last)

-- the key of a wait that the last of these events ended
pub record IsKeyOf (groups : ReadGroups) (seats cap : ℕ) (es : List Event) (w : WaitEnd) (key : BoundKey) : Type 0 where
  pub ended : IsLastEnded groups seats cap es w
  pub is : key ≡ key_of es w

-- this was the key of a wait when one of these events had just ended it
pub record HadKey (groups : ReadGroups) (seats cap : ℕ) (es : List Event) (w : WaitEnd) (key : BoundKey) : Type 0 where
  pub before : List Event
  pub rest : List Event
  pub split : es ≡ before ++ rest
  pub is_key : IsKeyOf groups seats cap before w key
