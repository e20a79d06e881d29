-- What a history says about requests: those that it issues, with their shapes, and the last one of each seat.
use Rattle.std.specs.Prelude.{ℕ, ◌==◌, Option, Some, None, List, [], ◌∷◌, fold, if◌then◌else◌}
use Rattle.rset.specs.Sets.{Set}
use Rattle.rclaim.specs.Requests.{RequestFields}
use Rattle.rclaim.specs.declared.event.Event.{Event}
use Rattle.rclaim.specs.declared.event.Event.TheVariants.{Issue, Finish, Rise, Ask}
use Rattle.rbound.specs.Needs.{RequestNeeds}
use Rattle.rcover_laws.specs.History.{asks_of}
use Rattle.rbound_history.specs.Shapes.{Shape, with_needed}

-- a request of a seat, with its asks
pub record Issued : Type 0 where
  pub seat : ℕ
  pub needs : RequestNeeds

-- the requests that are issued, in order, each with its asks
abbrev pub issued_in : List Event → List Issued
issued_in [] = []
issued_in (Issue seat r ∷ es) = record { seat = seat; needs = record { request = r; asks = asks_of seat es } } ∷ issued_in es
issued_in (Finish seat ∷ es) = issued_in es
issued_in (Rise seat ∷ es) = issued_in es
issued_in (Ask seat part ∷ es) = issued_in es

-- the shapes, with that of one more request
abbrev pub with_issued : List Shape → Issued → List Shape
with_issued shapes one = with_needed shapes one.seat one.needs

-- the shapes of all requests of a history, in the order in which they first came
abbrev pub shapes_told : List Event → List Shape
shapes_told es = fold with_issued [] (issued_in es)

-- the last request of a seat after an event
abbrev pub later_issue : ℕ → Option RequestFields → Event → Option RequestFields
later_issue task last (Issue seat r) = if seat == task then Some r else last
later_issue task last (Finish seat) = last
later_issue task last (Rise seat) = last
later_issue task last (Ask seat part) = last

-- the last request of a seat, if it issued one
abbrev pub last_issue : ℕ → List Event → Option RequestFields
last_issue task es = fold (later_issue task) None es

-- the set that a seat last asked for, after an event
abbrev pub later_set : ℕ → Option Set → Event → Option Set
later_set task last (Issue seat r) = if seat == task then None else last
later_set task last (Finish seat) = last
later_set task last (Rise seat) = last
later_set task last (Ask seat part) = if seat == task then Some part else last

-- the set that the last request of a seat last asked for, if it asked for one
abbrev pub last_set : ℕ → List Event → Option Set
last_set task es = fold (later_set task) None es
