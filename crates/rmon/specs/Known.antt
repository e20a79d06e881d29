-- What contracts see of a feed and of a monitor.
use Rattle.std.specs.Prelude.{◌≡◌, ℕ, List, [], ◌++◌, length, Option, Some, refl}
use Rattle.std.specs.Coded.{Coded, code_by, coded_ℕ, coded×, coded_list, coded_option}
use mathlib.Core.List.{IsPrefix}
use Rattle.logbook.specs.Pages.{Book, book_coded}
use Rattle.rexpand.specs.Groups.{ReadGroups}
use Rattle.rexpand.specs.Codes.{groups_code}
use Rattle.rclaim.specs.declared.event.Event.{Event}
use Rattle.rclaim.specs.EventCodes.{event_code}
use Rattle.rmodel.specs.Steps.{after, AreAccepted}
use Rattle.rmon.specs.declared.rule.Opening.{Opening}
use Rattle.rmon.specs.declared.look.Look.{Look}
use Rattle.rmon.specs.Looks.{look_of}
use Rattle.rmon.specs.Opened.{opening_of}

abbrev pub opening_code : Coded Opening
opening_code =
    code_by (ReadGroups × (ℕ × ℕ)) (coded× groups_code (coded× coded_ℕ coded_ℕ)) (λ o. (o.groups, (o.seats, o.cap))) (λ p. record { groups = p.0; seats = p.1.0; cap = p.1.1 })
    (λ _. refl)

-- which feed it is, how it began, the events that were published, and all that were taken. Each feed has an opening
pub record Feeding : Type 0 where
  pub feed : Book
  pub opening : Option Opening
  pub published : List Event
  pub fed : List Event

abbrev pub feeding_code : Coded Feeding
feeding_code =
    code_by (Book × (Option Opening × (List Event × List Event))) (coded× book_coded (coded× (coded_option opening_code) (coded× (coded_list event_code) (coded_list event_code))))
    (λ f. (f.feed, (f.opening, (f.published, f.fed)))) (λ p. record { feed = p.0; opening = p.1.0; published = p.1.1.0; fed = p.1.1.1 }) (λ _. refl)

-- which feed it belongs to, how that began, and the events of it that were seen. Each monitor that a feed gives out knows the opening
pub record Watching : Type 0 where
  pub feed : Book
  pub opening : Option Opening
  pub seen : List Event

abbrev pub watching_code : Coded Watching
watching_code =
    code_by (Book × (Option Opening × List Event)) (coded× book_coded (coded× (coded_option opening_code) (coded_list event_code)))
    (λ m. (m.feed, (m.opening, m.seen))) (λ p. record { feed = p.0; opening = p.1.0; seen = p.1.1 }) (λ _. refl)

-- a feed with this opening and no events, and a monitor of it that has seen nothing
abbrev pub begun : Book → Opening → Feeding
begun feed o = record { feed = feed; opening = Some o; published = []; fed = [] }

abbrev pub newcomer : Book → Opening → Watching
newcomer feed o = record { feed = feed; opening = Some o; seen = [] }

-- a feed has taken the first of these events, and has published nothing more
abbrev pub HasTaken : Feeding → List Event → Feeding → Type 0
HasTaken f events g = (taken : List Event) × IsPrefix taken events × (g ≡ record f { fed = f.fed ++ taken })

-- A monitor has looked: it has seen what it had, and maybe more after that. What it has seen are accepted events, and the look is that of the state
-- after them
pub record HasLooked (m n : Watching) (look : Look) : Type 0 where
  pub feed : n.feed ≡ m.feed
  pub opening : n.opening ≡ m.opening
  pub before : IsPrefix m.seen n.seen
  pub accepted : (o : Opening) → m.opening ≡ Some o → AreAccepted (opening_of o) n.seen
  pub look_is : (o : Opening) → m.opening ≡ Some o → look ≡ look_of (after (opening_of o) n.seen) (length n.seen)
