-- What contracts see of a front and of a note.
use Rattle.std.specs.Prelude.{true, List, refl}
use Rattle.std.specs.Coded.{Coded, code_by, coded×, coded_list}
use Rattle.logbook.specs.Pages.{Book, book_coded, Named}
use Rattle.rclaim.specs.declared.event.Event.{Event}
use Rattle.rclaim.specs.EventCodes.{event_code}

-- which feed it is, and events of it
pub record Reached : Type 0 where
  pub feed : Book
  pub events : List Event

abbrev pub reached_code : Coded Reached
reached_code = code_by (Book × List Event) (coded× book_coded (coded_list event_code)) (λ r. (r.feed, r.events)) (λ p. record { feed = p.0; events = p.1 }) (λ _. refl)

-- the word that counts the events of a feed
abbrev pub head_of : Book → Named
head_of book = record { tracked = true; key = 0; book = book }
