-- The rule of the list of events, and what is known after the step that adds an event.
use Rattle.std.specs.Prelude.{◌≡◌, ◌==◌, ℕ, true, List, [], ◌∷◌, ◌++◌, length, MatchBool}
use Rattle.logbook.specs.Pages.{Cell, Step, View}
use Rattle.rclaim.specs.declared.event.Event.{Event}

-- the first word is the length of the list. A book has two words, and the second stays 0
abbrev pub IsCounted : List Cell → List Event → Type 0
IsCounted cells log = cells ≡ (length log, true) ∷ (0, true) ∷ []

-- the event was added to all that had been seen, or the list was found to be this long
abbrev pub Adds : Step Event → View Event ℕ → ℕ → View Event ℕ → Type 0
Adds s v found w = MatchBool (found == s.old) (w.0 ≡ v.0 ++ s.ask ∷ []) (length w.0 ≡ found)
