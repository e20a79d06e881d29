-- The event list of a history: its events in order, without what its sections did.
use Rattle.std.specs.Prelude.{ℕ, List, [], ◌∷◌, ◌++◌, map, Some}
use Rattle.rexpand.specs.Groups.{ReadGroups}
use Rattle.rmodel.specs.Steps.{Comes, next}
use Rattle.rvalue.specs.Entries.{EntryFields}
use Rattle.rvalue.specs.InTurn.{AllInTurn}
use Rattle.rvalue.specs.Lawful.{state_after}
use Rattle.rtrace_form.specs.Heads.{Head, opening_of}
use Rattle.rtrace_form.specs.Lines.{Line, Happens, Ends}
use Rattle.rtrace_form.specs.Reports.{Entry, Report, head_lines}

-- the head of a list with these names, groups and cap
abbrev pub head_with : List (List ℕ) → ReadGroups → List (List ℕ) → ℕ → Head
head_with resources groups tasks cap = record { resources = resources; groups = groups.groups; tasks = tasks; cap = cap }

module _ {E : Type 0} where
  -- an event alone
  abbrev pub alone : EntryFields E → Entry
  alone entry = record { event = entry.event; acts = [] }

  -- what the event list of a history says
  abbrev pub list_of : Head → List (EntryFields E) → Report
  list_of head entries = record { head = head; entries = map alone entries }

  -- its lines
  abbrev pub list_lines : Head → List (EntryFields E) → List Line
  list_lines head entries = head_lines head (Some head.cap) ++ (map (λ (entry : EntryFields E). Happens entry.event) entries ++ Ends ∷ [])

  -- the event comes after those of the earlier entries
  abbrev pub IsAccepted : Head → List (EntryFields E) → EntryFields E → Type 0
  IsAccepted head earlier entry = Comes (state_after next (opening_of head) earlier) entry.event

  -- each event is accepted in turn by a lock with this head
  abbrev pub AreAccepted : Head → List (EntryFields E) → Type 0
  AreAccepted head entries = AllInTurn (IsAccepted head) [] entries
