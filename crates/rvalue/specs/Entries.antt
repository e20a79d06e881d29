-- Entries of the history: an event, and the acts that are recorded with it.
use Rattle.std.specs.Prelude.{ℕ, Bool, true, false, List, [], fold, if◌then◌else◌, refl}
use Rattle.std.specs.Coded.{Coded, code_by, coded×, coded_list}
use Rattle.rclaim.specs.declared.event.Event.{Event}
use Rattle.rclaim.specs.declared.event.Event.TheVariants.{Finish}
use Rattle.rclaim.specs.EventCodes.{event_code}
use Rattle.rvalue.specs.declared.act.Act.{Act}
use Rattle.rvalue.specs.Acts.{edits_in, act_code}

-- what an entry says
pub record EntryFields (E : Type 0) : Type 0 where
  pub event : Event
  pub acts : List (Act E)

-- whether a section ends with the event
abbrev pub is_finish : Event → Bool
is_finish (Finish seat) = true
is_finish _ = false

-- the edits on the resource that the entry makes, in order: those among its acts where a section ends, otherwise none
abbrev pub edits_of : {E : Type 0} → EntryFields E → ℕ → List E
edits_of entry l = if is_finish entry.event then edits_in entry.acts l else []

-- the value of the resource after the entry
abbrev pub value_after_entry : {V E : Type 0} → (V → E → V) → V → EntryFields E → ℕ → V
value_after_entry after value entry l = fold after value (edits_of entry l)

-- an entry is coded as the pair of its fields
abbrev pub entry_code : {E : Type 0} → Coded E → Coded (EntryFields E)
entry_code {E} code =
    code_by (Event × List (Act E)) (coded× event_code (coded_list (act_code code)))
    (λ e. (e.event, e.acts))
    (λ p. record { event = p.0; acts = p.1 })
    (λ _. refl)
