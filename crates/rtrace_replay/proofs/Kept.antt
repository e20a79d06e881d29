-- The events that are kept of a list, and that they are its steps.
use Rattle.std.proofs.Common.{◌≡◌, false, List, [], ◌∷◌, ◌++◌, Some, sym, ap, subst, ◌∙◌}
use Rattle.std.proofs.lemmas.List.{map-append}
use Rattle.std.specs.Prelude.{option_to_list}
use Rattle.rclaim.specs.declared.event.Event.{Event}
use Rattle.rmodel.specs.State.{LockState}
use Rattle.rmodel.specs.Steps.{AreAccepted}
use Rattle.rtrace_form.specs.Heads.{opening_of}
use Rattle.rtrace_form.specs.Records.{Row}
use Rattle.rtrace_form.specs.Reports.{Entry, Report, IsLawful}
use Rattle.rtrace_form.specs.SoFar.{SoFar, entries_in, bare, with_row}
use Rattle.rtrace_form.specs.Waits.{events_of}
use Rattle.rtrace_form.proofs.written.Reaching.{accepted_from}
use Rattle.rtrace_replay.specs.Stepping.{IsAtHead, AreStepsOf}
use Rattle.rtrace_replay.specs.declared.steps.Steps.{Steps}

module _ (s : SoFar) (row : Row) where
  -- the events, with the event after them
  pub event_list : (e : Event) (old new : List Event) → (with_row false s row).earlier ≡ entries_in s → (with_row false s row).latest ≡ Some (bare e) → old ≡ events_of (entries_in s) → new ≡ old ++ e ∷ [] → new ≡ events_of (entries_in (with_row false s row))
  event_list e old new earlier latest f g =
      g ∙ ap (λ (es : List Event). es ++ e ∷ []) f ∙ sym (map-append (λ (entry : Entry). entry.event) (entries_in s) (bare e ∷ [])) ∙ sym (λ i. events_of (earlier i ++ option_to_list (latest i)))

  -- and with none after them
  pub other_list : (old : List Event) → (with_row false s row).earlier ≡ s.earlier → (with_row false s row).latest ≡ s.latest → old ≡ events_of (entries_in s) → old ≡ events_of (entries_in (with_row false s row))
  other_list old earlier latest f = f ∙ sym (λ i. events_of (earlier i ++ option_to_list (latest i)))

pub steps_are : (report : Report) (steps : Steps) → IsLawful report.head report.entries → IsAtHead report steps → AreStepsOf report steps
steps_are report steps lawful h = record {
  at_head = h;
  accepted = subst (λ (s : LockState). AreAccepted s steps.events.items) (sym h.state) (subst (λ (es : List Event). AreAccepted (opening_of report.head) es) (sym h.events) (accepted_from report.head [] report.entries lawful));
}
