-- Watchers are given each step in the turn that adds its entry.
use Rattle.std.proofs.Common.{◌≡◌, List, [], ◌∷◌, ◌++◌, map, Option, Some, None, refl, sym, ap, ◌∙◌}
use Rattle.std.proofs.lemmas.List.{map-append}
use Rattle.rclaim.specs.Changes.{ChangeLists}
use Rattle.rclaim.specs.declared.event.Event.{Event}
use Rattle.rmodel.specs.Changes.{changes_between}
use Rattle.rmodel.specs.State.{LockState}
use Rattle.rmodel.specs.Steps.{next, after}
use Rattle.rmodel.specs.Watching.{steps_of}
use Rattle.rmodel.proofs.reaching.Histories.{steps_push}
use Rattle.rvalue.specs.Entries.{EntryFields}
use Rattle.rwatch.specs.Seen.{Seen, watched_next, watched_after}
use Rattle.rwatch.proofs.Given.{given_none, given_push}
use Rattle.rstate.specs.Histories.{Beginning, first_of, lock_after, steps_in, HaveBeenTold}
use Rattle.rstate.proofs.histories.Following.{event_of, lock_is_after}

watched_push : (steps : List (Event × ChangeLists)) (step : Event × ChangeLists) (ws : Option (List Seen)) → watched_next step.0 step.1 (watched_after steps ws) ≡ watched_after (steps ++ step ∷ []) ws
watched_push steps step None = refl
watched_push steps step (Some ws) = ap Some (given_push steps step ws)

watched_first : (ws : Option (List Seen)) → ws ≡ watched_after [] ws
watched_first None = refl
watched_first (Some ws) = ap Some (sym (given_none ws))

module _ {V E : Type 0} (b : Beginning V) where
  pub told_first : (entries : List (EntryFields E)) (watched : Option (List Seen)) → entries ≡ [] → watched ≡ b.watched → HaveBeenTold b entries watched
  told_first entries watched none is = is ∙ watched_first b.watched ∙ ap (λ (es : List (EntryFields E)). watched_after (steps_in b es) b.watched) (sym none)

  -- after one more entry, whose step they were given
  pub told_next : (m : LockState) (entries entries2 : List (EntryFields E)) (entry : EntryFields E) (watched watched2 : Option (List Seen)) → m ≡ lock_after b entries → HaveBeenTold b entries watched
      → watched2 ≡ watched_next entry.event (changes_between m (next m entry.event)) watched → entries2 ≡ entries ++ entry ∷ [] → HaveBeenTold b entries2 watched2
  told_next m entries entries2 entry watched watched2 is so tells longer =
      let s = after (first_of b) (map event_of entries) in
      let step : Event × ChangeLists = (entry.event, changes_between s (next s entry.event)) in
      tells
      ∙ (λ i. watched_next entry.event (changes_between ((is ∙ lock_is_after b entries) i) (next ((is ∙ lock_is_after b entries) i) entry.event)) (so i))
      ∙ watched_push (steps_in b entries) step b.watched
      ∙ ap (λ steps. watched_after steps b.watched) (sym (steps_push (first_of b) (map event_of entries) entry.event))
      ∙ ap (λ es. watched_after (steps_of (first_of b) es) b.watched) (sym (map-append event_of entries (entry ∷ [])))
      ∙ ap (λ (es : List (EntryFields E)). watched_after (steps_in b es) b.watched) (sym longer)
