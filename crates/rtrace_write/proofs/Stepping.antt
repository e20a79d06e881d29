-- A history that is stepped through again.
use Rattle.std.proofs.Common.{◌≡◌, ℕ, zero, suc, ◌+◌, ◌<◌, ◌^◌, true, List, [], ◌∷◌, ◌++◌, take, length, get_or, Option, refl, sym, ap, subst, ◌∙◌, arith, append_assoc}
use Rattle.std.proofs.lemmas.List.{append-nil, map-append, take_more, length-map, length-take-le}
use Rattle.rclaim.specs.declared.event.Event.{Event}
use Rattle.rcover_laws.specs.Ended.{ended_by}
use Rattle.rmodel.specs.Changes.{changes_between}
use Rattle.rmodel.specs.State.{LockState}
use Rattle.rmodel.specs.Steps.{AreAccepted, Comes, next}
use Rattle.rvalue.specs.InTurn.{AllInTurn}
use Rattle.rtrace_write.specs.Past.{Past, start_of, state_of, with_event}
use Rattle.rtrace_form.specs.Fields.{Names}
use Rattle.rtrace_form.specs.Heads.{Head, opening_of, read_groups}
use Rattle.rtrace_form.specs.Reports.{Entry, lock_after, entry_lines, history_lines, change_lines, wait_lines, IsLawful, IsRightEntry}
use Rattle.rtrace_form.specs.Waits.{events_of, ended_in, ended_from, all_ended, no_bounds}
use Rattle.rtrace_form.proofs.lists.Histories.{history-push}
use Rattle.rtrace_form.proofs.lists.ToldWaits.{all_ended_push}
use Rattle.rtrace_form.proofs.written.Reaching.{after_is, accepted_from}
use Rattle.rtrace_write.specs.Behind.{past_in}
use Rattle.rtrace_write.specs.Open.{open_told}
use Rattle.rtrace_write.specs.Report.{ReportFields, told_by, IsOverResources}
use Rattle.rtrace_write.specs.Told.{entry_told}
use Rattle.rtrace_write.proofs.Opening.{open_grown}

-- what holds of each item in turn holds of the item at a place
in_turn_at : {A : Type 0} (Fits : List A → A → Type 0) (earlier xs : List A) (i : ℕ) (d : A) → AllInTurn Fits earlier xs → i < length xs → Fits (earlier ++ take i xs) (get_or xs i d)
in_turn_at Fits earlier [] i d all within = absurd (omega arith)
in_turn_at Fits earlier (x ∷ xs) zero d all within = subst (λ before. Fits before x) (sym (append-nil earlier)) all.0
in_turn_at Fits earlier (x ∷ xs) (suc i) d all within =
    subst (λ before. Fits before (get_or xs i d)) (append_assoc earlier (x ∷ []) (take i xs)) (in_turn_at Fits (earlier ++ x ∷ []) xs i d all.1 (omega (arith, within)))

-- the state after entries is the one that the lock has after them
state_is : (head : Head) (entries : List Entry) → state_of (past_in head entries) ≡ lock_after head entries
state_is head entries = after_is (opening_of head) (events_of entries)

-- the events of a lawful history are accepted, one after another
pub all_accepted : (head : Head) (entries : List Entry) → IsLawful head entries → AreAccepted (start_of (past_in head entries)) (events_of entries)
all_accepted head entries lawful = accepted_from head [] entries lawful

module _ (head : Head) (entries : List Entry) (i : ℕ) (x : Entry) (within : i < length entries) (at : x ≡ get_or entries i x) where
  abbrev before : Past
  before = past_in head (take i entries)

  -- the event of the entry at a place comes after those before it
  pub comes_here : IsLawful head entries → Comes (state_of before) x.event
  comes_here lawful =
      subst (λ (s : LockState). Comes s x.event) (sym (state_is head (take i entries)))
      (subst (λ (y : Entry). IsRightEntry head (take i entries) y) (sym at) (in_turn_at (IsRightEntry head) [] entries i x lawful within)).comes

  -- there are fewer events than the limit
  pub few_events : length entries < 2 ^ 63 → length before.events < 2 ^ 63
  few_events few =
      let events = length-map (take i entries) (λ (entry : Entry). entry.event) in
      let front = length-take-le i entries (omega (arith, within)) in
      omega arith

  more : take (i + 1) entries ≡ take i entries ++ x ∷ []
  more = take_more entries i x within ∙ ap (λ y. take i entries ++ y ∷ []) (sym at)

  -- the events with that of the entry
  pub past_more : with_event before x.event ≡ past_in head (take (i + 1) entries)
  past_more = ap (λ (es : List Event). record before { events = es }) (sym (map-append (λ (entry : Entry). entry.event) (take i entries) (x ∷ []))) ∙ ap (past_in head) (sym more)

  -- the waits that ended, with those that the entry's event ended
  pub ended_more : all_ended head (take i entries) ++ ended_by (start_of before) before.events x.event ≡ all_ended head (take (i + 1) entries)
  unfolding ended_in
  ended_more = sym (all_ended_push head (take i entries) x) ∙ ap (all_ended head) (sym more)

  entry_is : entry_told x (changes_between (state_of before) (next (state_of before) x.event)) (ended_by (start_of before) before.events x.event) ≡ entry_lines true no_bounds head (take i entries) x
  unfolding change_lines wait_lines ended_in
  entry_is = ap (λ (s : LockState). entry_told x (changes_between s (next s x.event)) (ended_by (start_of before) before.events x.event)) (state_is head (take i entries))

  -- the text of one more entry
  pub text_more : (names : Names) (old sofar now : List (Option ℕ))
      → sofar ≡ old ++ open_told names (history_lines true no_bounds head [] (take i entries))
      → now ≡ sofar ++ open_told names (entry_told x (changes_between (state_of before) (next (state_of before) x.event)) (ended_by (start_of before) before.events x.event))
      → now ≡ old ++ open_told names (history_lines true no_bounds head [] (take (i + 1) entries))
  text_more names old sofar now e f =
      open_grown names old sofar now (history_lines true no_bounds head [] (take i entries)) _ e f
      ∙ ap (λ lines. old ++ open_told names (history_lines true no_bounds head [] (take i entries) ++ lines)) entry_is
      ∙ ap (λ lines. old ++ open_told names lines) (sym (history-push true no_bounds head [] (take i entries) x))
      ∙ ap (λ some. old ++ open_told names (history_lines true no_bounds head [] some)) (sym more)

-- nothing was appended yet
pub nothing_told : (names : Names) (head : Head) (text : List (Option ℕ)) → text ≡ text ++ open_told names (history_lines true no_bounds head [] [])
unfolding history_lines
nothing_told names head text = sym (append-nil text)

-- and no wait ended
pub nothing_ended : (head : Head) → all_ended head [] ≡ []
unfolding ended_from
nothing_ended head = refl

-- the groups of a report over its resources are those of its head
pub groups_are : (r : ReportFields) → IsOverResources r → r.groups ≡ read_groups (told_by r).head
groups_are r over = λ i. record { q = over i; groups = r.groups.groups }
