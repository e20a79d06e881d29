-- Each wait in a report is within its bound.
use Rattle.std.proofs.Common.{◌≡◌, ℕ, Bool, true, List, [], ◌∷◌, ◌++◌, length, map, Some, ◌∙◌, refl, append_assoc}
use Rattle.std.specs.Prelude.{flat_map}
use Rattle.std.specs.List.{AllByRecursion, range_with_len}
use Rattle.rclaim.specs.Changes.{ChangeLists}
use Rattle.rclaim.specs.declared.changes.StatusChange.{StatusChange}
use Rattle.rclaim.specs.declared.claim.Status.{Status}
use Rattle.rclaim.specs.declared.claim.Status.TheVariants.{Waiting, Entitled, Satisfied}
use Rattle.rclaim.specs.declared.event.Event.{Event}
use Rattle.rmodel.specs.Changes.{changes_between}
use Rattle.rmodel.specs.State.{LockState}
use Rattle.rmodel.specs.Steps.{next}
use Rattle.rmodel.proofs.ListFacts.{all_append, all_map}
use Rattle.rtrace_form.specs.Lines.{Line, HasResource, HasGroup, HasTask, HasCap, Does, Leaves, Ends}
use Rattle.rtrace_form.specs.Waits.{bound_in}
use Rattle.rtrace_form.specs.Reports.{Entry, Report, status_lines, grant_line, change_lines, wait_lines, due_lines, entry_lines, history_lines, ledger_lines, ledger_after, head_lines, lock_after, lines_of}
use Rattle.rtrace_form.specs.ToldWaits.{IsWithinBound}
use Rattle.rtrace_form.specs.Written.{MayBeWritten}
use Rattle.rtrace_form.proofs.waits.GoodWaits.{waits_within}

abbrev AreWithin : List Line → Type 0
AreWithin lines = AllByRecursion IsWithinBound lines

both : (xs ys : List Line) → AreWithin xs → AreWithin ys → AreWithin (xs ++ ys)
both xs ys a b = all_append IsWithinBound xs ys a b

status_within : (seat : ℕ) (half : Bool) (status : Status) → AreWithin (status_lines seat half status)
status_within seat half Waiting = tt
status_within seat half Entitled = (tt, tt)
status_within seat half Satisfied = (tt, tt)

statuses_within : (changes : List StatusChange) → AreWithin (flat_map (λ (c : StatusChange). status_lines c.seat c.write_half c.status) changes)
statuses_within [] = tt
statuses_within (c ∷ changes) = both (status_lines c.seat c.write_half c.status) _ (status_within c.seat c.write_half c.status) (statuses_within changes)

changes_within : (s : LockState) (e : Event) → AreWithin (change_lines true s e)
unfolding change_lines
changes_within s e =
    let changes : ChangeLists = changes_between s (next s e) in
    both (flat_map (λ (c : StatusChange). status_lines c.seat c.write_half c.status) changes.statuses) (map grant_line changes.grants) (statuses_within changes.statuses)
    (all_map grant_line IsWithinBound changes.grants (λ c there. tt))

module _ (r : Report) (h : MayBeWritten r) where
  entry_within : (earlier : List Entry) (entry : Entry) (rest : List Entry) → earlier ++ entry ∷ rest ≡ r.entries → AreWithin (entry_lines true (bound_in r.head r.entries) r.head earlier entry)
  entry_within earlier entry rest all = (
    tt,
    both (map Does entry.acts) (due_lines true (bound_in r.head r.entries) r.head earlier entry.event) (all_map Does IsWithinBound entry.acts (λ act there. tt))
        (both (change_lines true (lock_after r.head earlier) entry.event) (wait_lines true (bound_in r.head r.entries) r.head earlier entry.event)
        (changes_within (lock_after r.head earlier) entry.event) (waits_within r.head r.entries h.lawful h.cap_low h.cap_high earlier entry rest all)),
  )

  history_within : (earlier entries : List Entry) → earlier ++ entries ≡ r.entries → AreWithin (history_lines true (bound_in r.head r.entries) r.head earlier entries)
  unfolding history_lines
  history_within earlier [] all = tt
  history_within earlier (entry ∷ entries) all =
      both (entry_lines true (bound_in r.head r.entries) r.head earlier entry) (history_lines true (bound_in r.head r.entries) r.head (earlier ++ entry ∷ []) entries)
      (entry_within earlier entry entries all) (history_within (earlier ++ entry ∷ []) entries (append_assoc earlier (entry ∷ []) entries ∙ all))

  ledgers_within : AreWithin (ledger_lines true r.head r.entries)
  unfolding ledger_lines
  ledgers_within = all_map (λ l. Leaves l (ledger_after r.entries l)) IsWithinBound (range_with_len 0 (length r.head.resources)) (λ l there. tt)

  head_within : AreWithin (head_lines r.head (Some r.head.cap))
  head_within = (
    tt,
    both (map HasResource r.head.resources) (map HasGroup r.head.groups ++ (map HasTask r.head.tasks ++ HasCap r.head.cap ∷ [])) (all_map HasResource IsWithinBound r.head.resources (λ x there. tt))
        (both (map HasGroup r.head.groups) (map HasTask r.head.tasks ++ HasCap r.head.cap ∷ []) (all_map HasGroup IsWithinBound r.head.groups (λ x there. tt))
        (both (map HasTask r.head.tasks) (HasCap r.head.cap ∷ []) (all_map HasTask IsWithinBound r.head.tasks (λ x there. tt)) (tt, tt))),
  )

pub lines_within : (r : Report) → MayBeWritten r → AreWithin (lines_of true (bound_in r.head r.entries) (Some r.head.cap) r)
lines_within r h =
    let history = history_lines true (bound_in r.head r.entries) r.head [] r.entries in
    let ledgers = ledger_lines true r.head r.entries in
    both (head_lines r.head (Some r.head.cap)) (history ++ (ledgers ++ Ends ∷ [])) (head_within r h)
    (both history (ledgers ++ Ends ∷ []) (history_within r h [] r.entries refl) (both ledgers (Ends ∷ []) (ledgers_within r h) (tt, tt)))
