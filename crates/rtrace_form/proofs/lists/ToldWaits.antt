-- The lines of waits in an entry are those of the waits that its event ends.
use Rattle.std.proofs.Common.{◌≡◌, ℕ, ◌||◌, cond, Bool, true, false, List, [], ◌∷◌, ◌++◌, length, filter, map, Option, refl, sym, ap, ◌∙◌, append_assoc, true≢false}
use Rattle.std.specs.Prelude.{flat_map, option_to_list}
use Rattle.std.specs.List.{range_with_len, list_any}
use Rattle.std.proofs.lemmas.List.{append-nil, map-append}
use Rattle.rset.specs.Sets.{Set}
use Rattle.std.proofs.lemmas.List.Elements.{filter-append}
use Rattle.rclaim.specs.Changes.{ChangeLists}
use Rattle.rclaim.specs.declared.changes.StatusChange.{StatusChange}
use Rattle.rclaim.specs.declared.claim.Status.{Status}
use Rattle.rclaim.specs.declared.claim.Status.TheVariants.{Waiting, Entitled, Satisfied}
use Rattle.rclaim.specs.declared.event.Event.{Event}
use Rattle.rbound.specs.Bounds.{Numbers}
use Rattle.rcover_laws.specs.declared.wait_end.WaitEnd.{WaitEnd}
use Rattle.rmodel.specs.Changes.{changes_between}
use Rattle.rmodel.specs.State.{LockState}
use Rattle.rmodel.specs.Steps.{next}
use Rattle.rtrace_form.specs.Heads.{Head}
use Rattle.rtrace_form.specs.Lines.{Line, HasResource, HasGroup, HasTask, HasCap, Happens, Does, Leaves, Ends}
use Rattle.rtrace_form.specs.Waits.{ended_in, ended_from, all_ended}
use Rattle.rtrace_form.specs.Reports.{Entry, Report, lock_after, status_lines, grant_line, change_lines, wait_line, wait_lines, due_lines, entry_lines, history_lines, ledger_lines, ledger_after, declared_lines, head_lines}
use Rattle.rtrace_form.specs.ToldWaits.{tells_wait, EachWaitIsTold, AllWaitsAreTold}

is_filled : List Line → Bool
is_filled [] = false
is_filled (line ∷ lines) = true

-- the lines of waits among these
abbrev waits : List Line → List Line
waits lines = filter tells_wait lines

none_mapped : {X : Type 0} (f : X → Line) → ((x : X) → tells_wait (f x) ≡ false) → (xs : List X) → waits (map f xs) ≡ []
none_mapped f each [] = refl
none_mapped f each (x ∷ xs) = rw (each x) (none_mapped f each xs)

both : (xs ys us vs : List Line) → waits xs ≡ us → waits ys ≡ vs → waits (xs ++ ys) ≡ us ++ vs
both xs ys us vs p q = filter-append tells_wait xs ys ∙ (λ i. p i ++ q i)

status_none : (seat : ℕ) (half : Bool) (status : Status) → waits (status_lines seat half status) ≡ []
status_none seat half Waiting = refl
status_none seat half Entitled = refl
status_none seat half Satisfied = refl

statuses_none : (changes : List StatusChange) → waits (flat_map (λ (c : StatusChange). status_lines c.seat c.write_half c.status) changes) ≡ []
statuses_none [] = refl
statuses_none (c ∷ changes) = both (status_lines c.seat c.write_half c.status) _ [] [] (status_none c.seat c.write_half c.status) (statuses_none changes)

changes_none : (s : LockState) (e : Event) → waits (change_lines true s e) ≡ []
unfolding change_lines
changes_none s e =
    let changes : ChangeLists = changes_between s (next s e) in
    both (flat_map (λ (c : StatusChange). status_lines c.seat c.write_half c.status) changes.statuses) (map grant_line changes.grants) [] [] (statuses_none changes.statuses)
    (none_mapped grant_line (λ c. refl) changes.grants)

all_waits : (bounds : WaitEnd → Numbers) (ws : List WaitEnd) → waits (map (wait_line bounds) ws) ≡ map (wait_line bounds) ws
all_waits bounds [] = refl
all_waits bounds (w ∷ ws) = ap (λ (lines : List Line). wait_line bounds w ∷ lines) (all_waits bounds ws)

entry_waits : (bounds : WaitEnd → Numbers) (head : Head) (earlier : List Entry) (entry : Entry) → waits (entry_lines true bounds head earlier entry) ≡ map (wait_line bounds) (ended_in head earlier entry.event)
unfolding wait_lines
entry_waits bounds head earlier entry =
    let told = map (wait_line bounds) (ended_in head earlier entry.event) in
    both (map Does entry.acts) (due_lines true bounds head earlier entry.event) [] told (none_mapped Does (λ act. refl) entry.acts)
    (both (change_lines true (lock_after head earlier) entry.event) told [] told (changes_none (lock_after head earlier) entry.event) (all_waits bounds (ended_in head earlier entry.event)))

none_any : (lines : List Line) → waits lines ≡ [] → list_any tells_wait lines ≡ false
unfolding is_filled
none_any [] none = refl
none_any (line ∷ lines) none = at (tells_wait line) (none_any lines) none
  where
    at : (b : Bool) → (waits lines ≡ [] → list_any tells_wait lines ≡ false) → cond b (line ∷ waits lines) (waits lines) ≡ [] → (b || list_any tells_wait lines) ≡ false
    at true rest e = absurd (true≢false (ap is_filled e))
    at false rest e = rest e

pub each_told : (bounds : WaitEnd → Numbers) (head : Head) (earlier : List Entry) (entry : Entry) → EachWaitIsTold bounds head earlier entry
unfolding wait_lines
each_told bounds head earlier entry =
    let acts = map Does entry.acts in
    let changes = change_lines true (lock_after head earlier) entry.event in
    let ended = map (wait_line bounds) (ended_in head earlier entry.event) in
    record {
      before = Happens entry.event ∷ (acts ++ changes);
      none = none_any (acts ++ changes) (both acts changes [] [] (none_mapped Does (λ act. refl) entry.acts) (changes_none (lock_after head earlier) entry.event));
      are = ap (λ (lines : List Line). Happens entry.event ∷ lines) (sym (append_assoc acts changes ended));
    }

history_told : (bounds : WaitEnd → Numbers) (head : Head) (earlier entries : List Entry) → waits (history_lines true bounds head earlier entries) ≡ map (wait_line bounds) (ended_from head earlier entries)
unfolding history_lines ended_from
history_told bounds head earlier [] = refl
history_told bounds head earlier (entry ∷ entries) =
    both (entry_lines true bounds head earlier entry) (history_lines true bounds head (earlier ++ entry ∷ []) entries) _ _ (entry_waits bounds head earlier entry) (history_told bounds head (earlier ++ entry ∷ []) entries)
    ∙ sym (map-append (wait_line bounds) (ended_in head earlier entry.event) (ended_from head (earlier ++ entry ∷ []) entries))

head_none : (rs : List (List ℕ)) (gs : List Set) (ts : List (List ℕ)) (told : Option ℕ) → waits (declared_lines rs gs ts told) ≡ []
head_none rs gs ts told =
    let caps = map HasCap (option_to_list told) in
    both (map HasResource rs) (map HasGroup gs ++ (map HasTask ts ++ caps)) [] [] (none_mapped HasResource (λ x. refl) rs)
    (both (map HasGroup gs) (map HasTask ts ++ caps) [] [] (none_mapped HasGroup (λ x. refl) gs)
    (both (map HasTask ts) caps [] [] (none_mapped HasTask (λ x. refl) ts) (none_mapped HasCap (λ x. refl) (option_to_list told))))

ledgers_none : (head : Head) (entries : List Entry) → waits (ledger_lines true head entries) ≡ []
unfolding ledger_lines
ledgers_none head entries = none_mapped (λ l. Leaves l (ledger_after entries l)) (λ l. refl) (range_with_len 0 (length head.resources))

pub all_told : (bounds : WaitEnd → Numbers) (told : Option ℕ) (r : Report) → AllWaitsAreTold bounds told r
all_told bounds told r =
    let history = history_lines true bounds r.head [] r.entries in
    let ledgers = ledger_lines true r.head r.entries in
    let ws = map (wait_line bounds) (all_ended r.head r.entries) in
    both (head_lines r.head told) (history ++ (ledgers ++ Ends ∷ [])) [] (ws ++ []) (head_none r.head.resources r.head.groups r.head.tasks told)
    (both history (ledgers ++ Ends ∷ []) ws [] (history_told bounds r.head [] r.entries) (both ledgers (Ends ∷ []) [] [] (ledgers_none r.head r.entries) refl))
    ∙ append-nil ws

-- ---- one more entry

ended_push : (head : Head) (earlier entries : List Entry) (entry : Entry) → ended_from head earlier (entries ++ entry ∷ []) ≡ ended_from head earlier entries ++ ended_in head (earlier ++ entries) entry.event
unfolding ended_from
ended_push head earlier [] entry = append-nil (ended_in head earlier entry.event) ∙ ap (λ (before : List Entry). ended_in head before entry.event) (sym (append-nil earlier))
ended_push head earlier (x ∷ entries) entry =
    ap (λ (ws : List WaitEnd). ended_in head earlier x.event ++ ws)
    (ended_push head (earlier ++ x ∷ []) entries entry ∙ ap (λ (before : List Entry). ended_from head (earlier ++ x ∷ []) entries ++ ended_in head before entry.event) (append_assoc earlier (x ∷ []) entries))
    ∙ sym (append_assoc (ended_in head earlier x.event) (ended_from head (earlier ++ x ∷ []) entries) (ended_in head (earlier ++ x ∷ entries) entry.event))

-- *With one more entry a history ends the waits that its event ends*
pub all_ended_push : (head : Head) (entries : List Entry) (entry : Entry) → all_ended head (entries ++ entry ∷ []) ≡ all_ended head entries ++ ended_in head entries entry.event
all_ended_push head entries entry = ended_push head [] entries entry
