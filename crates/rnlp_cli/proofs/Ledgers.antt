-- The ledger lines of a report are those of its resources.
use Rattle.std.proofs.Common.{◌≡◌, ℕ, Bool, true, false, List, [], ◌∷◌, ◌++◌, length, filter, map, Option, Some, refl, ap, ◌∙◌}
use Rattle.std.specs.Prelude.{flat_map, option_to_list}
use Rattle.std.specs.List.{range_with_len}
use Rattle.std.proofs.lemmas.List.{append-nil}
use Rattle.std.proofs.lemmas.List.Elements.{filter-append}
use Rattle.rset.specs.Sets.{Set}
use Rattle.rclaim.specs.Changes.{ChangeLists}
use Rattle.rclaim.specs.declared.changes.StatusChange.{StatusChange}
use Rattle.rclaim.specs.declared.claim.Status.{Status}
use Rattle.rclaim.specs.declared.claim.Status.TheVariants.{Waiting, Entitled, Satisfied}
use Rattle.rclaim.specs.declared.event.Event.{Event}
use Rattle.rbound.specs.Bounds.{Numbers}
use Rattle.rcover_laws.specs.declared.wait_end.WaitEnd.{WaitEnd}
use Rattle.rmodel.specs.Changes.{changes_between}
use Rattle.rmodel.specs.State.{LockState}
use Rattle.rmodel.specs.Steps.{next}
use Rattle.rtrace_form.specs.Faults.{is_ledger}
use Rattle.rtrace_form.specs.Heads.{Head}
use Rattle.rtrace_form.specs.Lines.{Line, HasResource, HasGroup, HasTask, HasCap, Does, Leaves, Ends}
use Rattle.rtrace_form.specs.Waits.{ended_in, bound_in}
use Rattle.rtrace_form.specs.Reports.{Entry, Report, lock_after, status_lines, grant_line, change_lines, wait_line, wait_lines, due_lines, entry_lines, history_lines, ledger_lines, ledger_after, declared_lines, head_lines}
use Rattle.rnlp_cli.specs.Headline.{AreLedgersTold}

-- the ledger lines among these
abbrev ledgers : List Line → List Line
ledgers lines = filter is_ledger lines

none_mapped : {X : Type 0} (f : X → Line) → ((x : X) → is_ledger (f x) ≡ false) → (xs : List X) → ledgers (map f xs) ≡ []
none_mapped f each [] = refl
none_mapped f each (x ∷ xs) = rw (each x) (none_mapped f each xs)

both : (xs ys us vs : List Line) → ledgers xs ≡ us → ledgers ys ≡ vs → ledgers (xs ++ ys) ≡ us ++ vs
both xs ys us vs p q = filter-append is_ledger xs ys ∙ (λ i. p i ++ q i)

status_none : (seat : ℕ) (half : Bool) (status : Status) → ledgers (status_lines seat half status) ≡ []
status_none seat half Waiting = refl
status_none seat half Entitled = refl
status_none seat half Satisfied = refl

statuses_none : (changes : List StatusChange) → ledgers (flat_map (λ (c : StatusChange). status_lines c.seat c.write_half c.status) changes) ≡ []
statuses_none [] = refl
statuses_none (c ∷ changes) = both (status_lines c.seat c.write_half c.status) _ [] [] (status_none c.seat c.write_half c.status) (statuses_none changes)

changes_none : (s : LockState) (e : Event) → ledgers (change_lines true s e) ≡ []
unfolding change_lines
changes_none s e =
    let changes : ChangeLists = changes_between s (next s e) in
    both (flat_map (λ (c : StatusChange). status_lines c.seat c.write_half c.status) changes.statuses) (map grant_line changes.grants) [] [] (statuses_none changes.statuses)
    (none_mapped grant_line (λ c. refl) changes.grants)

entry_none : (bounds : WaitEnd → Numbers) (head : Head) (earlier : List Entry) (entry : Entry) → ledgers (entry_lines true bounds head earlier entry) ≡ []
unfolding wait_lines
entry_none bounds head earlier entry =
    both (map Does entry.acts) (due_lines true bounds head earlier entry.event) [] [] (none_mapped Does (λ act. refl) entry.acts)
    (both (change_lines true (lock_after head earlier) entry.event) (map (wait_line bounds) (ended_in head earlier entry.event)) [] [] (changes_none (lock_after head earlier) entry.event)
    (none_mapped (wait_line bounds) (λ w. refl) (ended_in head earlier entry.event)))

history_none : (bounds : WaitEnd → Numbers) (head : Head) (earlier entries : List Entry) → ledgers (history_lines true bounds head earlier entries) ≡ []
unfolding history_lines
history_none bounds head earlier [] = refl
history_none bounds head earlier (entry ∷ entries) =
    both (entry_lines true bounds head earlier entry) (history_lines true bounds head (earlier ++ entry ∷ []) entries) [] [] (entry_none bounds head earlier entry) (history_none bounds head (earlier ++ entry ∷ []) entries)

head_none : (rs : List (List ℕ)) (gs : List Set) (ts : List (List ℕ)) (told : Option ℕ) → ledgers (declared_lines rs gs ts told) ≡ []
head_none rs gs ts told =
    let caps = map HasCap (option_to_list told) in
    both (map HasResource rs) (map HasGroup gs ++ (map HasTask ts ++ caps)) [] [] (none_mapped HasResource (λ x. refl) rs)
    (both (map HasGroup gs) (map HasTask ts ++ caps) [] [] (none_mapped HasGroup (λ x. refl) gs)
    (both (map HasTask ts) caps [] [] (none_mapped HasTask (λ x. refl) ts) (none_mapped HasCap (λ x. refl) (option_to_list told))))

all_mapped : (f : ℕ → Line) → ((l : ℕ) → is_ledger (f l) ≡ true) → (ls : List ℕ) → ledgers (map f ls) ≡ map f ls
all_mapped f each [] = refl
all_mapped f each (l ∷ ls) = rw (each l) (ap (λ (lines : List Line). f l ∷ lines) (all_mapped f each ls))

ledgers_all : (head : Head) (entries : List Entry) → ledgers (ledger_lines true head entries) ≡ map (λ l. Leaves l (ledger_after entries l)) (range_with_len 0 (length head.resources))
unfolding ledger_lines
ledgers_all head entries = all_mapped (λ l. Leaves l (ledger_after entries l)) (λ l. refl) (range_with_len 0 (length head.resources))

-- each resource has its line, by number
pub all_told : (r : Report) → AreLedgersTold r
all_told r =
    let bounds = bound_in r.head r.entries in
    let history = history_lines true bounds r.head [] r.entries in
    let ends = ledger_lines true r.head r.entries in
    let told = map (λ l. Leaves l (ledger_after r.entries l)) (range_with_len 0 (length r.head.resources)) in
    both (head_lines r.head (Some r.head.cap)) (history ++ (ends ++ Ends ∷ [])) [] (told ++ []) (head_none r.head.resources r.head.groups r.head.tasks (Some r.head.cap))
    (both history (ends ++ Ends ∷ []) [] (told ++ []) (history_none bounds r.head [] r.entries) (both ends (Ends ∷ []) told [] (ledgers_all r.head r.entries) refl))
    ∙ append-nil told
