-- Lines without their bounds: those of a report are the same whatever the bounds are.
use Rattle.std.proofs.Common.{◌≡◌, ℕ, Bool, true, false, List, [], ◌∷◌, ◌++◌, drop, length, map, Option, refl, ap, ◌∙◌}
use Rattle.std.specs.Prelude.{flat_map, option_to_list}
use Rattle.std.specs.List.{range_with_len}
use Rattle.std.proofs.lemmas.List.{map-append}
use Rattle.rset.specs.Sets.{Set}
use Rattle.rclaim.specs.Changes.{ChangeLists}
use Rattle.rclaim.specs.declared.changes.StatusChange.{StatusChange}
use Rattle.rclaim.specs.declared.claim.Status.{Status}
use Rattle.rclaim.specs.declared.claim.Status.TheVariants.{Waiting, Entitled, Satisfied}
use Rattle.rclaim.specs.declared.event.Event.{Event}
use Rattle.rbound.specs.Bounds.{Numbers, no_wait}
use Rattle.rcover_laws.specs.declared.wait_end.WaitEnd.{WaitEnd}
use Rattle.rmodel.specs.Changes.{changes_between}
use Rattle.rmodel.specs.State.{LockState}
use Rattle.rmodel.specs.Steps.{next}
use Rattle.rtrace_form.specs.Heads.{Head}
use Rattle.rtrace_form.specs.Lines.{Line, Opens, HasResource, HasGroup, HasTask, HasCap, Happens, Does, Waits, Leaves, Ends}
use Rattle.rtrace_form.specs.Waits.{ended_in, no_bounds}
use Rattle.rtrace_form.specs.Reports.{Entry, Report, declared_lines, head_lines, status_lines, grant_line, change_lines, wait_line, wait_lines, due_lines, entry_lines, history_lines, ledger_lines, ledger_after, lock_after, lines_of}

-- a line, without its bound if it is of a wait
abbrev pub without_bound : Line → Line
without_bound (Waits seat which cover bound) = Waits seat which cover no_wait
without_bound line = line

-- lines, without their bounds
abbrev pub blank : List Line → List Line
blank lines = map without_bound lines

-- none of them has a bound
abbrev pub AreBlank : List Line → Type 0
AreBlank lines = blank lines ≡ lines

unfoldable pub first_line : List Line → Line
first_line [] = Opens
first_line (line ∷ lines) = line

pub first_blank : (first : Line) (lines : List Line) → AreBlank (first ∷ lines) → without_bound first ≡ first
unfolding first_line
first_blank first lines h = ap first_line h

pub blank_behind : (xs ys : List Line) → AreBlank (xs ++ ys) → AreBlank ys
blank_behind [] ys h = h
blank_behind (x ∷ xs) ys h = blank_behind xs ys (ap (drop 1) h)

-- each part without bounds, and so both
pub blank_both : (xs ys us vs : List Line) → blank xs ≡ us → blank ys ≡ vs → blank (xs ++ ys) ≡ us ++ vs
blank_both xs ys us vs p q = map-append without_bound xs ys ∙ (λ i. p i ++ q i)

blank_mapped : {X : Type 0} (f g : X → Line) → ((x : X) → without_bound (f x) ≡ g x) → (xs : List X) → blank (map f xs) ≡ map g xs
blank_mapped f g each [] = refl
blank_mapped f g each (x ∷ xs) = λ i. each x i ∷ blank_mapped f g each xs i

blank_flat : {X : Type 0} (f : X → List Line) → ((x : X) → AreBlank (f x)) → (xs : List X) → AreBlank (flat_map f xs)
blank_flat f each [] = refl
blank_flat f each (x ∷ xs) = blank_both (f x) (flat_map f xs) (f x) (flat_map f xs) (each x) (blank_flat f each xs)

status_blank : (seat : ℕ) (half : Bool) (status : Status) → AreBlank (status_lines seat half status)
status_blank seat half Waiting = refl
status_blank seat half Entitled = refl
status_blank seat half Satisfied = refl

changes_blank : (whole : Bool) (s : LockState) (e : Event) → AreBlank (change_lines whole s e)
unfolding change_lines
changes_blank true s e =
    let changes : ChangeLists = changes_between s (next s e) in
    let statuses = flat_map (λ (c : StatusChange). status_lines c.seat c.write_half c.status) changes.statuses in
    blank_both statuses (map grant_line changes.grants) statuses (map grant_line changes.grants)
    (blank_flat (λ (c : StatusChange). status_lines c.seat c.write_half c.status) (λ c. status_blank c.seat c.write_half c.status) changes.statuses)
    (blank_mapped grant_line grant_line (λ c. refl) changes.grants)
changes_blank false s e = refl

waits_blank : (whole : Bool) (bounds : WaitEnd → Numbers) (head : Head) (earlier : List Entry) (e : Event) → blank (wait_lines whole bounds head earlier e) ≡ wait_lines whole no_bounds head earlier e
unfolding wait_lines
waits_blank true bounds head earlier e = blank_mapped (wait_line bounds) (wait_line no_bounds) (λ w. refl) (ended_in head earlier e)
waits_blank false bounds head earlier e = refl

pub due_blank : (whole : Bool) (bounds : WaitEnd → Numbers) (head : Head) (earlier : List Entry) (e : Event) → blank (due_lines whole bounds head earlier e) ≡ due_lines whole no_bounds head earlier e
due_blank whole bounds head earlier e =
    let changes = change_lines whole (lock_after head earlier) e in
    blank_both changes (wait_lines whole bounds head earlier e) changes (wait_lines whole no_bounds head earlier e) (changes_blank whole (lock_after head earlier) e) (waits_blank whole bounds head earlier e)

pub history_blank : (whole : Bool) (bounds : WaitEnd → Numbers) (head : Head) (earlier entries : List Entry) → blank (history_lines whole bounds head earlier entries) ≡ history_lines whole no_bounds head earlier entries
unfolding history_lines
history_blank whole bounds head earlier [] = refl
history_blank whole bounds head earlier (entry ∷ entries) =
    blank_both (entry_lines whole bounds head earlier entry) (history_lines whole bounds head (earlier ++ entry ∷ []) entries)
    (entry_lines whole no_bounds head earlier entry) (history_lines whole no_bounds head (earlier ++ entry ∷ []) entries)
    (ap (λ (lines : List Line). Happens entry.event ∷ lines)
    (blank_both (map Does entry.acts) (due_lines whole bounds head earlier entry.event) (map Does entry.acts) (due_lines whole no_bounds head earlier entry.event)
    (blank_mapped Does Does (λ act. refl) entry.acts) (due_blank whole bounds head earlier entry.event)))
    (history_blank whole bounds head (earlier ++ entry ∷ []) entries)

pub declared_blank : (rs : List (List ℕ)) (gs : List Set) (ts : List (List ℕ)) (told : Option ℕ) → AreBlank (declared_lines rs gs ts told)
declared_blank rs gs ts told =
    let caps = map HasCap (option_to_list told) in
    ap (λ (lines : List Line). Opens ∷ lines)
    (blank_both (map HasResource rs) (map HasGroup gs ++ (map HasTask ts ++ caps)) (map HasResource rs) (map HasGroup gs ++ (map HasTask ts ++ caps)) (blank_mapped HasResource HasResource (λ x. refl) rs)
    (blank_both (map HasGroup gs) (map HasTask ts ++ caps) (map HasGroup gs) (map HasTask ts ++ caps) (blank_mapped HasGroup HasGroup (λ x. refl) gs)
    (blank_both (map HasTask ts) caps (map HasTask ts) caps (blank_mapped HasTask HasTask (λ x. refl) ts) (blank_mapped HasCap HasCap (λ x. refl) (option_to_list told)))))

pub ledgers_blank : (whole : Bool) (head : Head) (entries : List Entry) → AreBlank (ledger_lines whole head entries)
unfolding ledger_lines
ledgers_blank true head entries = blank_mapped (λ l. Leaves l (ledger_after entries l)) (λ l. Leaves l (ledger_after entries l)) (λ l. refl) (range_with_len 0 (length head.resources))
ledgers_blank false head entries = refl

-- the lines of a head and a history, without bounds
pub front_blank : (whole : Bool) (head : Head) (told : Option ℕ) (entries : List Entry) → AreBlank (head_lines head told ++ history_lines whole no_bounds head [] entries)
front_blank whole head told entries =
    let history = history_lines whole no_bounds head [] entries in
    blank_both (head_lines head told) history (head_lines head told) history (declared_blank head.resources head.groups head.tasks told) (history_blank whole no_bounds head [] entries)

-- *The lines of a report without bounds are the same whatever the bounds are*
pub lines_blank : (whole : Bool) (bounds : WaitEnd → Numbers) (told : Option ℕ) (r : Report) → blank (lines_of whole bounds told r) ≡ lines_of whole no_bounds told r
lines_blank whole bounds told r =
    let history = history_lines whole bounds r.head [] r.entries in
    let blanked = history_lines whole no_bounds r.head [] r.entries in
    let ledgers = ledger_lines whole r.head r.entries in
    blank_both (head_lines r.head told) (history ++ (ledgers ++ Ends ∷ [])) (head_lines r.head told) (blanked ++ (ledgers ++ Ends ∷ []))
    (declared_blank r.head.resources r.head.groups r.head.tasks told)
    (blank_both history (ledgers ++ Ends ∷ []) blanked (ledgers ++ Ends ∷ []) (history_blank whole bounds r.head [] r.entries)
    (blank_both ledgers (Ends ∷ []) ledgers (Ends ∷ []) (ledgers_blank whole r.head r.entries) refl))
