-- A history with one more entry: its lines, and the state of the lock.
use Rattle.std.proofs.Common.{◌≡◌, ◌+◌, ◌≤◌, Bool, List, [], ◌∷◌, ◌++◌, length, map, fold, refl, sym, ap, ◌∙◌, arith, append_assoc}
use Rattle.std.proofs.lemmas.List.{append-nil, length-map}
use Rattle.rclaim.specs.declared.event.Event.{Event}
use Rattle.rclaim.specs.declared.event.Event.TheVariants as event
use Rattle.rexpand.specs.Groups.{ReadGroups}
use Rattle.rbound.specs.Bounds.{Numbers}
use Rattle.rcover_laws.specs.declared.wait_end.WaitEnd.{WaitEnd}
use Rattle.rmodel.specs.State.{LockState}
use Rattle.rmodel.specs.Steps.{next}
use Rattle.rtrace_form.specs.Heads.{Head, opening_of}
use Rattle.rtrace_form.specs.Reports.{Entry, lock_after, entry_lines, history_lines}

pub history-push : (whole : Bool) (bounds : WaitEnd → Numbers) (head : Head) (earlier xs : List Entry) (x : Entry)
    → history_lines whole bounds head earlier (xs ++ x ∷ []) ≡ history_lines whole bounds head earlier xs ++ entry_lines whole bounds head (earlier ++ xs) x
unfolding history_lines
history-push whole bounds head earlier [] x = append-nil (entry_lines whole bounds head earlier x) ∙ ap (λ before. entry_lines whole bounds head before x) (sym (append-nil earlier))
history-push whole bounds head earlier (y ∷ xs) x =
    ap (λ lines. entry_lines whole bounds head earlier y ++ lines) (history-push whole bounds head (earlier ++ y ∷ []) xs x)
    ∙ sym (append_assoc (entry_lines whole bounds head earlier y) (history_lines whole bounds head (earlier ++ y ∷ []) xs) (entry_lines whole bounds head ((earlier ++ y ∷ []) ++ xs) x))
    ∙ ap (λ before. (entry_lines whole bounds head earlier y ++ history_lines whole bounds head (earlier ++ y ∷ []) xs) ++ entry_lines whole bounds head before x) (append_assoc earlier (y ∷ []) xs)

-- ---- the lock

next-groups : (s : LockState) (e : Event) → (next s e).groups ≡ s.groups
next-groups s (event.Issue seat r) = refl
next-groups s (event.Finish seat) = refl
next-groups s (event.Rise seat) = refl
next-groups s (event.Ask seat part) = refl

next-seats : (s : LockState) (e : Event) → (next s e).seats ≡ s.seats
next-seats s (event.Issue seat r) = refl
next-seats s (event.Finish seat) = refl
next-seats s (event.Rise seat) = refl
next-seats s (event.Ask seat part) = refl

next-issued : (s : LockState) (e : Event) → (next s e).issued ≤ s.issued + 1
next-issued s (event.Issue seat r) = omega arith
next-issued s (event.Finish seat) = omega arith
next-issued s (event.Rise seat) = omega arith
next-issued s (event.Ask seat part) = omega arith

fold-groups : (s : LockState) (es : List Event) → (fold next s es).groups ≡ s.groups
fold-groups s [] = refl
fold-groups s (e ∷ es) = fold-groups (next s e) es ∙ next-groups s e

fold-seats : (s : LockState) (es : List Event) → (fold next s es).seats ≡ s.seats
fold-seats s [] = refl
fold-seats s (e ∷ es) = fold-seats (next s e) es ∙ next-seats s e

fold-issued : (s : LockState) (es : List Event) → (fold next s es).issued ≤ s.issued + length es
fold-issued s [] = omega arith
fold-issued s (e ∷ es) = let rest = fold-issued (next s e) es in let one = next-issued s e in omega arith

pub lock-resources : (head : Head) (entries : List Entry) → (lock_after head entries).groups.q ≡ length head.resources
lock-resources head entries = ap (λ (g : ReadGroups). g.q) (fold-groups (opening_of head) (map (λ (x : Entry). x.event) entries))

pub lock-tasks : (head : Head) (entries : List Entry) → (lock_after head entries).seats ≡ length head.tasks
lock-tasks head entries = fold-seats (opening_of head) (map (λ (x : Entry). x.event) entries)

pub lock-issued : (head : Head) (entries : List Entry) → (lock_after head entries).issued ≤ length entries
lock-issued head entries =
    let most = fold-issued (opening_of head) (map (λ (x : Entry). x.event) entries) in
    let same = length-map entries (λ (x : Entry). x.event) in
    omega arith
