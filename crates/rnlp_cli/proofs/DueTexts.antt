-- The texts of due lines, and the first of those that are left after some.
use Rattle.std.proofs.Common.{◌≡◌, ℕ, zero, suc, ◌<◌, ◌≤◌, Bool, true, List, [], ◌∷◌, ◌++◌, length, map, drop, get_or, Option, Some, None, refl, sym, ap, ◌∙◌, arith, true≢false, append_assoc, inl, inr}
use Rattle.std.specs.Prelude.{option_map, slice_get, ◌⊎◌}
use Rattle.std.specs.List.{range_with_len}
use Rattle.std.proofs.Math.Seq.{drop-nil}
use Rattle.std.proofs.lemmas.List.{append-nil, map-append}
use Rattle.std.proofs.lemmas.List.FromFn.{get_or-map-range_with_len, length-map-range_with_len}
use Rattle.std.proofs.lemmas.Option.{slice_get-map, slice_get-get_or, slice_get_past, slice_get_cases}
use Rattle.std.proofs.lemmas.Simd.{map-map}
use Rattle.rclaim.specs.Changes.{ChangeLists}
use Rattle.rclaim.specs.declared.changes.StatusChange.{StatusChange}
use Rattle.rclaim.specs.declared.claim.Status.{Status}
use Rattle.rclaim.specs.declared.claim.Status.TheVariants.{Waiting, Entitled, Satisfied}
use Rattle.rmodel.specs.Changes.{AreActive}
use Rattle.rmodel.specs.Claims.{active_by}
use Rattle.rcover_laws.specs.declared.wait_end.WaitEnd.{WaitEnd}
use Rattle.rvalue.specs.declared.ledger.Ledger.{Ledger}
use Rattle.rtrace_form.specs.Fields.{Names}
use Rattle.rtrace_form.specs.Lines.{Line, BecomesEntitled, BecomesSatisfied, Leaves}
use Rattle.rtrace_form.specs.Reports.{status_lines, status_line, grant_line, wait_line}
use Rattle.rtrace_form.specs.Waits.{no_bounds}
use Rattle.rtrace_read.specs.Due.{change_list, due_list}
use Rattle.rtrace_write.specs.Told.{told, told_line}
use Rattle.rnlp_cli.specs.Due.{as_text, due_text}
use Rattle.rnlp_cli.specs.DueLines.{due_texts, ledger_text}

-- ---- changes and waits

status_text : (names : Names) (seat : ℕ) (half : Bool) (status : Status) → active_by status ≡ true
    → told names (status_lines seat half status) ≡ due_text names (status_line (record { seat = seat; write_half = half; status = status }))
status_text names seat half Waiting h = absurd (true≢false (sym h))
status_text names seat half Entitled h = append-nil (told_line names (BecomesEntitled seat half))
status_text names seat half Satisfied h = append-nil (told_line names (BecomesSatisfied seat half))

status_texts : (names : Names) (changes : List StatusChange) → AreActive changes
    → map (λ (c : StatusChange). told names (status_lines c.seat c.write_half c.status)) changes ≡ map (due_text names) (map status_line changes)
status_texts names [] active = refl
status_texts names (c ∷ changes) active = λ i. status_text names c.seat c.write_half c.status active.0 i ∷ status_texts names changes active.1 i

-- each line that is due has its text
pub due_texts_are : (names : Names) (changes : ChangeLists) (ended : List WaitEnd) → AreActive changes.statuses → due_texts names changes ended ≡ map (due_text names) (due_list changes ended)
due_texts_are names changes ended active =
    let text = due_text names in
    let statuses = map text (map status_line changes.statuses) in
    let grants = map text (map grant_line changes.grants) in
    let waits = map text (map (wait_line no_bounds) ended) in
    (λ i. status_texts names changes.statuses active i ++ (sym (map-map text grant_line changes.grants) i ++ sym (map-map text (wait_line no_bounds) ended) i))
    ∙ sym (append_assoc statuses grants waits)
    ∙ ap (λ (front : List (List ℕ)). front ++ waits) (sym (map-append text (map status_line changes.statuses) (map grant_line changes.grants)))
    ∙ sym (map-append text (change_list changes) (map (wait_line no_bounds) ended))

-- ---- the first that is left

first_at : {X : Type 0} (xs : List X) (n : ℕ) → slice_get (drop n xs) 0 ≡ slice_get xs n
first_at [] n = ap (λ (ys : List _). slice_get ys 0) (drop-nil n)
first_at (x ∷ xs) zero = refl
first_at (x ∷ xs) (suc n) = first_at xs n

twice : {A B C : Type 0} (g : B → C) (f : A → B) (o : Option A) → option_map (λ a. g (f a)) o ≡ option_map g (option_map f o)
twice g f None = refl
twice g f (Some a) = refl

-- the first of the lines that are left is the one at that place
pub first_left : (names : Names) (lines : List Line) (n : ℕ) (due : List Line) → due ≡ drop n lines
    → option_map (λ (line : Line). as_text (due_text names line)) (slice_get due 0) ≡ option_map as_text (slice_get (map (due_text names) lines) n)
first_left names lines n due is =
    ap (option_map (λ (line : Line). as_text (due_text names line))) (ap (λ (xs : List Line). slice_get xs 0) is ∙ first_at lines n)
    ∙ twice as_text (due_text names) (slice_get lines n)
    ∙ ap (option_map as_text) (sym (slice_get-map (due_text names) lines n))

-- ---- ledgers

abbrev text_at : Names → (ℕ → Ledger) → ℕ → List ℕ
text_at names ledger l = told_line names (Leaves l (ledger l))

-- the lines for ledgers by number have the texts of the ledgers at their places
pub ledger_texts : (names : Names) (items : List Ledger) (n : ℕ) (ledger : ℕ → Ledger) → length items ≡ n → ((l : ℕ) → l < n → slice_get items l ≡ Some (ledger l)) → (place : ℕ)
    → slice_get (map (due_text names) (map (λ (l : ℕ). Leaves l (ledger l)) (range_with_len 0 n))) place ≡ ledger_text names items place
ledger_texts names items n ledger many each place =
    ap (λ (texts : List (List ℕ)). slice_get texts place) (map-map (due_text names) (λ (l : ℕ). Leaves l (ledger l)) (range_with_len 0 n)) ∙ at ((slice_get_cases items place).1)
  where
    long : length (map (text_at names ledger) (range_with_len 0 n)) ≡ n
    long = length-map-range_with_len (text_at names ledger) 0 n

    at : ((x : Ledger) × (place < length items) × (slice_get items place ≡ Some x) × (get_or items place x ≡ x)) ⊎ ((length items ≤ place) × (slice_get items place ≡ None))
        → slice_get (map (text_at names ledger) (range_with_len 0 n)) place ≡ ledger_text names items place
    at (inl h) =
        let there = h.1 in
        let low : place < n = omega (arith, many, there) in
        slice_get-get_or (map (text_at names ledger) (range_with_len 0 n)) place [] (omega (arith, long, low))
        ∙ ap Some (get_or-map-range_with_len (text_at names ledger) 0 n place place [] low (omega arith))
        ∙ sym (ap (option_map (λ (given : Ledger). told_line names (Leaves place given))) (each place low))
    at (inr h) =
        let past = h.0 in
        slice_get_past (map (text_at names ledger) (range_with_len 0 n)) place (omega (arith, many, long, past))
        ∙ sym (ap (option_map (λ (given : Ledger). told_line names (Leaves place given))) h.1)
