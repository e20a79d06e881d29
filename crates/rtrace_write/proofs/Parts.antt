-- The text of a report in three parts: its head, its history, and its ending.
use Rattle.std.proofs.Common.{◌≡◌, ℕ, zero, suc, ◌+◌, true, List, [], ◌∷◌, ◌++◌, map, length, Some, sym, ap, ◌∙◌, refl}
use Rattle.std.specs.List.{range_with_len}
use Rattle.rset.specs.Sets.{Set}
use Rattle.rvalue.specs.declared.ledger.Ledger.{Ledger}
use Rattle.rtrace_form.specs.Fields.{Names}
use Rattle.rtrace_form.specs.Heads.{Head, names_of}
use Rattle.rtrace_form.specs.Lines.{Leaves, Ends}
use Rattle.rtrace_form.specs.Reports.{Entry, Report, ledger_after, declared_lines, history_lines, ledger_lines}
use Rattle.rtrace_form.specs.Texts.{report_text}
use Rattle.rtrace_form.specs.Waits.{bound_in}
use Rattle.rtrace_write.specs.Told.{told, leaves_from}
use Rattle.rtrace_write.proofs.Growing.{told-append}

leaves_are : (f : ℕ → Ledger) (a n : ℕ) → leaves_from a (map f (range_with_len a n)) ≡ map (λ l. Leaves l (f l)) (range_with_len a n)
leaves_are f a zero = refl
leaves_are f a (suc n) = ap (λ lines. Leaves a (f a) ∷ lines) (leaves_are f (a + 1) n)

-- the lines of all ledgers are those of a report
pub ledgers_are : (head : Head) (entries : List Entry) → leaves_from 0 (map (ledger_after entries) (range_with_len 0 (length head.resources))) ≡ ledger_lines true head entries
unfolding ledger_lines
ledgers_are head entries = leaves_are (ledger_after entries) 0 (length head.resources)

-- head, history and ending are the text of the report
pub parts_are : (r : Report) (names : Names) (groups : List Set) (cap : ℕ) (ledgers : List Ledger) (head history ending : List ℕ)
    → names ≡ names_of r.head → groups ≡ r.head.groups → cap ≡ r.head.cap → ledgers ≡ map (ledger_after r.entries) (range_with_len 0 (length r.head.resources))
    → head ≡ told names (declared_lines names.resources groups names.tasks (Some cap)) → history ≡ told names (history_lines true (bound_in r.head r.entries) r.head [] r.entries)
    → ending ≡ told names (leaves_from 0 ledgers ++ Ends ∷ []) → head ++ (history ++ ending) ≡ report_text r
parts_are r names groups cap ledgers head history ending named grouped capped has e f g =
    let h : Head = r.head in
    let own : Names = names_of h in
    let first : head ≡ told own (declared_lines h.resources h.groups h.tasks (Some h.cap)) =
    e ∙ (λ i. told (named i) (declared_lines (named i).resources (grouped i) (named i).tasks (Some (capped i)))) in
    let second : history ≡ told own (history_lines true (bound_in h r.entries) h [] r.entries) = f ∙ ap (λ n. told n (history_lines true (bound_in h r.entries) h [] r.entries)) named in
    let third : ending ≡ told own (ledger_lines true h r.entries ++ Ends ∷ []) =
    g ∙ (λ i. told (named i) (leaves_from 0 (has i) ++ Ends ∷ [])) ∙ ap (λ lines. told own (lines ++ Ends ∷ [])) (ledgers_are h r.entries) in
    (λ i. first i ++ (second i ++ third i))
    ∙ ap (λ t. told own (declared_lines h.resources h.groups h.tasks (Some h.cap)) ++ t) (sym (told-append own (history_lines true (bound_in h r.entries) h [] r.entries) (ledger_lines true h r.entries ++ Ends ∷ [])))
    ∙ sym (told-append own (declared_lines h.resources h.groups h.tasks (Some h.cap)) (history_lines true (bound_in h r.entries) h [] r.entries ++ (ledger_lines true h r.entries ++ Ends ∷ [])))
