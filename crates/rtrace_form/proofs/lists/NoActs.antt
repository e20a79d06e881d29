-- An event list has no acts and no waits, since it has no word for them.
use Rattle.std.proofs.Common.{◌≡◌, ℕ, ◌+◌, Bool, true, false, cond, List, [], ◌∷◌, ◌++◌, map, Option, Some, None, refl, sym, ap, subst, ◌∙◌, true≢false}
use Rattle.std.specs.Prelude.{find, option_map, option_and_then}
use Rattle.std.specs.List.{AllByRecursion, AllZip}
use Rattle.rbound.specs.Bounds.{Numbers}
use Rattle.rcover_laws.specs.declared.wait_end.WaitEnd.{WaitEnd}
use Rattle.rvalue.specs.declared.act.Act.{Act}
use Rattle.rvalue.specs.declared.ledger.Edit.{Edit}
use Rattle.rtrace_form.specs.Records.{Row}
use Rattle.rtrace_form.specs.Fields.{Names, Values, has_form}
use Rattle.rtrace_form.specs.Heads.{Head, names_of}
use Rattle.rtrace_form.specs.Words.{fields_of, word_in, list_words}
use Rattle.rtrace_form.specs.Lines.{Line, Does, Ends, line_by, meaning}
use Rattle.rtrace_form.specs.Reports.{Entry, Report, Spells, head_lines, history_lines, due_lines, ledger_lines, lines_of}
use Rattle.rtrace_form.specs.Waits.{bound_in}
use Rattle.rtrace_form.specs.SoFar.{SoFar, nothing_yet, names_in, head_in, entries_in, with_row}
use Rattle.rtrace_form.specs.Walks.{or_else}
use Rattle.rtrace_form.specs.Faults.{is_act, first_record_fault, read_all}
use Rattle.rtrace_form.specs.declared.fault.Code.{Code}
use Rattle.rtrace_form.specs.WrongBounds.{bound_told, bound_said, or_more, bounds_said, bounds_due, first_other, wrong_bound, first_wrong_bound, first_fault}
use Rattle.rtrace_form.proofs.lists.Likes.{told_from}
use Rattle.rtrace_form.specs.declared.word.Word.{Word}
use Rattle.rtrace_form.proofs.facts.Choices.{some_is, some_none}
use Rattle.rtrace_form.proofs.facts.Said.{says}

-- what is found passes whatever all items pass
found_all : (P : Word → Type 0) (p : Word → Bool) (xs : List Word) → AllByRecursion P xs → (w : Word) → find p xs ≡ Some w → P w
found_all P p [] all w h = absurd (some_none h)
found_all P p (x ∷ xs) all w h = at (p x) h (found_all P p xs all.1 w)
  where
    at : (b : Bool) → cond b (Some x) (find p xs) ≡ Some w → (find p xs ≡ Some w → P w) → P w
    at true e more = subst P (some_is e) all.0
    at false e more = more e

abbrev SaysNoAct : Word → Type 0
SaysNoAct w = (v : Values (fields_of w)) → is_act (line_by w v) ≡ false

-- no record of an event list says an act
pub no_act : (names : Names) (row : Row) (line : Line) → meaning false names row ≡ Some line → is_act line ≡ false
unfolding word_in
no_act names row line h =
    let told = says false names row line h in
    ap is_act (sym told.tells)
    ∙ found_all SaysNoAct (λ w. has_form (fields_of w) row) list_words
    (λ v. refl, (λ v. refl, (λ v. refl, (λ v. refl, (λ v. refl, (λ v. refl, (λ v. refl, (λ v. refl, (λ v. refl, (λ v. refl, (λ v. refl, (λ v. refl, (λ v. refl, (λ v. refl, tt)))))))))))))) told.of told.is told.values

abbrev SaysNoWait : Word → Type 0
SaysNoWait w = (v : Values (fields_of w)) → bound_told (line_by w v) ≡ None

-- nor a bound
no_bound : (names : Names) (row : Row) (line : Line) → meaning false names row ≡ Some line → bound_told line ≡ None
unfolding word_in
no_bound names row line h =
    let told = says false names row line h in
    ap bound_told (sym told.tells)
    ∙ found_all SaysNoWait (λ w. has_form (fields_of w) row) list_words
    (λ v. refl, (λ v. refl, (λ v. refl, (λ v. refl, (λ v. refl, (λ v. refl, (λ v. refl, (λ v. refl, (λ v. refl, (λ v. refl, (λ v. refl, (λ v. refl, (λ v. refl, (λ v. refl, tt)))))))))))))) told.of told.is told.values

none_said : (names : Names) (row : Row) → bound_said false names row ≡ None
none_said names row = at (meaning false names row) refl
  where
    at : (o : Option Line) → meaning false names row ≡ o → option_and_then bound_told o ≡ None
    at None is = refl
    at (Some line) is = no_bound names row line is

no_bounds_said : (n : ℕ) (s : SoFar) (rows : List Row) → bounds_said false n s rows ≡ []
unfolding bounds_said
no_bounds_said n s [] = refl
no_bounds_said n s (row ∷ rows) = ap (λ told. or_more n told (bounds_said false (n + 1) (with_row false s row) rows)) (none_said (names_in s) row) ∙ no_bounds_said (n + 1) (with_row false s row) rows

-- no bound of an event list is wrong
pub no_wrong_bound : (rows : List Row) → first_wrong_bound false rows ≡ None
unfolding first_other
no_wrong_bound rows =
    let s = read_all false rows in ap (λ told. option_map wrong_bound (first_other told (bounds_due (head_in s) (entries_in s)))) (no_bounds_said 1 nothing_yet rows)

pub list_fault_alone : (rows : List Row) → first_fault false rows ≡ first_record_fault false rows
list_fault_alone rows = ap (or_else (first_record_fault false rows)) (no_wrong_bound rows) ∙ alone (first_record_fault false rows)
  where
    alone : (o : Option (ℕ × Code)) → or_else o None ≡ o
    alone None = refl
    alone (Some fault) = refl

-- its lines have none
pub none_told : (names : Names) (rows : List Row) (lines : List Line) → AllZip (λ row line. meaning false names row ≡ Some line) rows lines → (n : ℕ) → told_from n lines ≡ []
none_told names [] [] said n = refl
none_told names [] (line ∷ lines) said n = absurd said
none_told names (row ∷ rows) [] said n = refl
none_told names (row ∷ rows) (line ∷ lines) said n = ap (λ told. or_more n told (told_from (n + 1) lines)) (no_bound names row line said.0) ∙ none_told names rows lines said.1 (n + 1)

no_act_said : (names : Names) (rows : List Row) (lines : List Line) → AllZip (λ row line. meaning false names row ≡ Some line) rows lines → AllByRecursion (λ line. is_act line ≡ false) lines
no_act_said names [] [] said = tt
no_act_said names [] (line ∷ lines) said = absurd said
no_act_said names (row ∷ rows) [] said = absurd said
no_act_said names (row ∷ rows) (line ∷ lines) said = (no_act names row line said.0, no_act_said names rows lines said.1)

behind : (P : Line → Type 0) (xs ys : List Line) → AllByRecursion P (xs ++ ys) → AllByRecursion P ys
behind P [] ys all = all
behind P (x ∷ xs) ys all = behind P xs ys all.1

before : (P : Line → Type 0) (xs ys : List Line) → AllByRecursion P (xs ++ ys) → AllByRecursion P xs
before P [] ys all = tt
before P (x ∷ xs) ys all = (all.0, before P xs ys all.1)

abbrev pub HaveNoActs : List Entry → Type 0
HaveNoActs entries = AllByRecursion (λ (x : Entry). x.acts ≡ []) entries

none_did : (acts : List (Act Edit)) → AllByRecursion (λ line. is_act line ≡ false) (map Does acts) → acts ≡ []
none_did [] all = refl
none_did (act ∷ acts) all = absurd (true≢false all.0)

none_in : (bounds : WaitEnd → Numbers) (head : Head) (earlier entries : List Entry) → AllByRecursion (λ line. is_act line ≡ false) (history_lines false bounds head earlier entries) → HaveNoActs entries
unfolding history_lines
none_in bounds head earlier [] all = tt
none_in bounds head earlier (x ∷ entries) all =
    let P = λ (line : Line). is_act line ≡ false in
    let acts = before P (map Does x.acts) (due_lines false bounds head earlier x.event) (before P (map Does x.acts ++ due_lines false bounds head earlier x.event) (history_lines false bounds head (earlier ++ x ∷ []) entries) all.1) in
    (none_did x.acts acts, none_in bounds head (earlier ++ x ∷ []) entries (behind P (map Does x.acts ++ due_lines false bounds head earlier x.event) (history_lines false bounds head (earlier ++ x ∷ []) entries) all.1))

-- no entry of an event list has an act
pub list_has_no_acts : (rows : List Row) (r : Report) → Spells false rows r → AllByRecursion (λ (x : Entry). x.acts ≡ []) r.entries
list_has_no_acts rows r h =
    let P = λ (line : Line). is_act line ≡ false in
    let all = no_act_said (names_of r.head) rows (lines_of false (bound_in r.head r.entries) h.told r) h.said in
    let history = history_lines false (bound_in r.head r.entries) r.head [] r.entries in
    none_in (bound_in r.head r.entries) r.head [] r.entries (before P history (ledger_lines false r.head r.entries ++ Ends ∷ []) (behind P (head_lines r.head h.told) (history ++ (ledger_lines false r.head r.entries ++ Ends ∷ [])) all))
