-- A whole text that was read.
use Rattle.std.proofs.Common.{◌≡◌, ℕ, suc, ◌+◌, ◌<◌, Bool, true, false, cond, nat_lt, List, [], ◌∷◌, ◌++◌, length, map, Some, None, refl, sym, ap, subst, ◌∙◌, arith}
use Rattle.std.proofs.lemmas.Bool.{eqb-true}
use Rattle.std.specs.Prelude.{option_to_list, slice_get, unwrap_or, Result, Ok, Err, IfOk}
use Rattle.std.specs.List.{range_with_len}
use Rattle.rexpand.specs.Groups.{ReadGroups}
use Rattle.rvalue.specs.declared.ledger.Ledger.{Ledger}
use Rattle.rtrace_form.specs.Heads.{read_groups}
use Rattle.rtrace_form.specs.Records.{Row, AreRowsOf}
use Rattle.rtrace_form.specs.Texts.{IsTextOf}
use Rattle.rtrace_form.specs.Walks.{or_else}
use Rattle.rtrace_form.specs.WrongBounds.{first_wrong_bound, first_fault, wrong_bound}
use Rattle.rtrace_form.specs.Faults.{code_of, is_ended, first_record_fault, read_all}
use Rattle.rtrace_form.specs.Reports.{Report, Spells, ledger_after}
use Rattle.rtrace_form.specs.SoFar.{SoFar, nothing_yet, at_groups, head_in, entries_in, told_in, with_row}
use Rattle.rtrace_form.proofs.facts.Choices.{some_is, some_none}
use Rattle.rtrace_read.specs.declared.reading.ReportReader.{ReportReader}
use Rattle.rtrace.specs.declared.collect.Collecting.{Collecting}
use Rattle.rtrace_write.specs.Report.{ReportFields, told_by, IsOverResources, HasItsLedgers}
use Rattle.rtrace_form.specs.Takers.{HasTaken, IsFaultOf, IsFirstFault, list_code, is_list_done}
use Rattle.rtrace_form.specs.declared.fault.Code.{Code}
use Rattle.rtrace_form.specs.declared.fault.Code.TheVariants.{NoEnd, WrongBound}
use Rattle.rtrace_form.specs.declared.fault.Fault.{Fault}
use Rattle.rtrace_form.proofs.facts.Codes.{told_last}
use Rattle.rtrace_form.proofs.facts.Walks.{no_fault}
use Rattle.rtrace_form.proofs.forth.Rows.{right_bounds}
use Rattle.rtrace_form.proofs.texts.Lists.{list_faults}
use Rattle.rtrace.specs.declared.count.Counting.{Counting}
use Rattle.rtrace.specs.Counts.{IsCountOf}
use Rattle.rtrace.specs.Collects.{KnowsAll, KnowsCount, IsFinished}
use Rattle.rtrace.proofs.BoundSteps.{told_by_taken, told_are_ended}

-- a list whose items are those of a function, by number
each_is : (f : ℕ → Ledger) (xs : List Ledger) (a n : ℕ) → length xs ≡ n → ((l : ℕ) → l < n → slice_get xs l ≡ Some (f (a + l))) → xs ≡ map f (range_with_len a n)
each_is f [] a n size each = ap (λ m. map f (range_with_len a m)) size
each_is f (x ∷ xs) a n size each =
    let zero : a + 0 ≡ a = omega arith in
    let first : x ≡ f a = some_is (each 0 (omega (arith, size))) ∙ ap f zero in
    let rest = each_is f xs (a + 1) (length xs) refl (λ l small. each (suc l) (omega (arith, size, small)) ∙ ap (λ m. Some (f m)) (omega arith)) in
    (λ i. first i ∷ rest i) ∙ ap (λ m. map f (range_with_len a m)) size

known_is : (b : Bool) (g h : ReadGroups) → cond b None (Some g) ≡ Some h → h ≡ g
known_is true g h e = absurd (some_none e)
known_is false g h e = sym (some_is e)

pub finished_is : (whole : Bool) (old new : Collecting) (s : SoFar) → KnowsAll whole old s → new.reading ≡ old.reading → new.history.entries ≡ old.history.entries ++ option_to_list old.latest
    → (r : ReportFields) → IsFinished new r → (told_by r ≡ told_in s) × IsOverResources r × HasItsLedgers r
finished_is whole old new s h same kept r made =
    let resources : r.resources ≡ s.resources = made.resources ∙ ap (λ (x : ReportReader). x.resources) same ∙ h.knows.resources in
    let tasks : r.tasks ≡ s.tasks = made.tasks ∙ ap (λ (x : ReportReader). x.tasks) same ∙ h.knows.tasks in
    let cap = made.cap ∙ ap (λ (x : ReportReader). unwrap_or x.cap (length x.tasks)) same ∙ (λ i. unwrap_or (h.knows.cap i) (length (h.knows.tasks i))) in
    let groups : r.groups ≡ read_groups (head_in s) =
    known_is (nat_lt s.last at_groups) (read_groups (head_in s)) r.groups (sym (ap (λ (x : ReportReader). x.groups) same ∙ h.knows.groups) ∙ made.groups) in
    let entries : r.entries ≡ entries_in s = made.entries ∙ kept ∙ (λ i. h.earlier i ++ option_to_list (h.latest i)) in
    let many : length r.resources ≡ length s.resources = ap (λ xs. length xs) resources in
    let ledgers : r.ledgers ≡ old.reading.ledgers.items = made.ledgers ∙ ap (λ (x : ReportReader). x.ledgers.items) same in (
      (λ i. record { head = record { resources = resources i; groups = (groups i).groups; tasks = tasks i; cap = cap i }; entries = entries i }),
      ap (λ (g : ReadGroups). g.q) groups ∙ sym many,
      ledgers
          ∙ each_is (ledger_after (entries_in s)) old.reading.ledgers.items 0 (length s.resources) h.knows.ledgers.many
          (λ l small. h.knows.ledgers.each l small ∙ ap (λ m. Some (ledger_after (entries_in s) m)) (omega arith))
          ∙ (λ i. map (ledger_after (sym entries i)) (range_with_len 0 (sym many i))),
    )

-- the report of a text that spells what was said
pub read_whole_at : (whole : Bool) (bytes : List ℕ) (rows : List Row) (r : ReportFields) → AreRowsOf bytes rows → Spells whole rows (told_in (read_all whole rows))
    → (told_by r ≡ told_in (read_all whole rows)) × IsOverResources r × HasItsLedgers r → IsTextOf whole bytes (told_by r) × IsOverResources r × HasItsLedgers r
read_whole_at whole bytes rows r are spells is = ((rows, are, subst (λ (x : Report). Spells whole rows x) (sym is.0) spells), is.1, is.2)

-- the report of a text that was taken
pub read_whole : {E : Type 0} (whole : Bool) (bytes : List ℕ) (taker : Collecting) (rows : List Row) (made : Result ReportFields E) → AreRowsOf bytes rows → Spells whole rows (told_in (read_all whole rows)) → KnowsAll whole taker (read_all whole rows)
    → IfOk made (λ r. (w : Bool) (s : SoFar) → KnowsAll w taker s → (told_by r ≡ told_in s) × IsOverResources r × HasItsLedgers r) → IfOk made (λ r. IsTextOf whole bytes (told_by r) × IsOverResources r × HasItsLedgers r)
read_whole whole bytes taker rows (Ok r) are spells knows h =
    read_whole_at whole bytes rows r are spells (h whole (read_all whole rows) knows)
read_whole whole bytes taker rows (Err e) are spells knows h = tt

-- ---- reports

module _ {T : Type 0} (K : T → List Row → Type 0) (bytes : List ℕ) (taker : T) (h : HasTaken (list_code true) (is_list_done true) NoEnd K bytes taker) where
  faultless : first_record_fault true h.rows ≡ None
  faultless = sym (list_faults true h.rows) ∙ h.right

  -- the report has ended
  pub taken_nine : (read_all true h.rows).last ≡ 9
  taken_nine = eqb-true (read_all true h.rows).last 9 (no_fault (code_of true) (with_row true) is_ended NoEnd 1 nothing_yet h.rows faultless).1

  -- where a bound is wrong, the first one is the first fault
  pub wrong_is : (line : ℕ) → Some (wrong_bound line) ≡ first_wrong_bound true h.rows → IsFirstFault true bytes (record { line = line; code = WrongBound })
  wrong_is line wrong = (h.rows, h.are, ap (λ o. or_else o (first_wrong_bound true h.rows)) faultless ∙ sym wrong)

  -- and where none is, the records spell what was said
  pub right_spells : first_wrong_bound true h.rows ≡ None → Spells true h.rows (told_in (read_all true h.rows))
  right_spells right = right_bounds true h.rows (told_by_taken K bytes taker h) right

-- the fault of a record is not a wrong bound
pub no_bound_refused : (bytes : List ℕ) (fault : Fault Code) → IsFaultOf (list_code true) (is_list_done true) NoEnd bytes fault → fault.code ≡ WrongBound → ⊥
no_bound_refused bytes fault h wrong =
    let told : first_record_fault true h.0 ≡ Some (fault.line, fault.code) = sym (list_faults true h.0) ∙ h.2 in
    let first = subst (λ (code : Code). first_fault true h.0 ≡ Some (fault.line, code)) wrong (ap (λ o. or_else o (first_wrong_bound true h.0)) told) in
    some_none (sym (told_last true h.0 fault.line first) ∙ told)

-- how much a report has whose bounds are right
pub counts_of : (bytes : List ℕ) (taker : Counting) (h : HasTaken (list_code true) (is_list_done true) NoEnd KnowsCount bytes taker) → first_wrong_bound true h.rows ≡ None
    → IsCountOf bytes (record { events = taker.events; waits = taker.waits })
counts_of bytes taker h right = record {
  report = told_in (read_all true h.rows);
  spelled = (h.rows, h.are, right_spells KnowsCount bytes taker h right);
  events = h.knows.events;
  waits = h.knows.waits ∙ told_are_ended h.rows (told_by_taken KnowsCount bytes taker h);
}
