-- What is known of an event list or a report by its records, in terms of what they have said.
use Rattle.std.proofs.Common.{◌≡◌, ℕ, suc, ◌+◌, ◌≤◌, Bool, List, [], ◌∷◌, ◌++◌, length, fold, Option, Some, None, refl, sym, ap, ◌∙◌, arith, length-append}
use Rattle.std.proofs.lemmas.List.Sums.{fold_push}
use Rattle.std.specs.Prelude.{option_map, option_to_list}
use Rattle.rbound.specs.Bounds.{Numbers}
use Rattle.rtrace_form.specs.Records.{Row}
use Rattle.rtrace_form.specs.Lines.{Line, Opens, HasResource, HasGroup, HasTask, HasCap, Happens, Does, BecomesEntitled, BecomesSatisfied, Grants, Waits, Leaves, Ends, meaning}
use Rattle.rtrace_form.specs.Reports.{Entry}
use Rattle.rtrace_form.specs.SoFar.{SoFar, nothing_yet, entries_in, names_in, with_line, with_meaning, with_row, with_act}
use Rattle.rtrace_form.specs.Walks.{fault_from, or_else, or_later}
use Rattle.rtrace_form.specs.Faults.{code_of, is_ended, first_record_fault, read_all}
use Rattle.rtrace_form.specs.WrongBounds.{or_more, bound_said, bounds_said, first_wrong_bound}
use Rattle.rtrace_form.specs.Takers.{followed, fault_of, IsFaultOf, HasTaken, list_code, is_list_done, KnowsSaid, IsFirstFault, IsTaken}
use Rattle.rtrace_form.specs.declared.fault.Code.{Code}
use Rattle.rtrace_form.specs.declared.fault.Code.TheVariants.{NoEnd}
use Rattle.rtrace_form.specs.declared.fault.Fault.{Fault}
use Rattle.rtrace_form.proofs.forth.Rows.{HaveTold, have_told, right_bounds}

-- ---- what is judged by a state that follows from the items before is judged by them

module _ {R S Q C : Type 0} (code : S → R → Option C) (next : S → R → S) (is_done : S → Bool) (no_end : C) (state : Q → S) (more : Q → R → Q) (on : (q : Q) (x : R) → state (more q x) ≡ next (state q) x) where
  pub fault_by_state : (line : ℕ) (q : Q) (xs : List R) → fault_from (λ q x. code (state q) x) more (λ q. is_done (state q)) no_end line q xs ≡ fault_from code next is_done no_end line (state q) xs
  unfolding fault_from
  fault_by_state line q [] = refl
  fault_by_state line q (x ∷ xs) =
      ap (or_later line (code (state q) x)) (fault_by_state (line + 1) (more q x) xs ∙ ap (λ s. fault_from code next is_done no_end (line + 1) s xs) (on q x))

-- ---- what records have said

-- one more record says what it adds
pub read_more : (whole : Bool) (rows : List Row) (row : Row) → read_all whole (followed rows row) ≡ with_row whole (read_all whole rows) row
read_more whole rows row = fold_push (with_row whole) nothing_yet rows row

-- and has its bound, if it is of a wait, by the names so far
pub bounds_more : (whole : Bool) (rows : List Row) (row : Row)
    → bounds_said whole 1 nothing_yet (followed rows row) ≡ bounds_said whole 1 nothing_yet rows ++ or_more (length rows + 1) (bound_said whole (names_in (read_all whole rows)) row) []
unfolding bounds_said
bounds_more whole rows row =
    more 1 nothing_yet rows ∙ ap (λ n. bounds_said whole 1 nothing_yet rows ++ or_more n (bound_said whole (names_in (read_all whole rows)) row) []) (turned (length rows))
  where
    turned : (n : ℕ) → 1 + n ≡ n + 1
    turned n = omega arith

    joined : (n : ℕ) (o : Option Numbers) (told more : List (ℕ × Numbers)) → or_more n o (told ++ more) ≡ or_more n o told ++ more
    joined n None told more = refl
    joined n (Some b) told more = refl

    none_more : (n : ℕ) → n ≡ n + 0
    none_more n = omega arith

    one_more : (n m : ℕ) → (n + 1) + m ≡ n + suc m
    one_more n m = omega arith

    more : (n : ℕ) (s : SoFar) (xs : List Row)
        → bounds_said whole n s (xs ++ row ∷ []) ≡ bounds_said whole n s xs ++ or_more (n + length xs) (bound_said whole (names_in (fold (with_row whole) s xs)) row) []
    more n s [] = ap (λ m. or_more m (bound_said whole (names_in s) row) []) (none_more n)
    more n s (x ∷ xs) =
        let t = with_row whole s x in
        let last = bound_said whole (names_in (fold (with_row whole) t xs)) row in
        ap (or_more n (bound_said whole (names_in s) x)) (more (n + 1) t xs ∙ ap (λ m. bounds_said whole (n + 1) t xs ++ or_more m last []) (one_more n (length xs)))
        ∙ joined n (bound_said whole (names_in s) x) (bounds_said whole (n + 1) t xs) (or_more (n + suc (length xs)) last [])

option_same : (f : Entry → Entry) (o : Option Entry) → length (option_to_list (option_map f o)) ≡ length (option_to_list o)
option_same f None = refl
option_same f (Some x) = refl

entries_line : (whole : Bool) (s : SoFar) (line : Line) → length (entries_in (with_line whole s line)) ≤ length (entries_in s) + 1
entries_line whole s (Happens e) = let more = length-append (entries_in s) (record { event = e; acts = [] } ∷ []) in omega (arith, more)
entries_line whole s (Does act) =
    let now = length-append s.earlier (option_to_list (option_map (with_act act) s.latest)) in
    let was = length-append s.earlier (option_to_list s.latest) in
    let same = option_same (with_act act) s.latest in
    omega (arith, now, was, same)
entries_line whole s Opens = omega arith
entries_line whole s (HasResource name) = omega arith
entries_line whole s (HasGroup group) = omega arith
entries_line whole s (HasTask name) = omega arith
entries_line whole s (HasCap n) = omega arith
entries_line whole s (BecomesEntitled seat half) = omega arith
entries_line whole s (BecomesSatisfied seat half) = omega arith
entries_line whole s (Grants seat set) = omega arith
entries_line whole s (Waits seat which cover bound) = omega arith
entries_line whole s (Leaves place ledger) = omega arith
entries_line whole s Ends = omega arith

entries_row : (whole : Bool) (s : SoFar) (row : Row) → length (entries_in (with_row whole s row)) ≤ length (entries_in s) + 1
unfolding with_row
entries_row whole s row = at (meaning whole (names_in s) row)
  where
    at : (o : Option Line) → length (entries_in (with_meaning whole s o)) ≤ length (entries_in s) + 1
    at None = omega arith
    at (Some line) = entries_line whole s line

entries_rows : (whole : Bool) (s : SoFar) (rows : List Row) → length (entries_in (fold (with_row whole) s rows)) ≤ length (entries_in s) + length rows
entries_rows whole s [] = omega arith
entries_rows whole s (row ∷ rows) = let one = entries_row whole s row in let rest = entries_rows whole (with_row whole s row) rows in omega (arith, one, rest)

-- records have no more entries than there are records
pub entries_few : (whole : Bool) (rows : List Row) → length (entries_in (read_all whole rows)) ≤ length rows
entries_few whole rows = let few = entries_rows whole nothing_yet rows in omega (arith, few)

-- ---- lists and reports

-- the first fault by the records before is the first by what they have said
pub list_faults : (whole : Bool) (rows : List Row) → fault_of (list_code whole) (is_list_done whole) NoEnd rows ≡ first_record_fault whole rows
list_faults whole rows = fault_by_state (code_of whole) (with_row whole) is_ended NoEnd (read_all whole) followed (read_more whole) 1 [] rows

-- so it is the first fault of the text
pub list_fault : (whole : Bool) (bytes : List ℕ) (fault : Fault Code) → IsFaultOf (list_code whole) (is_list_done whole) NoEnd bytes fault → IsFirstFault whole bytes fault
list_fault whole bytes fault h =
    (h.0, h.1, ap (λ o. or_else o (first_wrong_bound whole h.0)) (sym (list_faults whole h.0) ∙ h.2))

-- where all records were taken, the first wrong bound is
pub list_bound : {T : Type 0} (whole : Bool) (Knows : T → SoFar → Type 0) (bytes : List ℕ) (taker : T) (h : HasTaken (list_code whole) (is_list_done whole) NoEnd (KnowsSaid whole Knows) bytes taker)
    → (fault : Fault Code) → first_wrong_bound whole h.rows ≡ Some (fault.line, fault.code) → IsFirstFault whole bytes fault
list_bound whole Knows bytes taker h fault wrong =
    (h.rows, h.are, ap (λ o. or_else o (first_wrong_bound whole h.rows)) (sym (list_faults whole h.rows) ∙ h.right) ∙ wrong)

-- the records of a text that was taken say the lines of what the taker knows, but for the bounds of waits
pub list_told : {T : Type 0} (whole : Bool) (Knows : T → SoFar → Type 0) (bytes : List ℕ) (taker : T) (h : HasTaken (list_code whole) (is_list_done whole) NoEnd (KnowsSaid whole Knows) bytes taker)
    → HaveTold whole h.rows (read_all whole h.rows)
list_told whole Knows bytes taker h = let few = h.few in have_told whole h.rows (omega (arith, few)) (sym (list_faults whole h.rows) ∙ h.right)

-- and where no bound is wrong, as in an event list, they spell it
pub list_taken : {T : Type 0} (whole : Bool) (Knows : T → SoFar → Type 0) (bytes : List ℕ) (taker : T) (h : HasTaken (list_code whole) (is_list_done whole) NoEnd (KnowsSaid whole Knows) bytes taker)
    → first_wrong_bound whole h.rows ≡ None → IsTaken whole Knows bytes taker
list_taken whole Knows bytes taker h right = record {
  rows = h.rows;
  are = h.are;
  spells = right_bounds whole h.rows (list_told whole Knows bytes taker h) right;
  knows = h.knows;
}
