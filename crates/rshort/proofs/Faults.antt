-- Records that are cut have the fault that they had.
use Rattle.std.proofs.Common.{◌≡◌, ℕ, ◌+◌, Bool, false, List, [], ◌∷◌, Option, Some, None, refl, sym, ap, subst, ◌∙◌}
use Rattle.rset.specs.declared.TheConstants.{RESOURCES, SEATS}
use Rattle.rtrace_form.specs.Records.{Row}
use Rattle.rtrace_form.specs.Fields.{AreTables}
use Rattle.rtrace_form.specs.Lines.{Line, Opens, HasResource, HasGroup, HasTask, HasCap, Happens, Does, BecomesEntitled, BecomesSatisfied, Grants, Waits, Leaves, Ends}
use Rattle.rtrace_form.specs.Walks.{or_later, fault_from}
use Rattle.rtrace_form.specs.SoFar.{SoFar, names_in, nothing_yet, with_line, with_meaning, with_row}
use Rattle.rtrace_form.specs.Faults.{is_badly_declared, code_of, is_ended, first_record_fault}
use Rattle.rtrace_form.specs.declared.fault.Code.{Code}
use Rattle.rtrace_form.specs.declared.fault.Code.TheVariants.{NoEnd}
use Rattle.rtrace_form.proofs.facts.Said.{clean}
use Rattle.rtrace_form.proofs.facts.Tables.{table-push, table-empty}
use Rattle.rshort.specs.Cut.{AreCutRows}
use Rattle.rshort.proofs.Cuts.{has_its_code}

-- a line that is not badly declared leaves tables
tables_with : (whole : Bool) (s : SoFar) (line : Line) → AreTables (names_in s) → is_badly_declared s line ≡ false → AreTables (names_in (with_line whole s line))
tables_with whole s Opens are good = record { resources = are.resources; tasks = are.tasks }
tables_with whole s (HasResource name) are good = record { resources = table-push RESOURCES s.resources name are.resources good; tasks = are.tasks }
tables_with whole s (HasGroup group) are good = record { resources = are.resources; tasks = are.tasks }
tables_with whole s (HasTask name) are good = record { resources = are.resources; tasks = table-push SEATS s.tasks name are.tasks good }
tables_with whole s (HasCap n) are good = record { resources = are.resources; tasks = are.tasks }
tables_with whole s (Happens e) are good = record { resources = are.resources; tasks = are.tasks }
tables_with whole s (Does act) are good = record { resources = are.resources; tasks = are.tasks }
tables_with whole s (BecomesEntitled seat half) are good = record { resources = are.resources; tasks = are.tasks }
tables_with whole s (BecomesSatisfied seat half) are good = record { resources = are.resources; tasks = are.tasks }
tables_with whole s (Grants seat set) are good = record { resources = are.resources; tasks = are.tasks }
tables_with whole s (Waits seat which cover bound) are good = record { resources = are.resources; tasks = are.tasks }
tables_with whole s (Leaves place ledger) are good = record { resources = are.resources; tasks = are.tasks }
tables_with whole s Ends are good = record { resources = are.resources; tasks = are.tasks }

pub tables_more : (whole : Bool) (s : SoFar) (row : Row) → AreTables (names_in s) → code_of whole s row ≡ None → AreTables (names_in (with_row whole s row))
unfolding with_row
tables_more whole s row are none =
    let c = clean whole s row none in
    subst (λ (o : Option Line). AreTables (names_in (with_meaning whole s o))) (sym c.means) (tables_with whole s c.line are c.fine.declared)

-- from a state on
same_from : (whole : Bool) (line : ℕ) (s : SoFar) (rows cut : List Row) → AreTables (names_in s) → AreCutRows rows cut
    → fault_from (code_of whole) (with_row whole) is_ended NoEnd line s rows ≡ fault_from (code_of whole) (with_row whole) is_ended NoEnd line s cut
unfolding fault_from
same_from whole line s [] cut tables are = ap (fault_from (code_of whole) (with_row whole) is_ended NoEnd line s) (sym are)
same_from whole line s (row ∷ rows) cut tables are =
    let its = has_its_code whole s row are.0 tables are.3 in
    by (code_of whole s row) refl its.0 its.1 (λ none. same_from whole (line + 1) (with_row whole s row) rows are.1 (tables_more whole s row tables none) are.4)
    ∙ ap (fault_from (code_of whole) (with_row whole) is_ended NoEnd line s) (sym are.2)
  where
    by : (o : Option Code) → code_of whole s row ≡ o → code_of whole s row ≡ code_of whole s are.0 → (code_of whole s row ≡ None → with_row whole s row ≡ with_row whole s are.0)
        → (code_of whole s row ≡ None → fault_from (code_of whole) (with_row whole) is_ended NoEnd (line + 1) (with_row whole s row) rows ≡ fault_from (code_of whole) (with_row whole) is_ended NoEnd (line + 1) (with_row whole s row) are.1)
        → or_later line (code_of whole s row) (fault_from (code_of whole) (with_row whole) is_ended NoEnd (line + 1) (with_row whole s row) rows)
        ≡ or_later line (code_of whole s are.0) (fault_from (code_of whole) (with_row whole) is_ended NoEnd (line + 1) (with_row whole s are.0) are.1)
    by (Some code) is same says later =
        ap (λ (o : Option Code). or_later line o (fault_from (code_of whole) (with_row whole) is_ended NoEnd (line + 1) (with_row whole s row) rows)) is
        ∙ ap (λ (o : Option Code). or_later line o (fault_from (code_of whole) (with_row whole) is_ended NoEnd (line + 1) (with_row whole s are.0) are.1)) (sym (sym same ∙ is))
    by None is same says later =
        (λ i. or_later line (same i) (later is i))
        ∙ ap (λ (t : SoFar). or_later line (code_of whole s are.0) (fault_from (code_of whole) (with_row whole) is_ended NoEnd (line + 1) t are.1)) (says is)

pub same_fault : (whole : Bool) (rows cut : List Row) → AreCutRows rows cut → first_record_fault whole rows ≡ first_record_fault whole cut
same_fault whole rows cut are = same_from whole 1 nothing_yet rows cut (record { resources = table-empty RESOURCES; tasks = table-empty SEATS }) are
