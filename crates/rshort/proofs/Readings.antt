-- Records that are cut, of which none has a fault, have said what the whole ones did.
use Rattle.std.proofs.Common.{◌≡◌, ℕ, ◌+◌, Bool, List, [], ◌∷◌, ◌++◌, fold, None, sym, ap, subst, ◌∙◌}
use Rattle.std.specs.Prelude.{option_and_then}
use Rattle.rset.specs.declared.TheConstants.{RESOURCES, SEATS}
use Rattle.rtrace_form.specs.Records.{Row}
use Rattle.rtrace_form.specs.Fields.{AreTables}
use Rattle.rtrace_form.specs.Walks.{AllClean}
use Rattle.rtrace_form.specs.SoFar.{SoFar, names_in, nothing_yet, with_row}
use Rattle.rtrace_form.specs.Faults.{code_of, read_all}
use Rattle.rtrace_form.specs.Takers.{followed, AreGood, list_code}
use Rattle.rtrace_form.specs.WrongBounds.{bound_told, or_more, bounds_said}
use Rattle.rtrace_form.proofs.facts.Tables.{table-empty}
use Rattle.rtrace_form.proofs.texts.Lists.{read_more}
use Rattle.rshort.specs.Cut.{AreCutRows}
use Rattle.rshort.proofs.Cuts.{has_its_code}
use Rattle.rshort.proofs.Faults.{tables_more}

-- none has a fault after what was said
clean_from : (whole : Bool) (earlier rows : List Row) → AllClean (list_code whole) followed earlier rows → AllClean (code_of whole) (with_row whole) (read_all whole earlier) rows
clean_from whole earlier [] clean = tt
clean_from whole earlier (row ∷ rows) clean =
    (clean.0, subst (λ (s : SoFar). AllClean (code_of whole) (with_row whole) s rows) (read_more whole earlier row) (clean_from whole (earlier ++ row ∷ []) rows clean.1))

-- the same was said from a state on
said_from : (whole : Bool) (s : SoFar) (rows cut : List Row) → AreTables (names_in s) → AreCutRows rows cut → AllClean (code_of whole) (with_row whole) s cut → fold (with_row whole) s rows ≡ fold (with_row whole) s cut
said_from whole s [] cut tables are clean = ap (fold (with_row whole) s) (sym are)
said_from whole s (row ∷ rows) cut tables are clean =
    let its = has_its_code whole s row are.0 tables are.3 in
    let good : AllClean (code_of whole) (with_row whole) s (are.0 ∷ are.1) = subst (AllClean (code_of whole) (with_row whole) s) are.2 clean in
    let none : code_of whole s row ≡ None = its.0 ∙ good.0 in
    said_from whole (with_row whole s row) rows are.1 (tables_more whole s row tables none) are.4 (subst (λ (t : SoFar). AllClean (code_of whole) (with_row whole) t are.1) (sym (its.1 none)) good.1)
    ∙ ap (λ (t : SoFar). fold (with_row whole) t are.1) (its.1 none)
    ∙ ap (fold (with_row whole) s) (sym are.2)

-- and the same bounds were reported
bounds_from : (whole : Bool) (n : ℕ) (s : SoFar) (rows cut : List Row) → AreTables (names_in s) → AreCutRows rows cut → AllClean (code_of whole) (with_row whole) s cut → bounds_said whole n s rows ≡ bounds_said whole n s cut
unfolding bounds_said
bounds_from whole n s [] cut tables are clean = ap (bounds_said whole n s) (sym are)
bounds_from whole n s (row ∷ rows) cut tables are clean =
    let its = has_its_code whole s row are.0 tables are.3 in
    let good : AllClean (code_of whole) (with_row whole) s (are.0 ∷ are.1) = subst (AllClean (code_of whole) (with_row whole) s) are.2 clean in
    let none : code_of whole s row ≡ None = its.0 ∙ good.0 in
    let rest : bounds_said whole (n + 1) (with_row whole s row) rows ≡ bounds_said whole (n + 1) (with_row whole s are.0) are.1 =
    bounds_from whole (n + 1) (with_row whole s row) rows are.1 (tables_more whole s row tables none) are.4 (subst (λ (t : SoFar). AllClean (code_of whole) (with_row whole) t are.1) (sym (its.1 none)) good.1)
    ∙ ap (λ (t : SoFar). bounds_said whole (n + 1) t are.1) (its.1 none) in
    (λ i. or_more n (option_and_then bound_told (its.2 none i)) (rest i))
    ∙ ap (bounds_said whole n s) (sym are.2)

none_said : AreTables (names_in nothing_yet)
none_said = record { resources = table-empty RESOURCES; tasks = table-empty SEATS }

pub same_said : (whole : Bool) (rows cut : List Row) → AreCutRows rows cut → AreGood (list_code whole) cut → read_all whole rows ≡ read_all whole cut
same_said whole rows cut are good = said_from whole nothing_yet rows cut none_said are (clean_from whole [] cut good)

pub same_bounds : (whole : Bool) (rows cut : List Row) → AreCutRows rows cut → AreGood (list_code whole) cut → bounds_said whole 1 nothing_yet rows ≡ bounds_said whole 1 nothing_yet cut
same_bounds whole rows cut are good = bounds_from whole 1 nothing_yet rows cut none_said are (clean_from whole [] cut good)
