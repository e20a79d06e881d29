-- Wrong bounds of waits, which are reported only where no record has another fault: a bound depends on what the whole history needs.
use Rattle.std.specs.Prelude.{ℕ, ◌+◌, Bool, List, [], ◌∷◌, map, Option, Some, None, option_map, option_and_then, if◌then◌else◌}
use Rattle.rbound.specs.Bounds.{Numbers}
use Rattle.rtrace_form.specs.Records.{Row}
use Rattle.rtrace_form.specs.Fields.{Names}
use Rattle.rtrace_form.specs.Heads.{Head}
use Rattle.rtrace_form.specs.Lines.{Line, Waits, meaning}
use Rattle.rtrace_form.specs.Waits.{all_ended, bound_in}
use Rattle.rtrace_form.specs.Reports.{Entry}
use Rattle.rtrace_form.specs.SoFar.{SoFar, nothing_yet, names_in, head_in, entries_in, with_row}
use Rattle.rtrace_form.specs.Walks.{or_else}
use Rattle.rtrace_form.specs.Faults.{same_numbers, first_record_fault, read_all}
use Rattle.rtrace_form.specs.declared.fault.Code.{Code}
use Rattle.rtrace_form.specs.declared.fault.Code.TheVariants.{WrongBound}

-- the bound on a line, if it is of a wait
abbrev pub bound_told : Line → Option Numbers
bound_told (Waits seat which cover bound) = Some bound
bound_told _ = None

-- the bound in a record, if it is of a wait
abbrev pub bound_said : Bool → Names → Row → Option Numbers
bound_said whole names row = option_and_then bound_told (meaning whole names row)

-- the bound of the record with this number, if it has one, and those of later records
abbrev pub or_more : ℕ → Option Numbers → List (ℕ × Numbers) → List (ℕ × Numbers)
or_more n None more = more
or_more n (Some bound) more = (n, bound) ∷ more

-- the bounds in records after what was said before them, each with its record's number, counted from n
unfoldable pub bounds_said : Bool → ℕ → SoFar → List Row → List (ℕ × Numbers)
bounds_said whole n s [] = []
bounds_said whole n s (row ∷ rows) = or_more n (bound_said whole (names_in s) row) (bounds_said whole (n + 1) (with_row whole s row) rows)

-- the bounds that they should have: those of all waits that the history ends, in their order
abbrev pub bounds_due : Head → List Entry → List Numbers
bounds_due head entries = map (bound_in head entries) (all_ended head entries)

-- the number of the first record with another bound than is due at its place
unfoldable pub first_other : List (ℕ × Numbers) → List Numbers → Option ℕ
first_other [] dues = None
first_other (told ∷ rest) [] = Some told.0
first_other (told ∷ rest) (due ∷ dues) = if same_numbers told.1 due then first_other rest dues else Some told.0

-- a wrong bound, with its number
abbrev pub wrong_bound : ℕ → ℕ × Code
wrong_bound n = (n, WrongBound)

-- the first record with a wrong bound
abbrev pub first_wrong_bound : Bool → List Row → Option (ℕ × Code)
first_wrong_bound whole rows =
    option_map wrong_bound (first_other (bounds_said whole 1 nothing_yet rows) (bounds_due (head_in (read_all whole rows)) (entries_in (read_all whole rows))))

-- the first fault of a text's records, with its number counted from 1: that of a record by those before it, otherwise the first wrong bound
abbrev pub first_fault : Bool → List Row → Option (ℕ × Code)
first_fault whole rows = or_else (first_record_fault whole rows) (first_wrong_bound whole rows)
