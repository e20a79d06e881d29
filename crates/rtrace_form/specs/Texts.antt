-- How records are spelled as a text.
use Rattle.std.specs.Prelude.{ℕ, Bool, List, [], ◌∷◌, ◌++◌, flat_map}
use Rattle.rtrace_form.specs.Records.{Row, AreRowsOf}
use Rattle.rtrace_form.specs.Reports.{Report, Spells}
use Rattle.rtrace_form.specs.Written.{report_rows}

-- a field with the comma before it
abbrev pub behind_comma : List ℕ → List ℕ
behind_comma field = 44 ∷ field

-- the line of a record: its fields joined by commas, and a newline
abbrev pub line_text : Row → List ℕ
line_text [] = 10 ∷ []
line_text (field ∷ fields) = (field ++ flat_map behind_comma fields) ++ 10 ∷ []

-- the text of records, one line after another
abbrev pub text_of : List Row → List ℕ
text_of rows = flat_map line_text rows

-- the one text of a report
abbrev pub report_text : Report → List ℕ
report_text r = text_of (report_rows r)

-- the text spells the report, or the event list where it is not `whole`: its records do
abbrev pub IsTextOf : Bool → List ℕ → Report → Type 0
IsTextOf whole bytes r = (rows : List Row) × AreRowsOf bytes rows × Spells whole rows r
