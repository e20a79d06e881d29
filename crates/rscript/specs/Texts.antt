-- Scripts as they are written, and what is known about a text once its records are taken.
use Rattle.std.specs.Prelude.{◌≡◌, ℕ, Bool, List, map, Option, Some}
use Rattle.rtrace_form.specs.Records.{Row, AreRowsOf}
use Rattle.rtrace_form.specs.declared.errors.TextErr.{TextErr}
use Rattle.rtrace_form.specs.declared.errors.TextErr.TheVariants as text
use Rattle.rscript.specs.Lines.{names_of, spelled}
use Rattle.rscript.specs.declared.code.ScriptCode.{ScriptCode}
use Rattle.rscript.specs.Scripts.{ScriptFields, lines_of}
use Rattle.rscript.specs.SoFar.{SoFar}
use Rattle.rscript.specs.Faults.{code_of, is_ended, first_fault, read_all}
use Rattle.rscript.specs.declared.script.ScriptErr.{ScriptErr}
use Rattle.rscript.specs.declared.script.ScriptErr.TheVariants as script

-- the records of a script, each in its one spelling
abbrev pub script_rows : ScriptFields → List Row
script_rows p = map (spelled (names_of p.resources)) (lines_of p)

-- what is wrong with a record that comes after others
abbrev pub script_code : List Row → Row → Option ScriptCode
script_code rows row = code_of (read_all rows) row

-- the text may end after these records
abbrev pub is_script_done : List Row → Bool
is_script_done rows = is_ended (read_all rows)

-- the taker knows, in the sense of `Knows`, what these records have said
abbrev pub KnowsSaid : {T : Type 0} → (T → SoFar → Type 0) → T → List Row → Type 0
KnowsSaid Knows taker rows = Knows taker (read_all rows)

-- why a text was not taken as a script
abbrev pub error_of : TextErr ScriptCode → ScriptErr
error_of (text.Bad fault) = script.Bad fault.line fault.code
error_of text.Memory = script.Memory

-- the first fault of a text, at this line
abbrev pub IsFirstFault : List ℕ → ℕ → ScriptCode → Type 0
IsFirstFault bytes line code = (rows : List Row) × AreRowsOf bytes rows × (first_fault rows ≡ Some (line, code))
