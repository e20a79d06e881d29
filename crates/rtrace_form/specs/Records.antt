-- The records of a text.
use Rattle.std.specs.Prelude.{ℕ, List}
use Rattle.csv.specs.Reading.{AreRecords, default_config, strip_bom}
use Rattle.csv.specs.declared.parser.State.TheVariants as st

-- the fields of a record
abbrev pub Row : Type 0
Row = List (List ℕ)

-- these are the records of a text, as CSV is read
abbrev pub AreRowsOf : List ℕ → List Row → Type 0
AreRowsOf bytes rows = AreRecords default_config st.StartRecord (strip_bom bytes) rows
