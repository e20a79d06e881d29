-- What is known of a text once its records were taken one after another.
use Rattle.std.specs.Prelude.{◌≡◌, ℕ, ◌+◌, ◌<◌, ◌^◌, Bool, true, List, [], ◌∷◌, ◌++◌, length, Option, Some, None}
use Rattle.std.specs.Borrow.{Bor}
use Rattle.csv.specs.Reading.{Ready, default_config, source_of, strip_bom, reader_trim, reader_config, is_flexible, reader_state}
use Rattle.csv.specs.declared.reader.Reader.{Reader}
use Rattle.csv.specs.declared.parser.State.TheVariants as st
use Rattle.csv.specs.declared.reader.Trim.TheVariants as trim
use Rattle.rtrace_form.specs.Records.{Row, AreRowsOf}
use Rattle.rtrace_form.specs.Reports.{Spells}
use Rattle.rtrace_form.specs.SoFar.{SoFar, told_in}
use Rattle.rtrace_form.specs.Walks.{AllClean, fault_from}
use Rattle.rtrace_form.specs.Faults.{code_of, is_ended, read_all}
use Rattle.rtrace_form.specs.WrongBounds.{first_fault}
use Rattle.rtrace_form.specs.declared.fault.Code.{Code}
use Rattle.rtrace_form.specs.declared.fault.Fault.{Fault}
use Rattle.rtrace_form.specs.declared.errors.RowErr.{RowErr}
use Rattle.rtrace_form.specs.declared.errors.RowErr.TheVariants as why
use Rattle.rtrace_form.specs.declared.errors.TextErr.{TextErr}
use Rattle.rtrace_form.specs.declared.errors.TextErr.TheVariants as text

-- the error of a text whose record at this line was not taken
abbrev pub error_at : {C : Type 0} → ℕ → RowErr C → TextErr C
error_at line (why.Bad code) = text.Bad (record { line = line; code = code })
error_at line why.Memory = text.Memory

-- the reader has a whole text before it, and takes every record unchanged
pub record IsFresh (bytes : List ℕ) (reader : Reader (Bor (List ℕ))) : Type 0 where
  pub trim : reader_trim reader ≡ trim.None
  pub ready : Ready reader
  pub config : reader_config reader ≡ default_config
  pub flexible : is_flexible reader ≡ true
  pub source : source_of (λ s. Some s.now) reader ≡ Some (strip_bom bytes)
  pub state : reader_state reader ≡ st.StartRecord

-- ---- texts of any kind: what is wrong with a record depends on it and on all records before it

-- records, and one more
abbrev pub followed : List Row → Row → List Row
followed rows row = rows ++ row ∷ []

-- `code` says what is wrong with a record after others
module _ {C : Type 0} (code : List Row → Row → Option C) where
  -- nothing is wrong with any of these records
  abbrev pub AreGood : List Row → Type 0
  AreGood rows = AllClean code followed [] rows

  -- all records of a part of a text were taken after `earlier` ones, and this is the number of the one that would follow
  pub record HasTakenPart {T : Type 0} (Knows : T → List Row → Type 0) (earlier : List Row) (bytes : List ℕ) (taker : T) (line : ℕ) : Type 0 where
    pub rows : List Row
    pub are : AreRowsOf bytes rows
    pub clean : AllClean code followed earlier rows
    pub knows : Knows taker (earlier ++ rows)
    pub few : length (earlier ++ rows) < 2 ^ 62
    pub counted : length (earlier ++ rows) + 1 ≡ line

-- and `is_done` whether a text may end after records; `no_end` is what is wrong if it may not
module _ {C : Type 0} (code : List Row → Row → Option C) (is_done : List Row → Bool) (no_end : C) where
  -- the first fault of a text's records, with its number counted from 1
  abbrev pub fault_of : List Row → Option (ℕ × C)
  fault_of rows = fault_from code followed is_done no_end 1 [] rows

  -- this is the first fault of a part of a text after `earlier` records, whatever follows the part
  abbrev pub IsFaultBehind : List Row → List ℕ → Fault C → Type 0
  IsFaultBehind earlier bytes fault =
      (rows : List Row) × AreRowsOf bytes rows
      × ((more : List Row) → fault_from code followed is_done no_end (length earlier + 1) earlier (rows ++ more) ≡ Some (fault.line, fault.code))

  -- this is the first fault of a text
  abbrev pub IsFaultOf : List ℕ → Fault C → Type 0
  IsFaultOf bytes fault = (rows : List Row) × AreRowsOf bytes rows × (fault_of rows ≡ Some (fault.line, fault.code))

  -- the text has no fault, and the taker knows that its records were taken
  pub record HasTaken {T : Type 0} (Knows : T → List Row → Type 0) (bytes : List ℕ) (taker : T) : Type 0 where
    pub rows : List Row
    pub are : AreRowsOf bytes rows
    pub right : fault_of rows ≡ None
    pub knows : Knows taker rows
    pub few : length rows < 2 ^ 62

-- ---- where a taker is once a text has a fault

-- in a part of a text a record was refused: the taker knew the records before it, and is as such a record leaves it
pub record IsRefusedAt {T : Type 0} (Knows : T → List Row → Type 0) (Stays : T → T → Type 0) (earlier : List Row) (bytes : List ℕ) (line : ℕ) (taker : T) : Type 0 where
  pub before : List Row
  pub refused : Row
  pub rest : List Row
  pub are : AreRowsOf bytes (before ++ refused ∷ rest)
  pub was : T
  pub knows : Knows was (earlier ++ before)
  pub counted : length (earlier ++ before) + 1 ≡ line
  pub stays : Stays was taker

-- the first of these records was refused, or there is none and nothing has changed
abbrev pub IsLeftBy : {T : Type 0} → (T → T → Type 0) → List Row → T → T → Type 0
IsLeftBy Stays [] was taker = taker ≡ was
IsLeftBy Stays (refused ∷ rest) was taker = Stays was taker

-- a taker is where the record with this number would be due: it knew the records of the text before it
pub record StandsAt {T : Type 0} (Knows : T → List Row → Type 0) (Stays : T → T → Type 0) (bytes : List ℕ) (line : ℕ) (taker : T) : Type 0 where
  pub before : List Row
  pub behind : List Row
  pub are : AreRowsOf bytes (before ++ behind)
  pub was : T
  pub knows : Knows was before
  pub counted : length before + 1 ≡ line
  pub left : IsLeftBy Stays behind was taker

-- ---- event lists and reports

-- what is wrong with a record after others
abbrev pub list_code : Bool → List Row → Row → Option Code
list_code whole rows row = code_of whole (read_all whole rows) row

-- the text may end after these records
abbrev pub is_list_done : Bool → List Row → Bool
is_list_done whole rows = is_ended (read_all whole rows)

-- what a taker knows of these records, if it knows what they have said
abbrev pub KnowsSaid : {T : Type 0} → Bool → (T → SoFar → Type 0) → T → List Row → Type 0
KnowsSaid whole Knows taker rows = Knows taker (read_all whole rows)

-- this is the first fault of a text
abbrev pub IsFirstFault : Bool → List ℕ → Fault Code → Type 0
IsFirstFault whole bytes fault = (rows : List Row) × AreRowsOf bytes rows × (first_fault whole rows ≡ Some (fault.line, fault.code))

-- the records of the text spell what the taker knows
pub record IsTaken {T : Type 0} (whole : Bool) (Knows : T → SoFar → Type 0) (bytes : List ℕ) (taker : T) : Type 0 where
  pub rows : List Row
  pub are : AreRowsOf bytes rows
  pub spells : Spells whole rows (told_in (read_all whole rows))
  pub knows : Knows taker (read_all whole rows)
