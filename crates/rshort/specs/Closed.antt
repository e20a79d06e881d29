-- Fronts of texts that end outside quotation marks.
use Rattle.std.specs.Prelude.{◌≡◌, ◌⊎◌, List, ℕ, [], ◌∷◌, Some, slice_get, take, if◌then◌else◌}
use Rattle.csv.specs.Machine.{step}
use Rattle.csv.specs.Reading.{default_config, is_bom}
use Rattle.csv.specs.declared.parser.State.{State}
use Rattle.csv.specs.declared.parser.State.TheVariants as st

-- the state of a reader after these bytes
abbrev pub state_after : State → List ℕ → State
state_after s [] = s
state_after s (c ∷ bytes) = state_after (step default_config s c).0 bytes

-- outside quotation marks
abbrev pub IsOutside : State → Type 0
IsOutside st.StartRecord = Unit {0}
IsOutside st.AfterCr = Unit {0}
IsOutside st.StartField = Unit {0}
IsOutside st.InField = Unit {0}
IsOutside st.AfterQuote = Unit {0}
IsOutside _ = ⊥

-- an end of a line, outside quotation marks
pub record IsEnd (bytes : List ℕ) (at : ℕ) : Type 0 where
  pub byte : ℕ
  pub ends : (byte ≡ 10) ⊎ (byte ≡ 13)
  pub there : slice_get bytes at ≡ Some byte
  pub outside : IsOutside (state_after st.StartRecord (take at bytes))

-- the length of the byte order mark of a text
abbrev pub mark_in : List ℕ → ℕ
mark_in [] = 0
mark_in (a ∷ []) = 0
mark_in (a ∷ b ∷ []) = 0
mark_in (a ∷ b ∷ c ∷ rest) = if is_bom a b c then 3 else 0
