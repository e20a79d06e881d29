-- What comes of a source in some reads.
use Rattle.std.specs.Prelude.{◌≡◌, ◌≤◌, ◌+◌, ℕ, List, [], ◌++◌, length, Option, Some, IfSome}
use Rattle.io_ends.specs.declared.reading.ReadErr.{ReadErr}
use Rattle.io_ends.specs.declared.reading.ReadErr.TheVariants as cause

-- these bytes came: where it is known what was left, they were in front of what is left now
abbrev pub Came : Option (List ℕ) → Option (List ℕ) → List ℕ → Type 0
Came before after piece = IfSome before (λ bytes. (rest : List ℕ) × (bytes ≡ piece ++ rest) × (after ≡ Some rest))

-- nothing is left, where that is known
abbrev pub HasEnded : Option (List ℕ) → Option (List ℕ) → Type 0
HasEnded before after = IfSome before (λ _. after ≡ Some [])

-- this is all that was left, and nothing is left now, where that is known
abbrev pub CameWhole : Option (List ℕ) → Option (List ℕ) → List ℕ → Type 0
CameWhole before after text = IfSome before (λ bytes. (text ≡ bytes) × (after ≡ Some []))

-- so many bytes came before an error where a limit holds: one more than the limit where the text is too long, and else no more than the limit
abbrev pub CameOf : ReadErr → ℕ → ℕ → Type 0
CameOf cause.TooLong taken limit = taken ≡ limit + 1
CameOf cause.ReadFault taken limit = taken ≤ limit
CameOf cause.Memory taken limit = taken ≤ limit

-- bytes came after so many others, and then this error
abbrev pub BreaksOff : ReadErr → Option (List ℕ) → Option (List ℕ) → ℕ → ℕ → Type 0
BreaksOff e before after taken limit = (piece : List ℕ) × Came before after piece × CameOf e (taken + length piece) limit
