-- The words that the program is given, and what they ask for.
use Rattle.std.specs.Prelude.{◌≡◌, ℕ, ◌<◌, ◌≤◌, ◌^◌, List, [], ◌∷◌, codes}
use Rattle.std.specs.Str.{bytes_eq}
use Rattle.std.specs.Str.Parse.{IsNumeral, digits_value, without_leading_plus}
use Rattle.rset.specs.declared.TheConstants.{SEATS, RESOURCES}
use Rattle.bench_sections.specs.declared.words.Asked.{Asked}

-- the word is a decimal numeral with this value; a plus may come before it
abbrev pub Tells : List ℕ → ℕ → Type 0
Tells word number = IsNumeral 10 (without_leading_plus word) × (digits_value 10 (without_leading_plus word) ≡ number)

-- what five words ask for: after the program's name, three numbers and a word, which is `apart` or `reads`, or means
-- `hot`
pub record IsAskedBy (threads sections resources place : List ℕ) (asked : Asked) : Type 0 where
  pub threads_are : Tells threads asked.threads
  pub some : 0 < asked.threads
  pub seats : asked.threads ≤ SEATS
  pub sections_are : Tells sections asked.sections
  pub fits : asked.sections < 2 ^ 32
  pub resources_are : Tells resources asked.resources
  pub few : asked.resources ≤ RESOURCES
  pub apart_is : asked.apart ≡ bytes_eq place (codes "apart")
  pub reads_is : asked.reads ≡ bytes_eq place (codes "reads")

-- no other words ask for anything
abbrev pub AsksFor : List (List ℕ) → Asked → Type 0
AsksFor (name ∷ threads ∷ sections ∷ resources ∷ place ∷ []) asked = IsAskedBy threads sections resources place asked
AsksFor _ asked = ⊥
