-- How a set is kept: in one word, whose bit at l stands for l. No contract of another crate speaks of it.
use Rattle.std.specs.Prelude.{ℕ, zero, suc, ◌+◌, ◌*◌, ◌/◌, ◌%◌, ◌==◌, List, [], ◌∷◌, if◌then◌else◌}
use Rattle.std.specs.FinSet.{from_list, contains}
use Rattle.rset.specs.Sets.{Set}

-- the places of the n low bits of a word that are 1, counted from low on
unfoldable pub places : ℕ → ℕ → ℕ → List ℕ
places low zero word = []
places low (suc n) word = if word % 2 == 1 then low ∷ places (suc low) n (word / 2) else places (suc low) n (word / 2)

-- the set that a word stands for
unfoldable pub set_of : ℕ → Set
set_of word = from_list (places 0 64 word)

-- the word whose n low bits stand for the numbers from low on
unfoldable pub word_from : ℕ → ℕ → Set → ℕ
word_from low zero s = 0
word_from low (suc n) s = (if contains s low then 1 else 0) + 2 * word_from (suc low) n s

-- the word that stands for a set
unfoldable pub word_of : Set → ℕ
word_of s = word_from 0 64 s
