-- Texts with gaps: where the bound of a wait belongs, a text stays open until the bound is known.
use Rattle.std.specs.Prelude.{◌≤◌, ℕ, suc, List, [], ◌∷◌, ◌++◌, map, take, drop, Option, Some, None}
use Rattle.rbound.specs.Bounds.{Numbers}
use Rattle.rtrace_write.specs.Waits.{bound_text}

-- bytes without a gap
abbrev pub solid : List ℕ → List (Option ℕ)
solid bytes = map Some bytes

-- bytes from one of them on, with a gap before the byte at each of these places
abbrev pub with_gaps : ℕ → List ℕ → List ℕ → List (Option ℕ)
with_gaps from [] bytes = solid (drop from bytes)
with_gaps from (place ∷ places) bytes = solid (drop from (take place bytes)) ++ None ∷ with_gaps place places bytes

-- these places rise, from one to another
abbrev pub AreRising : ℕ → List ℕ → ℕ → Type 0
AreRising from [] end = from ≤ end
AreRising from (place ∷ places) end = (from ≤ place) × AreRising place places end

-- how many gaps a text has
abbrev pub gaps_in : List (Option ℕ) → ℕ
gaps_in [] = 0
gaps_in (Some byte ∷ text) = gaps_in text
gaps_in (None ∷ text) = suc (gaps_in text)

-- a text whose gaps are filled with these bounds, in their order
abbrev pub filled : List Numbers → List (Option ℕ) → List ℕ
filled bounds [] = []
filled bounds (Some byte ∷ text) = byte ∷ filled bounds text
filled [] (None ∷ text) = filled [] text
filled (bound ∷ bounds) (None ∷ text) = bound_text bound ++ filled bounds text
