-- Texts with gaps: how they grow, and what fills them.
use Rattle.std.proofs.Common.{◌≡◌, ℕ, suc, ◌≤◌, List, [], ◌∷◌, ◌++◌, take, drop, length, Option, Some, None, refl, sym, ap, ◌∙◌, arith, append_assoc}
use Rattle.std.proofs.lemmas.List.{map-append, drop-append-le, take-append-le}
use Rattle.rbound.specs.Bounds.{Numbers}
use Rattle.rtrace_write.specs.Waits.{bound_text}
use Rattle.rtrace_write.specs.Gaps.{solid, with_gaps, AreRising, gaps_in, filled}

-- ---- places that rise

pub rising_le : (from : ℕ) (places : List ℕ) (end : ℕ) → AreRising from places end → from ≤ end
rising_le from [] end rising = rising
rising_le from (place ∷ places) end rising = let rest = rising_le place places end rising.1 in omega (arith, rising.0)

-- they rise to a later end too
pub rising_longer : (from : ℕ) (places : List ℕ) (end later : ℕ) → end ≤ later → AreRising from places end → AreRising from places later
rising_longer from [] end later le rising = omega (arith, le, rising)
rising_longer from (place ∷ places) end later le rising = (rising.0, rising_longer place places end later le rising.1)

-- the end itself is one more place
pub rising_push : (from : ℕ) (places : List ℕ) (end : ℕ) → AreRising from places end → AreRising from (places ++ end ∷ []) end
rising_push from [] end rising = (rising, omega arith)
rising_push from (place ∷ places) end rising = (rising.0, rising_push place places end rising.1)

-- ---- how a text grows

-- by bytes
pub gaps-append : (from : ℕ) (places bytes more : List ℕ) → AreRising from places (length bytes) → with_gaps from places (bytes ++ more) ≡ with_gaps from places bytes ++ solid more
gaps-append from [] bytes more rising = ap solid (drop-append-le from bytes more rising) ∙ map-append Some (drop from bytes) more
gaps-append from (place ∷ places) bytes more rising =
    let within = rising_le place places (length bytes) rising.1 in
    (λ i. solid (drop from (take-append-le place bytes more within i)) ++ None ∷ gaps-append place places bytes more rising.1 i)
    ∙ sym (append_assoc (solid (drop from (take place bytes))) (None ∷ with_gaps place places bytes) (solid more))

nothing_behind : (bytes : List ℕ) → drop (length bytes) bytes ≡ []
nothing_behind [] = refl
nothing_behind (b ∷ bytes) = nothing_behind bytes

all_taken : (bytes : List ℕ) → take (length bytes) bytes ≡ bytes
all_taken [] = refl
all_taken (b ∷ bytes) = ap (λ (some : List ℕ). b ∷ some) (all_taken bytes)

-- by a gap
pub gaps-push : (from : ℕ) (places bytes : List ℕ) → with_gaps from (places ++ length bytes ∷ []) bytes ≡ with_gaps from places bytes ++ None ∷ []
gaps-push from [] bytes = λ i. solid (drop from (all_taken bytes i)) ++ None ∷ solid (nothing_behind bytes i)
gaps-push from (place ∷ places) bytes =
    ap (λ (rest : List (Option ℕ)). solid (drop from (take place bytes)) ++ None ∷ rest) (gaps-push place places bytes)
    ∙ sym (append_assoc (solid (drop from (take place bytes))) (None ∷ with_gaps place places bytes) (None ∷ []))

-- ---- how many gaps there are

pub solid_gaps : (bytes : List ℕ) (text : List (Option ℕ)) → gaps_in (solid bytes ++ text) ≡ gaps_in text
solid_gaps [] text = refl
solid_gaps (b ∷ bytes) text = solid_gaps bytes text

solid_none : (bytes : List ℕ) → gaps_in (solid bytes) ≡ 0
solid_none [] = refl
solid_none (b ∷ bytes) = solid_none bytes

pub gaps_are : (from : ℕ) (places bytes : List ℕ) → gaps_in (with_gaps from places bytes) ≡ length places
gaps_are from [] bytes = solid_none (drop from bytes)
gaps_are from (place ∷ places) bytes = solid_gaps (drop from (take place bytes)) (None ∷ with_gaps place places bytes) ∙ ap suc (gaps_are place places bytes)

-- ---- what fills them

pub filled-solid : (bounds : List Numbers) (bytes : List ℕ) (text : List (Option ℕ)) → filled bounds (solid bytes ++ text) ≡ bytes ++ filled bounds text
filled-solid bounds [] text = refl
filled-solid bounds (b ∷ bytes) text = ap (λ (rest : List ℕ). b ∷ rest) (filled-solid bounds bytes text)

pub filled-whole : (bounds : List Numbers) (bytes : List ℕ) → filled bounds (solid bytes) ≡ bytes
filled-whole bounds [] = refl
filled-whole bounds (b ∷ bytes) = ap (λ (rest : List ℕ). b ∷ rest) (filled-whole bounds bytes)

-- a text in two parts, each with its bounds
pub filled-append : (bounds more : List Numbers) (text rest : List (Option ℕ)) → gaps_in text ≡ length bounds → filled (bounds ++ more) (text ++ rest) ≡ filled bounds text ++ filled more rest
filled-append [] more [] rest same = refl
filled-append (b ∷ bounds) more [] rest same = absurd (omega (arith, same))
filled-append bounds more (Some byte ∷ text) rest same = ap (λ (some : List ℕ). byte ∷ some) (filled-append bounds more text rest same)
filled-append [] more (None ∷ text) rest same = absurd (omega (arith, same))
filled-append (b ∷ bounds) more (None ∷ text) rest same =
    ap (λ (some : List ℕ). bound_text b ++ some) (filled-append bounds more text rest (omega (arith, same)))
    ∙ sym (append_assoc (bound_text b) (filled bounds text) (filled more rest))

-- a text without a place has no gap
pub no_gap : (places bytes : List ℕ) (bounds : List Numbers) → length places ≡ 0 → bytes ≡ filled bounds (with_gaps 0 places bytes)
no_gap [] bytes bounds none = sym (filled-whole bounds bytes)
no_gap (place ∷ places) bytes bounds none = absurd (omega (arith, none))
