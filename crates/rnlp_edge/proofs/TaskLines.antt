-- The lines of the tasks of a run, one after another.
use Rattle.std.proofs.Common.{◌≡◌, ◌+◌, ◌≤◌, ℕ, zero, suc, List, [], ◌∷◌, ◌++◌, flat_map, sym, ap, ◌∙◌, append_assoc, arith}
use Rattle.std.specs.List.{range_with_len}
use Rattle.std.proofs.lemmas.List.{flat_map_more}

range_more : (a n j : ℕ) → a + n ≡ j → range_with_len a (suc n) ≡ range_with_len a n ++ j ∷ []
range_more a zero j is = ap (λ (x : ℕ). x ∷ []) (omega (arith, is))
range_more a (suc n) j is = ap (λ (xs : List ℕ). a ∷ xs) (range_more (a + 1) n j (omega (arith, is)))

range_next : (a n j : ℕ) → a + n ≡ j → range_with_len a (n + 1) ≡ range_with_len a n ++ j ∷ []
range_next a n j is = let next : suc n ≡ n + 1 = omega arith in ap (range_with_len a) (sym next) ∙ range_more a n j is

-- the lines of the first n tasks, and then that of the next
pub lines_more : (first now then : List ℕ) (line : ℕ → List ℕ) (n : ℕ) → now ≡ first ++ flat_map line (range_with_len 0 n) → then ≡ now ++ line n → then ≡ first ++ flat_map line (range_with_len 0 (n + 1))
lines_more first now then line n so is =
    is ∙ ap (λ (t : List ℕ). t ++ line n) so ∙ flat_map_more line first (range_with_len 0 n) n ∙ ap (λ (xs : List ℕ). first ++ flat_map line xs) (sym (range_next 0 n n (omega arith)))

-- a text that grew by a piece, and then by the rest
pub put_first : (before between after piece rest : List ℕ) → between ≡ before ++ piece → after ≡ between ++ rest → after ≡ before ++ (piece ++ rest)
put_first before between after piece rest first then = then ∙ ap (λ (t : List ℕ). t ++ rest) first ∙ append_assoc before piece rest
