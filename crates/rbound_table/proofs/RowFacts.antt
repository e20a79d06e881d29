-- Rows, as they are kept.
use Rattle.std.proofs.Common.{◌≡◌, ◌<◌, ◌≤◌, ◌+◌, ℕ, zero, suc, List, [], ◌∷◌, ◌++◌, map, length, get_or, refl, sym, ap, ◌∙◌, arith}
use Rattle.std.specs.List.{range_with_len}
use Rattle.std.proofs.lemmas.List.{map-append}
use Rattle.std.proofs.lemmas.List.FromFn.{map-range_with_len_more, get_or-map-range_with_len}
use Rattle.std.specs.declared.vec.Vec.{Vec}
use Rattle.std.specs.declared.alloc.Global.{Global}
use Rattle.rbound_table.specs.Lengths.{rows_in}

pub row_there : {X : Type 0} (rows : List (Vec X Global)) (i : ℕ) (v : Vec X Global) → i < length rows → v ≡ get_or rows i v → v.items ≡ get_or (rows_in rows) i []
row_there [] i v h is = absurd (omega arith)
row_there {X} (w ∷ rows) zero v h is = ap (λ (u : Vec X Global). u.items) is
row_there (w ∷ rows) (suc i) v h is = row_there rows i v (omega arith) is

pub no_row : {X : Type 0} (rows : List (Vec X Global)) (i : ℕ) → length rows ≤ i → [] ≡ get_or (rows_in rows) i []
no_row [] i h = refl
no_row (w ∷ rows) zero h = absurd (omega arith)
no_row (w ∷ rows) (suc i) h = no_row rows i (omega arith)

pub rows_more : {X : Type 0} (f : ℕ → List X) (old new : List (Vec X Global)) (n : ℕ) (v : Vec X Global) → rows_in old ≡ map f (range_with_len 0 n) → new ≡ old ++ v ∷ [] → v.items ≡ f n → rows_in new ≡ map f (range_with_len 0 (n + 1))
rows_more {X} f old new n v was is of =
    ap rows_in is ∙ map-append (λ (u : Vec X Global). u.items) old (v ∷ []) ∙ (λ i. was i ++ of i ∷ []) ∙ sym (map-range_with_len_more f 0 n n (omega arith))

-- one of many
pub nth_row : {X : Type 0} (g : ℕ → ℕ → X) (none : X) (rows : List (List X)) (many each i j : ℕ) → rows ≡ map (λ l. map (g l) (range_with_len 0 each)) (range_with_len 0 many) → i < many → j < each → get_or (get_or rows i []) j none ≡ g i j
nth_row g none rows many each i j is within some =
    ap (λ rs. get_or (get_or rs i []) j none) is
    ∙ ap (λ row. get_or row j none) (get_or-map-range_with_len (λ l. map (g l) (range_with_len 0 each)) 0 many i i [] within (omega arith))
    ∙ get_or-map-range_with_len (g i) 0 each j j none some (omega arith)
