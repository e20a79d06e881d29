-- Lines after lines, by the numbers of what they are about.
use Rattle.std.proofs.Common.{◌≡◌, ◌+◌, ℕ, zero, suc, List, [], ◌∷◌, ◌++◌, map, length, slice_get, Some, Result, Ok, Err, OnOk, refl, sym, ap, ◌∙◌, arith, append_assoc}
use Rattle.std.specs.List.{flat_map, range_with_len}
use Rattle.std.proofs.lemmas.List.{append-nil}
use Rattle.std.proofs.lemmas.List.FromFn.{map-range_with_len_more}
use Rattle.std.proofs.lemmas.Grind.{flat_map-append}
use Rattle.rclaim.specs.declared.request.Kind.TheVariants.{Nested}
use Rattle.rtrace_form.proofs.facts.Choices.{some_is, some_none}
use Rattle.rtrace_form.specs.Records.{Row}
use Rattle.rtrace_form.specs.SetFields.{name_at}
use Rattle.rtrace_form.specs.Texts.{line_text, text_of}
use Rattle.rbound.specs.TaskNeeds.{TaskNeeds, kind_at, asks_at}
use Rattle.rbound.specs.declared.which.Which.{Which}
use Rattle.rbound.specs.declared.which.Which.TheVariants.{First, Ask}
use Rattle.rnlp_cli.specs.BoundText.{waits_of, wait_row, request_rows, asks_rows}

range_more : (a n : ℕ) → range_with_len a (n + 1) ≡ range_with_len a n ++ (a + n) ∷ []
range_more a zero = let same : a ≡ a + 0 = omega arith in ap (λ k. k ∷ []) same
range_more a (suc n) =
    let more : suc n + 1 ≡ suc (n + 1) = omega arith in
    let same : a + 1 + n ≡ a + suc n = omega arith in
    ap (range_with_len a) more ∙ ap (λ xs. a ∷ xs) (range_more (a + 1) n) ∙ ap (λ k. a ∷ (range_with_len (a + 1) n ++ k ∷ [])) same

pub text_append : (xs ys : List Row) → text_of (xs ++ ys) ≡ text_of xs ++ text_of ys
text_append xs ys = flat_map-append line_text xs ys

pub text_one : (row : Row) → text_of (row ∷ []) ≡ line_text row
text_one row = append-nil (line_text row)

-- the rows of the first n, and then those of the next
pub rows_more : (rows : ℕ → List Row) (first : List ℕ) (n : ℕ) → (first ++ text_of (flat_map rows (range_with_len 0 n))) ++ text_of (rows n) ≡ first ++ text_of (flat_map rows (range_with_len 0 (n + 1)))
rows_more rows first n =
    let same : 0 + n ≡ n = omega arith in
    append_assoc first (text_of (flat_map rows (range_with_len 0 n))) (text_of (rows n))
    ∙ ap (λ text. first ++ text)
    (sym (text_append (flat_map rows (range_with_len 0 n)) (rows n))
    ∙ ap text_of
    (ap (λ us. flat_map rows (range_with_len 0 n) ++ us) (sym (append-nil (rows n)) ∙ ap (λ k. rows k ++ []) (sym same))
    ∙ sym (flat_map-append rows (range_with_len 0 n) ((0 + n) ∷ []))
    ∙ ap (flat_map rows) (sym (range_more 0 n))))

-- the row of each of the first n, and then that of the next
pub row_more : (row : ℕ → Row) (first : List ℕ) (n : ℕ) → (first ++ text_of (map row (range_with_len 0 n))) ++ line_text (row n) ≡ first ++ text_of (map row (range_with_len 0 (n + 1)))
row_more row first n =
    append_assoc first (text_of (map row (range_with_len 0 n))) (line_text (row n))
    ∙ ap (λ text. first ++ text)
    (ap (λ us. text_of (map row (range_with_len 0 n)) ++ us) (sym (text_one (row n)))
    ∙ sym (text_append (map row (range_with_len 0 n)) (row n ∷ []))
    ∙ ap text_of (sym (map-range_with_len_more (λ k. row k) 0 n n (omega arith))))

-- a line that was put piece by piece
pub line_put : (t₀ t₁ t₂ t₃ t₄ t₅ t₆ t₇ t₈ a b c d e f g : List ℕ) → t₁ ≡ t₀ ++ a → t₂ ≡ t₁ ++ b → t₃ ≡ t₂ ++ c → t₄ ≡ t₃ ++ d → t₅ ≡ t₄ ++ e → t₆ ≡ t₅ ++ f → t₇ ≡ t₆ ++ g → t₈ ≡ t₇ ++ 10 ∷ []
    → t₈ ≡ t₀ ++ ((a ++ (b ++ (c ++ (d ++ (e ++ (f ++ (g ++ []))))))) ++ 10 ∷ [])
line_put t₀ t₁ t₂ t₃ t₄ t₅ t₆ t₇ t₈ a b c d e f g p₁ p₂ p₃ p₄ p₅ p₆ p₇ p₈ =
    let q₂ = p₂ ∙ ap (λ t. t ++ b) p₁ in
    let q₃ = p₃ ∙ ap (λ t. t ++ c) q₂ in
    let q₄ = p₄ ∙ ap (λ t. t ++ d) q₃ in
    let q₅ = p₅ ∙ ap (λ t. t ++ e) q₄ in
    let q₆ = p₆ ∙ ap (λ t. t ++ f) q₅ in
    let q₇ = p₇ ∙ ap (λ t. t ++ g) q₆ in
    p₈ ∙ ap (λ t. t ++ 10 ∷ []) q₇ ∙ simp (append_assoc, append-nil)

-- the name with a number that a table has
pub named : (names : List (List ℕ)) (n : ℕ) (name : List ℕ) → slice_get names n ≡ Some name → name ≡ name_at names n
named [] n name at = absurd (some_none at)
named (x ∷ names) zero name at = sym (some_is at)
named (x ∷ names) (suc n) name at = named names n name at

map_map : {X Y Z : Type 0} (f : Y → Z) (g : X → Y) (xs : List X) → map f (map g xs) ≡ map (λ x. f (g x)) xs
map_map f g [] = refl
map_map f g (x ∷ xs) = ap (λ us. f (g x) ∷ us) (map_map f g xs)

-- the line of the first wait of a nested request, and those of its asks
nested_rows : (needs : TaskNeeds) (cap : ℕ) (name : List ℕ) (task number : ℕ) → kind_at needs.tasks task number ≡ Some Nested
    → text_of (request_rows needs cap name task number) ≡ line_text (wait_row needs cap name task number First) ++ text_of (asks_rows needs cap name task number)
nested_rows needs cap name task number is =
    let row : Which → Row = wait_row needs cap name task number in
    let asks = length (asks_at needs.tasks task number) in
    ap (λ kind. text_of (map row (waits_of kind asks))) is
    ∙ ap (λ rows. line_text (row First) ++ text_of rows) (map_map row Ask (range_with_len 0 asks))

on_ok_weaker : {T E P Q : Type 0} (r : Result T E) → (P → Q) → OnOk r P → OnOk r Q
on_ok_weaker (Ok x) w p = w p
on_ok_weaker (Err e) w p = tt

pub nested_put : {T E : Type 0} (r : Result T E) (needs : TaskNeeds) (cap : ℕ) (name : List ℕ) (task number : ℕ) (first then last : List ℕ) → kind_at needs.tasks task number ≡ Some Nested
    → then ≡ first ++ line_text (wait_row needs cap name task number First) → OnOk r (last ≡ then ++ text_of (asks_rows needs cap name task number))
    → OnOk r (last ≡ first ++ text_of (request_rows needs cap name task number))
nested_put r needs cap name task number first then last is put =
    on_ok_weaker r (λ (more : last ≡ then ++ text_of (asks_rows needs cap name task number)).
    more
    ∙ ap (λ t. t ++ text_of (asks_rows needs cap name task number)) put
    ∙ append_assoc first (line_text (wait_row needs cap name task number First)) (text_of (asks_rows needs cap name task number))
    ∙ ap (λ t. first ++ t) (sym (nested_rows needs cap name task number is)))
