-- One more element at the end of a list.
use Rattle.std.proofs.Common.{◌≡◌, ℕ, ◌+◌, ◌<◌, Option, Some, None, List, [], ◌∷◌, ◌++◌, length, get_or, take, refl, sym, ap, ◌∙◌}
use Rattle.std.proofs.lemmas.List.{take_more}
use Rattle.std.specs.List.{filter_map, cons_option}
use Rattle.std.specs.Option.{option_to_list}
use Rattle.rcover_laws.proofs.runs.Push.{filter_map_append}

one_found : {Y : Type 0} (o : Option Y) → cons_option o [] ≡ option_to_list o
one_found None = refl
one_found (Some y) = refl

-- what a list is mapped to, up to one more of its elements
pub found_more : {X Y : Type 0} (f : X → Option Y) (xs : List X) (i : ℕ) (x : X) → i < length xs → x ≡ get_or xs i x → filter_map f (take (i + 1) xs) ≡ filter_map f (take i xs) ++ option_to_list (f x)
found_more f xs i x h there =
    ap (filter_map f) (take_more xs i x h) ∙ filter_map_append f (take i xs) (get_or xs i x ∷ []) ∙ ap (λ y. filter_map f (take i xs) ++ cons_option (f y) []) (sym there)
    ∙ ap (λ ys. filter_map f (take i xs) ++ ys) (one_found (f x))

-- a list has only one last element, and one list before it
pub same_ends : {X : Type 0} (xs ys : List X) (x y : X) → xs ++ x ∷ [] ≡ ys ++ y ∷ [] → (xs ≡ ys) × (x ≡ y)
same_ends [] [] x y e = (refl, cc)
same_ends [] (b ∷ []) x y e = cc
same_ends [] (b ∷ c ∷ ys) x y e = cc
same_ends (a ∷ []) [] x y e = cc
same_ends (a ∷ c ∷ xs) [] x y e = cc
same_ends (a ∷ xs) (b ∷ ys) x y e =
    let tails : xs ++ x ∷ [] ≡ ys ++ y ∷ [] = cc in
    let rest = same_ends xs ys x y tails in
    let heads : a ≡ b = cc in
    ((λ i. heads i ∷ rest.0 i), rest.1)
