-- Making one counter after another.
use Rattle.std.proofs.Common.{◌≡◌, ℕ, ◌+◌, ◌<◌, List, [], ◌∷◌, ◌++◌, map, length, take, get_or, sym, ap, ◌∙◌}
use Rattle.std.proofs.lemmas.List.{map_push, take_more}
use Rattle.rwatch.specs.Seen.{Seen}

-- if the first i kinds have their counters, one more gives the next its counter
pub one_more : {X K : Type 0} (seen : X → Seen) (counter : K → Seen) (kinds : List K) (list longer : List X) (x : X) (i : ℕ) (d : K)
    → i < length kinds → map seen list ≡ map counter (take i kinds) → longer ≡ list ++ x ∷ [] → seen x ≡ counter (get_or kinds i d) → map seen longer ≡ map counter (take (i + 1) kinds)
one_more seen counter kinds list longer x i d less so is made =
    ap (map seen) is ∙ map_push seen list x ∙ ap (λ all. all ++ seen x ∷ []) so ∙ ap (λ one. map counter (take i kinds) ++ one ∷ []) made
    ∙ sym (map_push counter (take i kinds) (get_or kinds i d)) ∙ ap (map counter) (sym (take_more kinds i d less))
