-- What watchers have been given after no step, one step first, and one step last.
use Rattle.std.proofs.Common.{◌≡◌, List, [], ◌∷◌, ◌++◌, map, refl, sym, ap}
use Rattle.std.proofs.lemmas.List.Sums.{fold_push}
use Rattle.rclaim.specs.Changes.{ChangeLists}
use Rattle.rclaim.specs.declared.event.Event.{Event}
use Rattle.rwatch.specs.Seen.{Seen, told, told_all}

pub given_none : (ws : List Seen) → map (told_all []) ws ≡ ws
given_none [] = refl
given_none (w ∷ ws) = ap (λ vs. w ∷ vs) (given_none ws)

pub given_first : (step : Event × ChangeLists) (steps : List (Event × ChangeLists)) (ws : List Seen) → map (told_all (step ∷ steps)) ws ≡ map (told_all steps) (map (told step.0 step.1) ws)
given_first step steps [] = refl
given_first step steps (w ∷ ws) = ap (λ vs. told_all steps (told step.0 step.1 w) ∷ vs) (given_first step steps ws)

pub given_push : (steps : List (Event × ChangeLists)) (step : Event × ChangeLists) (ws : List Seen) → map (told step.0 step.1) (map (told_all steps) ws) ≡ map (told_all (steps ++ step ∷ [])) ws
given_push steps step [] = refl
given_push steps step (w ∷ ws) = (λ i. sym (fold_push (λ v (next : Event × ChangeLists). told next.0 next.1 v) w steps step) i ∷ given_push steps step ws i)
