-- What a watcher becomes after some steps.
use Rattle.std.proofs.Common.{◌≡◌, ℕ, suc, ◌+◌, ◌-◌, ◌≤◌, true, cond, List, [], ◌∷◌, ◌++◌, map, length, min, Some, None, Option, refl, sym, ap, subst, ◌∙◌, arith, append_assoc, append-nil}
use Rattle.std.specs.Prelude.{nat_lt}
use Rattle.std.proofs.lemmas.Bool.{lt-ltb}
use Rattle.rclaim.specs.Changes.{ChangeLists}
use Rattle.rclaim.specs.declared.event.Event.{Event}
use Rattle.rwatch.specs.Weights.{weight, greatest}
use Rattle.rwatch.specs.Seen.{Seen, told, told_all, room_after, kept_after}
use Rattle.rwatch.specs.Laws.{weights, HasHeard}

kind_all : (steps : List (Event × ChangeLists)) (w : Seen) → (told_all steps w).kind ≡ w.kind
kind_all [] w = refl
kind_all (s ∷ steps) w = kind_all steps (told s.0 s.1 w)

count_all : (steps : List (Event × ChangeLists)) (w : Seen) → w.count ≤ greatest → (told_all steps w).count ≡ min (w.count + weights w.kind steps) greatest
count_all [] w small = none w.count greatest small
  where
    none : (c g : ℕ) → c ≤ g → c ≡ min (c + 0) g
    none c g le = omega (arith, le)
count_all (s ∷ steps) w small =
    count_all steps (told s.0 s.1 w) (at_most (w.count + weight w.kind s.0 s.1) greatest) ∙ together w.count (weight w.kind s.0 s.1) (weights w.kind steps) greatest
  where
    at_most : (a g : ℕ) → min a g ≤ g
    at_most a g = omega arith

    together : (c a b g : ℕ) → min (min (c + a) g + b) g ≡ min (c + (a + b)) g
    together c a b g = omega arith

kept_all : (steps : List (Event × ChangeLists)) (w : Seen) (events : List Event) → w.kept ≡ Some events → length steps ≤ w.room → (told_all steps w).kept ≡ Some (events ++ map (λ (step : Event × ChangeLists). step.0) steps)
kept_all [] w events is enough = is ∙ ap Some (sym (append-nil events))
kept_all (s ∷ steps) w events is enough =
    kept_all steps (told s.0 s.1 w) (events ++ s.0 ∷ []) now (subst (λ r. length steps ≤ r) (sym (ap (room_after w.room) is)) (less (length steps) w.room enough))
    ∙ ap Some (append_assoc events (s.0 ∷ []) (map (λ (step : Event × ChangeLists). step.0) steps))
  where
    less : (n r : ℕ) → suc n ≤ r → n ≤ r - 1
    less n r le = omega (arith, le)

    some : (n r : ℕ) → suc n ≤ r → nat_lt 0 r ≡ true
    some n r le = lt-ltb 0 r (omega (arith, le))

    now : kept_after w.room w.kept s.0 ≡ Some (events ++ s.0 ∷ [])
    now = ap (λ k. kept_after w.room k s.0) is ∙ ap (λ b. cond {A = Option (List Event)} b (Some (events ++ s.0 ∷ [])) None) (some (length steps) w.room enough)

pub steps_are_heard : (steps : List (Event × ChangeLists)) (w : Seen) → HasHeard steps w (told_all steps w)
steps_are_heard steps w = record { kind = kind_all steps w; count = count_all steps w; kept = kept_all steps w }
