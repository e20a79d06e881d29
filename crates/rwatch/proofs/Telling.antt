-- Giving a step to the items of a list, one after another.
use Rattle.std.proofs.Common.{◌≡◌, ℕ, ◌+◌, ◌<◌, List, ◌++◌, map, length, ◌≤◌, take, drop, get_or, set, sym, ap, subst, ◌∙◌}
use Rattle.std.proofs.lemmas.List.{map-set, get_or-map, length-map, length-set, take_all, append-nil, drop_all}
use Rattle.std.proofs.lemmas.List.Edits.{map_over_more}
use Rattle.rwatch.specs.Seen.{Seen}

-- `v` is what is seen of an item, and `f` what the step makes of that
module _ {X : Type 0} (v : X → Seen) (f : Seen → Seen) where
  -- the first i items of the list have been given the step
  abbrev pub AreTold : List X → ℕ → List X → Type 0
  AreTold first i list = (map v list ≡ map f (take i (map v first)) ++ drop i (map v first)) × (length list ≡ length first)

  pub told_more : (first list : List X) (i : ℕ) (d y : X) → i < length list → AreTold first i list → v y ≡ f (v (get_or list i d)) → AreTold first (i + 1) (set list i y)
  told_more first list i d y less told now =
      let x = v (get_or list i d) in (
        map-set v list i y ∙ ap (set (map v list) i) now
            ∙ map_over_more f (map v first) (map v list) i x (subst (λ n. i < n) (sym (length-map first v)) (subst (λ n. i < n) told.1 less)) told.0 (sym (get_or-map v list i d x less)),
        length-set list i y ∙ told.1,
      )

  -- all of them have been given the step
  pub told_end : (first list : List X) (i : ℕ) → length first ≤ i → AreTold first i list → map v list ≡ map f (map v first)
  told_end first list i all told =
      let long : length (map v first) ≤ i = subst (λ n. n ≤ i) (sym (length-map first v)) all in
      told.0 ∙ ap (λ ys. map f ys ++ drop i (map v first)) (take_all i (map v first) long) ∙ ap (λ ys. map f (map v first) ++ ys) (drop_all i (map v first) long) ∙ append-nil (map f (map v first))
