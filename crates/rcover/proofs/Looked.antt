-- No wait ends of a claim whose seat is not looked at.
use Rattle.std.proofs.Common.{◌≡◌, ℕ, suc, ◌+◌, ◌<◌, ◌==◌, Bool, true, false, not, ◌&&◌, ◌||◌, cond, Option, Some, None, List, [], ◌∷◌, ◌++◌, append-nil, arith, drop, get_or, length, take, refl, sym, ap, subst, ◌∙◌, inl, inr}
use Rattle.std.proofs.lemmas.Bool.{eqb-true}
use Rattle.std.proofs.lemmas.List.{take-append-drop}
use Rattle.std.proofs.lemmas.List.Elements.{filter_map-append}
use Rattle.std.specs.FinSet.{contains, empty, remove}
use Rattle.std.specs.List.{filter_map, cons_option}
use Rattle.rset.specs.Sets.{Set}
use Rattle.rset.proofs.SetMembers.{contains_empty, contains_remove}
use Rattle.rclaim.specs.declared.changes.GrantChange.{GrantChange}
use Rattle.rclaim.specs.declared.event.Event.{Event}
use Rattle.rmodel.specs.declared.claimed.Claimed.{Claimed}
use Rattle.rmodel.specs.WellFormed.{Among, EachPair}
use Rattle.rmodel.proofs.ListFacts.{contrary}
use Rattle.rbound.specs.declared.which.Which.{Which}
use Rattle.rcover_laws.specs.Ended.{wait_of, waits_in, wait_end}
use Rattle.rcover_laws.specs.History.{length_in}
use Rattle.rcover_laws.specs.Moments.{Moment}
use Rattle.rcover_laws.specs.Sections.{Sections}
use Rattle.rcover_laws.specs.Told.{waits_for_ask, stands}
use Rattle.rcover_laws.specs.Within.{numbers_of}
use Rattle.rcover_laws.proofs.told.Few.{waits_told}
use Rattle.rcover.specs.Quiet.{has_grant, GoesOn, OneWaits}
use Rattle.rcover.specs.Tracked.{shown, told, told_if}
use Rattle.rcover.specs.NotedSeats.{some_wait}
use Rattle.rcover.proofs.SeatFacts.{eq_turned}
use Rattle.rcover.proofs.Waits.{waits_is}
use Rattle.rmodel.proofs.settling.OneSettlement.{both_cases}
use Rattle.rcover.proofs.Behind.{later_in, pair_behind}

quiet_by : (a g k w : Bool) → (((a || g) || k) && true) ≡ false → (w ≡ true → k ≡ true) → (not a && (not w && not g)) ≡ true
quiet_by true g k w off asks = contrary true refl off
quiet_by false true k w off asks = contrary true refl off
quiet_by false false true w off asks = contrary true refl off
quiet_by false false false true off asks = contrary false (asks refl) refl
quiet_by false false false false off asks = refl

module _ (m n : Moment) (x : Claimed) where
  pub unlooked : (looked waiting asking : Set) (seat : ℕ) (gs : List GrantChange) → (some_wait m x ≡ true → contains waiting x.claim.seat ≡ true) → (waits_for_ask m x ≡ true → contains asking x.claim.seat ≡ true)
      → GoesOn seat gs m n x → contains looked x.claim.seat ≡ ((((seat == x.claim.seat) || has_grant gs x.claim.seat) || contains asking x.claim.seat) && contains waiting x.claim.seat) → contains looked x.claim.seat ≡ false
      → (w : Which) → waits_in w m x ≡ true → stands (waits_in w) x.claim n ≡ true
  unlooked looked waiting asking seat gs waits asks goes is off w on =
      let held = waits (waits_is m w x on) in
      let l = x.claim.seat in
      let none : ((((l == seat) || has_grant gs l) || contains asking l) && true) ≡ false = (λ i. ((eq_turned l seat i || has_grant gs l) || contains asking l) && sym held i) ∙ sym is ∙ off in
      goes (quiet_by (l == seat) (has_grant gs l) (contains asking l) (waits_for_ask m x) none asks) w on

  pub none_of : (es : List Event) (table : ℕ → Sections) → ((w : Which) → waits_in w m x ≡ true → stands (waits_in w) x.claim n ≡ true) → told_if (length_in es) m n table x (wait_of es m x) ≡ None
  none_of es table goes = at (wait_of es m x) refl
    where
      at : (o : Option Which) → wait_of es m x ≡ o → told_if (length_in es) m n table x o ≡ None
      at None is = refl
      at (Some w) is = ap (λ b. cond b None (Some (wait_end w x.claim (numbers_of (length_in es) (shown w x (table x.claim.seat) m))))) (goes w (waits_told es m x w is))

-- ---- the claims from a place on

-- from a place on, the waits of claims of seats that are not left go on
abbrev pub RestGoesOn : Moment → Moment → ℕ → Set → Type 0
RestGoesOn m n i left = (y : Claimed) → Among y (drop i m) → contains left y.claim.seat ≡ false → (w : Which) → waits_in w m y ≡ true → stands (waits_in w) y.claim n ≡ true

module _ (m n : Moment) (i : ℕ) (left : Set) (rest : RestGoesOn m n i left) where
  at_later : (y : Claimed) → Among y (drop (i + 1) m) → Among y (drop (suc i) m)
  at_later y there = let same : i + 1 ≡ suc i = omega arith in subst (λ (k : ℕ). Among y (drop k m)) same there

  pub rest_same : RestGoesOn m n (i + 1) left
  rest_same y there off w on = rest y (later_in i m y (at_later y there)) off w on

  -- and so they do if one seat fewer is left, once its first claim is passed
  pub rest_less : (x : Claimed) → EachPair (OneWaits m) m → i < length m → x ≡ get_or m i x → RestGoesOn m n (i + 1) (remove left x.claim.seat)
  rest_less x apart low is y there off w on =
      both_cases (y.claim.seat == x.claim.seat)
      (λ own.
      contrary (waits_in w m y) on
      (subst (λ (z : Claimed). OneWaits m z y) (sym is) (pair_behind (OneWaits m) m i x y apart low (at_later y there)) (sym (eqb-true y.claim.seat x.claim.seat own)) w))
      (λ other.
      rest y (later_in i m y (at_later y there)) (sym (contains_remove left x.claim.seat y.claim.seat ∙ ap (λ b. not b && contains left y.claim.seat) other) ∙ off) w on)

  -- if no seat is left, nothing more is reported
  pub rest_none : left ≡ empty → (es : List Event) (table : ℕ → Sections) → filter_map (λ x. told_if (length_in es) m n table x (wait_of es m x)) (take i m) ≡ told es m n table
  rest_none none es table =
      let f = λ (x : Claimed). told_if (length_in es) m n table x (wait_of es m x) in
      sym (append-nil (filter_map f (take i m))) ∙ ap (λ l. filter_map f (take i m) ++ l) (sym (all_none (drop i m) (λ y there. there))) ∙ sym (filter_map-append f (take i m) (drop i m)) ∙ ap (filter_map f) (take-append-drop i m)
    where
      all_none : (xs : Moment) → ((x : Claimed) → Among x xs → Among x (drop i m)) → filter_map (λ x. told_if (length_in es) m n table x (wait_of es m x)) xs ≡ []
      all_none [] in_rest = refl
      all_none (x ∷ xs) in_rest =
          (λ i. cons_option (none_of m n x es table (rest x (in_rest x (inl refl)) (ap (λ (s : Set). contains s x.claim.seat) none ∙ contains_empty x.claim.seat)) i) (all_none xs (λ y there. in_rest y (inr there)) i))
