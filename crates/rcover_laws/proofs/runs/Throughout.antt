-- What holds a write up at the last moment at which it is entitled did so at all of them.
use Rattle.std.proofs.Common.{◌≡◌, ◌≢◌, Bool, true, false, List, [], ◌∷◌, filter, refl, sym, subst, ◌∙◌, inl}
use Rattle.std.specs.List.{AllByRecursion}
use Rattle.rclaim.specs.declared.claim.Claim.{Claim}
use Rattle.rclaim.specs.declared.event.Event.{Event}
use Rattle.rmodel.specs.Reached.{IsReached}
use Rattle.rmodel.specs.State.{LockState}
use Rattle.rmodel.specs.Steps.{next, Comes, AreAccepted}
use Rattle.rmodel.proofs.settling.OneSettlement.{both_cases}
use Rattle.rmodel.proofs.reaching.Reached.{reached_next}
use Rattle.rcover_laws.specs.Moments.{Moment, moments, later}
use Rattle.rcover_laws.proofs.lists.Found.{filter_yes, filter_no, not_empty}
use Rattle.rcover_laws.proofs.states.AtRest.{Sat, IsEntitled, HoldsUp, IsHeld}
use Rattle.rcover_laws.proofs.states.ThroughEvent.{held_before}

-- once the test fails, it keeps failing
abbrev pub Stops : (Moment → Bool) → LockState → List Event → Type 0
Stops q s [] = Unit {0}
Stops q s (e ∷ es) = (q s.claims ≡ true → q (next s e).claims ≡ false → filter q (moments (next s e) es) ≡ []) × Stops q (next s e) es

-- a claim of this sort holds a write up at each of these moments
pub record IsHeldThroughout (R : Claim → Type 0) (v : Claim) (ms : List Moment) : Type 0 where
  pub by : Claim
  pub right : R by
  pub holds_up : HoldsUp v by
  pub sat : AllByRecursion (Sat by) ms

-- the write is entitled at a moment, and held up there by a claim of this sort
pub record IsEntitledAndHeld (R : Claim → Type 0) (v : Claim) (m : Moment) : Type 0 where
  pub entitled : IsEntitled v m
  pub held : IsHeld R v m

module _ (R : Claim → Type 0) (v : Claim) (q : Moment → Bool) where
  abbrev Holds : List Moment → Type 0
  Holds ms = IsHeldThroughout R v ms

  -- if only the first moment passes
  only_first : (m : Moment) → IsHeld R v m → Holds (m ∷ [])
  only_first m h = record { by = h.by; right = h.right; holds_up = h.holds_up; sat = (h.sat, tt) }

  -- one more moment, before the others
  one_more : (s : LockState) (e : Event) → IsReached s → Comes s e → (rest : List Moment)
      → (q s.claims ≡ true → IsEntitledAndHeld R v s.claims)
      → (q (next s e).claims ≡ true → IsEntitledAndHeld R v (next s e).claims)
      → (q s.claims ≡ true → q (next s e).claims ≡ false → filter q ((next s e).claims ∷ rest) ≡ [])
      → (filter q ((next s e).claims ∷ rest) ≢ [] → Holds (filter q ((next s e).claims ∷ rest)))
      → filter q (s.claims ∷ (next s e).claims ∷ rest) ≢ [] → Holds (filter q (s.claims ∷ (next s e).claims ∷ rest))
  one_more s e reached comes rest here there stops inner some =
      both_cases (q s.claims)
      (λ on. subst Holds (sym (filter_yes q s.claims ((next s e).claims ∷ rest) on))
      (both_cases (q (next s e).claims) (λ on'. goes_on on on')
      (λ off. subst (λ (ms : List Moment). Holds (s.claims ∷ ms)) (sym (stops on off)) (only_first s.claims (here on).held))))
      (λ off. subst Holds (sym (filter_no q s.claims ((next s e).claims ∷ rest) off)) (inner (λ none. some (filter_no q s.claims ((next s e).claims ∷ rest) off ∙ none))))
    where
      goes_on : q s.claims ≡ true → q (next s e).claims ≡ true → Holds (s.claims ∷ filter q ((next s e).claims ∷ rest))
      goes_on on on' =
          let is : filter q ((next s e).claims ∷ rest) ≡ (next s e).claims ∷ filter q rest = filter_yes q (next s e).claims rest on' in
          let h = subst Holds is (inner (λ none. not_empty ((next s e).claims ∷ filter q rest) (next s e).claims (inl refl) (sym is ∙ none))) in
          let was = held_before s e reached comes v h.by (here on).entitled (there on').entitled h.holds_up h.sat.0 in
          subst (λ (ms : List Moment). Holds (s.claims ∷ ms)) (sym is) (record { by = h.by; right = h.right; holds_up = h.holds_up; sat = (was, h.sat) })

  pub held_throughout : (s : LockState) (es : List Event) → IsReached s → AreAccepted s es → AllByRecursion (λ m. q m ≡ true → IsEntitledAndHeld R v m) (moments s es) → Stops q s es
      → filter q (moments s es) ≢ [] → Holds (filter q (moments s es))
  held_throughout s [] reached accepted each stops some =
      both_cases (q s.claims)
      (λ on. subst Holds (sym (filter_yes q s.claims [] on)) (only_first s.claims (each.0 on).held))
      (λ off. absurd (some (filter_no q s.claims [] off)))
  held_throughout s (e ∷ es) reached accepted each stops some =
      one_more s e reached accepted.0 (later (next s e) es) each.0 each.1.0 stops.0
      (held_throughout (next s e) es (reached_next s e reached accepted.0) accepted.1 each.1 stops.1) some
