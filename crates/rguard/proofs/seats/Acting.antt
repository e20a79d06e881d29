-- Acts of a seat stay right after entries of others.
use Rattle.std.proofs.Common.{◌≡◌, ℕ, Bool, true, IsTrue, List, [], ◌∷◌, ◌++◌, sym, subst, inl, inr}
use Rattle.std.specs.FinSet.{contains}
use Rattle.std.specs.List.{AllByRecursion}
use Rattle.std.proofs.lemmas.Bool.{or_left, or_right, or_cases}
use Rattle.rmodel.specs.State.{LockState}
use Rattle.rvalue.specs.declared.act.Act.{Act}
use Rattle.rvalue.specs.declared.act.Act.TheVariants.{Edited, Shown}
use Rattle.rvalue.specs.Acts.{place_of, value_within, IsAnsweredAt, IsAnsweredAfter}
use Rattle.rvalue.specs.InTurn.{AllInTurn}
use Rattle.rvalue.specs.Lawful.{is_held}
use Rattle.rstate.specs.Histories.{reads_of, writes_of}
use Rattle.rstate.specs.Laws.{is_held_by, IsHeldStill}

-- a seat that holds at least as much may still do the acts
pub held_more : {E : Type 0} (s t : LockState) (n : ℕ) → ((l : ℕ) → IsHeldStill s t n l) → (acts : List (Act E)) → AllByRecursion (λ act. IsTrue (is_held (reads_of s n) (writes_of s n) act)) acts
    → AllByRecursion (λ act. IsTrue (is_held (reads_of t n) (writes_of t n) act)) acts
held_more s t n still [] held = tt
held_more s t n still (Edited place edit done ∷ acts) held = ((still place).writes held.0, held_more s t n still acts held.1)
held_more s t n still (Shown place shown ∷ acts) held = (
  elim (or_cases (contains (reads_of s n) place) (contains (writes_of s n) place) held.0) [
    | inl reads ↦ or_left (contains (reads_of t n) place) (contains (writes_of t n) place) ((still place).reads reads)
    | inr writes ↦ or_right (contains (reads_of t n) place) (contains (writes_of t n) place) ((still place).writes writes)
  ],
  held_more s t n still acts held.1,
)

-- the seat holds what the acts are about
pub places_held : {E : Type 0} (s : LockState) (n : ℕ) (acts : List (Act E)) → AllByRecursion (λ act. IsTrue (is_held (reads_of s n) (writes_of s n) act)) acts → AllByRecursion (λ act. is_held_by s n (place_of act) ≡ true) acts
places_held s n [] held = tt
places_held s n (Edited place edit done ∷ acts) held = (or_right (contains (reads_of s n) place) (contains (writes_of s n) place) held.0, places_held s n acts held.1)
places_held s n (Shown place shown ∷ acts) held = (held.0, places_held s n acts held.1)

-- answers that are right at some values are right at values that agree where the acts are
pub answers_same : {V E : Type 0} (after : V → E → V) (taken : V → E → Bool) (number : V → ℕ) (P : ℕ → Type 0) (old new : ℕ → V) → ((l : ℕ) → P l → new l ≡ old l) → (earlier acts : List (Act E))
    → AllByRecursion (λ act. P (place_of act)) acts → AllInTurn (IsAnsweredAfter after taken number old) earlier acts → AllInTurn (IsAnsweredAfter after taken number new) earlier acts
answers_same after taken number P old new same earlier [] held right = tt
answers_same after taken number P old new same earlier (act ∷ acts) held right = (
  subst (λ v. IsAnsweredAt taken number (value_within after v earlier (place_of act)) act) (sym (same (place_of act) held.0)) right.0,
  answers_same after taken number P old new same (earlier ++ act ∷ []) acts held.1 right.1,
)
