-- The seats of tasks that have ended.
use Rattle.std.proofs.Common.{◌≡◌, ◌<◌, ℕ, false, Option, None, List, map, length, Some, Result, Ok, Err, IfOk, refl, sym, ap, subst, ◌∙◌}
use Rattle.std.proofs.lemmas.Bool.{true≢false}
use Rattle.std.proofs.lemmas.List.{length-map}
use Rattle.std.specs.List.{list_any}
use Rattle.std.specs.Prelude.{is_some, slice_get}
use Rattle.rlock.specs.Known.{Site}
use Rattle.rvalue.specs.declared.ledger.Edit.{Edit}
use Rattle.rvalue.specs.declared.ledger.Ledger.{Ledger}
use Rattle.rstate.proofs.homes.Lists.{same_item, get_map, get_there, any_here}
use Rattle.rrun.specs.Scripts.{ScriptFields}
use Rattle.rrun.specs.GuardSeats.{SeatOf}
use Rattle.rrun.specs.Seats.{IsSeatFor}
use Rattle.rrun.specs.declared.tasks.Ended.{Ended}
use Rattle.rrun.specs.Endings.{AreEnded}
use Rattle.rrun.specs.Tasks.{AreSeatsFor, HasEnded}
use Rattle.rrun.specs.Reporting.{HaveEnded}
use Rattle.rrun.proofs.Ending.{less_from_slice_get}

-- two facts about an answer give a third
pub both_ok : {X Y : Type 0} (r : Result X Y) (P Q R : X → Type 0) → ((x : X) → P x → Q x → R x) → IfOk r P → IfOk r Q → IfOk r R
both_ok (Ok x) P Q R so p q = so x p q
both_ok (Err e) P Q R so p q = tt

module _ {M : Type 0} (site : Site) (p : ScriptFields) (seats : List (SeatOf Ledger Edit)) (ended : List (Ended M)) (are : AreEnded {M = M} site p seats ended) (later : List (SeatOf Ledger Edit)) (left : later ≡ map (λ (e : Ended M). e.seat) ended) where
  many_left : length later ≡ length ended
  many_left = ap length left ∙ length-map ended (λ (e : Ended M). e.seat)

  -- the task whose seat is left
  task_of : (k : ℕ) (last : SeatOf Ledger Edit) → slice_get later k ≡ Some last → (e : Ended M) × (slice_get ended k ≡ Some e) × (e.seat ≡ last)
  task_of k last there =
      let e = get_there ended k (subst (λ n. k < n) many_left (less_from_slice_get later k last there)) in
      (e.0, e.1, same_item e.0.seat last (sym (ap (λ (ss : List (SeatOf Ledger Edit)). slice_get ss k) left ∙ get_map (λ (e : Ended M). e.seat) ended k e.0 e.1) ∙ there))

  pub are_left : AreSeatsFor site p later
  are_left = record {
    count = many_left ∙ are.count;
    each = λ k last there. let e = task_of k last there in subst (IsSeatFor site p k) e.2 (are.seats_are k e.0 e.1);
  }

  pub have_ended : (stopped : List (Option ℕ)) → stopped ≡ map (λ (e : Ended M). e.stopped) ended → HaveEnded p stopped seats later
  have_ended stopped all k statements o seat last steps_is stopped_is seat_is there =
      let e = task_of k last there in
      let same : e.0.stopped ≡ o = same_item e.0.stopped o (sym (ap (λ (os : List (Option ℕ)). slice_get os k) all ∙ get_map (λ (e : Ended M). e.stopped) ended k e.0 e.1) ∙ stopped_is) in
      subst (λ (o : Option ℕ). HasEnded statements seat o last) same (subst (HasEnded statements seat e.0.stopped) e.2 (are.each k statements seat e.0 steps_is seat_is e.1))

-- if no task was stopped
pub not_stopped : (stopped : List (Option ℕ)) (k : ℕ) (o : Option ℕ) → list_any is_some stopped ≡ false → slice_get stopped k ≡ Some o → o ≡ None
not_stopped stopped k None none there = refl
not_stopped stopped k (Some n) none there = absurd (true≢false (sym (any_here (λ (o : Option ℕ). is_some o) stopped k (Some n) there refl) ∙ none))
