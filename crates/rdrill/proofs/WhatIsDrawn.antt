-- What is drawn for a seat is what is drawn in the state.
use Rattle.std.proofs.Common.{◌≡◌, ℕ, ◌<◌, ◌%◌, true, false, cond, List, length, slice_index_or, Option, Some, None, refl, sym, ap, subst, ◌∙◌}
use Rattle.std.specs.Prelude.{unwrap_or}
use Rattle.std.proofs.lemmas.Option.{slice_get_read}
use Rattle.rclaim.specs.Requests.{RequestFields}
use Rattle.rclaim.specs.declared.event.Event.TheVariants.{Finish}
use Rattle.rmodel.specs.Holds.{has_request}
use Rattle.rmodel.specs.State.{LockState}
use Rattle.rdrill.specs.Draws.{next_draw}
use Rattle.rdrill.specs.Drill.{Drawn, acting, drawn_issue, drawn_by, drawn_holding, drawn_for, seat_drawn, drawn_in, at_seat}

module _ (s : LockState) (latest : List (Option RequestFields)) (x x1 named seat : ℕ) (drawn : x1 ≡ next_draw x) (names : named ≡ next_draw x % 8) (acts : seat ≡ acting s named) where
  its_seat : seat ≡ seat_drawn s x
  its_seat = acts ∙ ap (acting s) names

  of_seat : (d : Drawn) → d ≡ drawn_for s (at_seat latest seat) seat x1 → d ≡ drawn_in s (at_seat latest) x
  of_seat d is = is ∙ (λ i. drawn_for s (at_seat latest (its_seat i)) (its_seat i) (drawn i))

  pub idle_draws : (d : Drawn) → has_request s.claims seat ≡ false → d ≡ drawn_issue seat x1 → d ≡ drawn_in s (at_seat latest) x
  idle_draws d idle is = of_seat d (is ∙ sym (ap (λ b. cond b (drawn_holding s (at_seat latest seat) seat x1) (drawn_issue seat x1)) idle))

  busy_draws : (d : Drawn) (o : Option RequestFields) → has_request s.claims seat ≡ true → at_seat latest seat ≡ o → d ≡ drawn_holding s o seat x1 → d ≡ drawn_in s (at_seat latest) x
  busy_draws d o busy there is =
      of_seat d (is ∙ ap (λ o. drawn_holding s o seat x1) (sym there) ∙ sym (ap (λ b. cond b (drawn_holding s (at_seat latest seat) seat x1) (drawn_issue seat x1)) busy))

  pub some_draws : (d : Drawn) (r : RequestFields) → has_request s.claims seat ≡ true → at_seat latest seat ≡ Some r → d ≡ drawn_by r.kind s r seat x1 → d ≡ drawn_in s (at_seat latest) x
  some_draws d r busy there is = busy_draws d (Some r) busy there is

  pub none_draws : (d : Drawn) → has_request s.claims seat ≡ true → at_seat latest seat ≡ None → d ≡ record { event = Finish seat; x = x1 } → d ≡ drawn_in s (at_seat latest) x
  none_draws d busy there is = busy_draws d None busy there is

-- what is at an index is what is known of the seat
pub at_index : (latest : List (Option RequestFields)) (seat k : ℕ) (o : Option RequestFields) → k ≡ seat → seat < length latest → o ≡ slice_index_or latest k o → at_seat latest seat ≡ o
at_index latest seat k o same less is =
    ap (λ o. unwrap_or o None) (slice_get_read latest (length latest) seat o refl less (subst (λ n. o ≡ slice_index_or latest n o) same is))
