use Rattle.std.proofs.Common.{◌≡◌, ◌+◌, ◌≤◌, ap, sym, ◌∙◌, arith, if◌then◌else◌}
use Rattle.rmodel.specs.Holds.{both, holds_of, is_nothing}
use Rattle.rmon.proofs.Held.{held_next}
use Rattle.rmon.proofs.look.all_held.Goals as goal
use Rattle.rmon.proofs.look.all_held.Goals.{then-not-is_nothing, else-not-is_nothing}

pub loop-seat-init : goal.loop-seat-init
loop-seat-init c = (ap (λ g. (0, g)) c.nothing-all.ensures, omega arith)

pub loop-seat-preserved : goal.loop-seat-preserved
loop-seat-preserved c =
    let xs = c.args.machine.now.state.claims in
    let seat = c.loop-seat.seat in
    let test : c.is_nothing.result ≡ is_nothing (holds_of xs seat) = c.is_nothing.ensures ∙ ap is_nothing c.granted-held.ensures in
    let more : c.if-not-is_nothing.holding ≡ (if is_nothing (holds_of xs seat) then c.loop-seat.holding else c.loop-seat.holding + 1) =
    elim c.if-not-is_nothing.branch [
      | then-not-is_nothing w ↦ w.holding-is ∙ sym (ap (λ b. if b then c.loop-seat.holding else c.loop-seat.holding + 1) (sym test ∙ w.if-not-is_nothing.true))
      | else-not-is_nothing w ↦ w.holding-is ∙ sym (ap (λ b. if b then c.loop-seat.holding else c.loop-seat.holding + 1) (sym test ∙ w.if-not-is_nothing.false))
    ] in
    let small : c.if-not-is_nothing.holding ≤ seat + 1 = elim c.if-not-is_nothing.branch [
      | then-not-is_nothing w ↦ omega (arith, w.holding-is, c.loop-seat.invariant.1)
      | else-not-is_nothing w ↦ omega (arith, w.holding-is, c.loop-seat.invariant.1)
    ] in (
      ap (λ g. (c.if-not-is_nothing.holding, g)) (c.both-all.ensures ∙ ap (both c.loop-seat.all) c.granted-held.ensures)
          ∙ held_next xs seat c.loop-seat.holding c.if-not-is_nothing.holding c.loop-seat.all c.loop-seat.invariant.0 more,
      small,
    )
