use Rattle.std.proofs.Common.{◌≡◌, ◌≤◌}
use Rattle.rmon.specs.Looks.{all_held}
use Rattle.rmon.proofs.look.all_held.Given as goal

abbrev pub invariant-loop-seat : goal.invariant-loop-seat
invariant-loop-seat l = ((l.holding, l.all) ≡ all_held l.machine.state.claims l.seat) × (l.holding ≤ l.seat)
