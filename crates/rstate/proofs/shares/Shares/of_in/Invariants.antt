use Rattle.std.proofs.Common.{◌≡◌, ◌≤◌, length, All, vec_capacity}
use Rattle.std.specs.Arc.{arc_value}
use Rattle.rstate.proofs.shares.Shares.of_in.Given as goal

abbrev pub invariant-loop : goal.invariant-loop
invariant-loop g l =
    (length l.list.items ≡ l.counter) × (l.fn.n ≤ vec_capacity l.list) × All (λ share. arc_value share ≡ l.fn.value) l.list.items
