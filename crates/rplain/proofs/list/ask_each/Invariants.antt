use Rattle.std.proofs.Common.{◌≡◌, ◌++◌, map, take, drop}
use Rattle.rmodel.specs.Steps.{asking}
use Rattle.rplain.proofs.list.ask_each.Given as goal

abbrev pub invariant-loop-x : goal.invariant-loop-x
invariant-loop-x l = l.claims ≡ map (asking l.seat l.part) (take l.x-index l.initial.claims) ++ drop l.x-index l.initial.claims
