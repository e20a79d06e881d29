use Rattle.std.proofs.Common.{◌≡◌, ◌<◌, ◌^◌, length, take, drop}
use Rattle.rrun.specs.Desks.{IsBehind}
use Rattle.rrun.proofs.Breaking.{sections_in}
use Rattle.rrun.proofs.steps.run_steps.Given as goal

abbrev pub invariant-loop-statement : goal.invariant-loop-statement
invariant-loop-statement g l = IsBehind {M = g.row.M.Denot} l.fn.seat (take l.statement-index l.steps) (drop l.statement-index l.steps) l.desk × (l.sections ≡ sections_in (take l.statement-index l.steps)) × (length l.steps < 2 ^ 64)
