use Rattle.std.proofs.Common.{Some}
use Rattle.rlock.proofs.gate.Gate.leave.Given as goal

abbrev pub ghosts-note : goal.ghosts-note
ghosts-note g a = record { told = Some a.state.now }
