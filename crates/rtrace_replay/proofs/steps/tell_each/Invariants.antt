use Rattle.std.proofs.Common.{drop}
use Rattle.rtrace_replay.proofs.Telling.{IsToldSo}
use Rattle.rtrace_replay.proofs.steps.tell_each.Given as goal

abbrev pub invariant-loop-event : goal.invariant-loop-event
invariant-loop-event g l = IsToldSo l.fn.machine.state l.events (g.A.Audience.all l.fn.audience) l.machine.state (drop l.event-index l.events) (g.A.Audience.all l.audience)
