use Rattle.std.proofs.Common.{◌≡◌, take}
use Rattle.rmodel.specs.Steps.{after}
use Rattle.rcover_plain.specs.Lists.{moments_in}
use Rattle.rcover_laws.specs.Moments.{moments}
use Rattle.rcover_plain.proofs.moments.moments_of.Given as goal

abbrev pub invariant-loop-event : goal.invariant-loop-event
invariant-loop-event l = record {
  kept : moments_in l.all.items ≡ moments l.fn.machine.state (take l.event-index l.events);
  state : l.machine.state ≡ after l.fn.machine.state (take l.event-index l.events);
}
