use Rattle.std.proofs.Common.{◌≡◌, ◌≤◌, take}
use Rattle.rcover_laws.specs.History.{asks_since}
use Rattle.rcover_plain.proofs.by_definition.last_ask.Given as goal

abbrev pub invariant-loop-event : goal.invariant-loop-event
invariant-loop-event l = record {
  count : l.count ≡ asks_since l.c.seat (take l.event-index l.events);
  small : l.count ≤ l.event-index;
}
