use Rattle.std.proofs.Common.{◌≡◌, drop}
use Rattle.rcover_laws.specs.History.{length_from, length_in}
use Rattle.rcover_plain.proofs.by_definition.length_in.Given as goal

abbrev pub invariant-loop-event : goal.invariant-loop-event
invariant-loop-event l = length_from (drop l.event-index l.events) l.before l.c ≡ length_in l.events l.c
