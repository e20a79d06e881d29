use Rattle.watched_example.specs.Sections.{IsAtRest, HasMade}
use Rattle.watched_example.proofs.section.make_all.Given as goal

abbrev pub invariant-loop-made : goal.invariant-loop-made
invariant-loop-made g l = IsAtRest l.lock l.seat × HasMade l._made l.fn.seat l.seat
