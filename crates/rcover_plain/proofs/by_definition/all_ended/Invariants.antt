use Rattle.std.proofs.Common.{◌≡◌, take}
use Rattle.std.specs.List.{filter_map}
use Rattle.rcover_laws.specs.Ended.{ended_if, wait_of}
use Rattle.rcover_plain.specs.Lists.{moments_in}
use Rattle.rcover_plain.proofs.by_definition.all_ended.Given as goal

abbrev pub invariant-loop-x : goal.invariant-loop-x
invariant-loop-x l = l.ended.items ≡ filter_map (λ x. ended_if l.events (moments_in l.moments) l.next x (wait_of l.events l.last x)) (take l.x-index l.last)
