use Rattle.std.proofs.Common.{◌≡◌, ◌++◌, take}
use Rattle.rmon.proofs.feed.Feed.pump.Given as goal

abbrev pub invariant-loop-event : goal.invariant-loop-event
invariant-loop-event g l = l.self ≡ record l.fn.self { fed = l.fn.self.fed ++ take l.event-index l.events }
