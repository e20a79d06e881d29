use Rattle.std.proofs.Common.{◌≡◌, ◌-◌}
use Rattle.rtrace.proofs.Gaining.{IsFeeding}
use Rattle.rtrace.proofs.feed.feed.Given as goal

abbrev pub invariant-loop-window : goal.invariant-loop-window
invariant-loop-window g l =
    IsFeeding g.T.Records.code g.T.Records.knows (g.S.Source.left l.fn.source) (g.S.Source.left l.source) l.fn.window l.window l.taker l.line
    × (g.S.Source.faults l.source ≡ g.S.Source.faults l.fn.source)

abbrev pub decreases-loop-window : goal.decreases-loop-window
decreases-loop-window g l = l.fn.window.limit - l.window.taken
