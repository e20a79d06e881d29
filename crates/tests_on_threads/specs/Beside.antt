-- A machine beside a feed, and a monitor of that feed.
use Rattle.std.specs.Prelude.{◌≡◌, Some}
use Rattle.rset.specs.declared.TheConstants.{RESOURCES}
use Rattle.rmodel.specs.State.{LockState}
use Rattle.rmodel.specs.Steps.{after}
use Rattle.rmon.specs.Known.{Feeding, Watching}
use Rattle.rmon.specs.Opened.{opening_of}
use Rattle.rmon.specs.declared.rule.Opening.{Opening}

-- the events that the feed took lead to this state
abbrev pub IsBeside : LockState → Feeding → Type 0
IsBeside s f = (s.groups.q ≡ RESOURCES) × ((o : Opening) → f.opening ≡ Some o → s ≡ after (opening_of o) f.fed)

-- the monitor looks at what this feed publishes, which began so
abbrev pub IsMonitorOf : Feeding → Watching → Type 0
IsMonitorOf f m = m.feed ≡ f.feed
