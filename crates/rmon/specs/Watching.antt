-- How the fields of a monitor give what contracts see of it.
use Rattle.std.specs.Prelude.{◌≡◌, Some}
use Rattle.left_right.specs.Sides.{view}
use Rattle.rmon.specs.declared.monitor.Monitor.TheInside.{Inside}
use Rattle.rmon.specs.declared.rule.Told.{Told}
use Rattle.rmon.specs.Rules.{opening_told}
use Rattle.rmon.specs.Known.{Watching}

abbrev pub watching_of : Inside → Watching
watching_of a = record { feed = a.front.feed; opening = opening_told (view a.reader.place); seen = a.front.events }

-- its reader knows the opening of its feed
pub record IsWatching (a : Inside) : Type 0 where
  pub told : Told
  pub knows : view a.reader.place ≡ Some told
  pub its_feed : told.front.feed ≡ a.front.feed
