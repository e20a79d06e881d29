-- How the fields of a feed give what contracts see of it.
use Rattle.std.specs.Prelude.{◌≡◌, List, ◌++◌, map, drop, Some}
use Rattle.left_right.specs.Sides.{view}
use Rattle.rclaim.specs.declared.event.Event.{Event}
use Rattle.rmodel.specs.Steps.{AreAccepted}
use Rattle.rmon.specs.declared.feed.Feed.TheInside.{Inside}
use Rattle.rmon.specs.declared.image.Image.{Image}
use Rattle.rmon.specs.declared.image.Change.TheVariants.{Take}
use Rattle.rmon.specs.declared.rule.Told.{Told}
use Rattle.rmon.specs.Completed.{completed_by}
use Rattle.rmon.specs.Fronts.{head_of}
use Rattle.rmon.specs.Opened.{opening_of}
use Rattle.rmon.specs.Rules.{opening_told, IsAfter}
use Rattle.rmon.specs.Known.{Feeding}

-- what is published
abbrev pub shown_by : Inside → Image
shown_by a = a.writer.desk.shown.value

abbrev pub feeding_of : Inside → Feeding
feeding_of a = record { feed = a.front.feed; opening = opening_told (view a.writer.desk.place); published = (shown_by a).front.events; fed = a.front.events }

pub record IsFeeding (a : Inside) : Type 0 where
  -- it knows its opening and its feed
  pub told : Told
  pub knows : view a.writer.desk.place ≡ Some told
  pub its_feed : told.front.feed ≡ a.front.feed
  -- its word counts the events of this feed
  pub counts : a.head ≡ head_of a.front.feed
  -- what is published is what the published events lead to, and what is pending are the others
  pub same_feed : (shown_by a).front.feed ≡ a.front.feed
  pub image : IsAfter told.opening (shown_by a)
  pub more : List Event
  pub pending : drop a.writer.behind a.writer.log.items ≡ map Take more
  pub fed : a.front.events ≡ (shown_by a).front.events ++ more
  pub accepted : AreAccepted (opening_of told.opening) a.front.events
  -- it knows how many requests these events complete
  pub completed : a.completed ≡ completed_by a.front.events
