-- What an image does with a change.
use Rattle.std.specs.Prelude.{◌&&◌, if◌then◌else◌}
use Rattle.rclaim.specs.declared.event.Event.{Event}
use Rattle.rmodel.specs.Changes.{changes_between}
use Rattle.rmodel.specs.Steps.{next}
use Rattle.rplain.specs.Machine.{Standing}
use Rattle.rmon.specs.Fitting.{fits, is_accepted}
use Rattle.rmon.specs.declared.image.Image.{Image}
use Rattle.rmon.specs.declared.image.Change.{Change}
use Rattle.rmon.specs.declared.image.Change.TheVariants.{Take, Reach}

-- a machine takes an event if it may come
abbrev pub stepped : Standing → Event → Standing
stepped m e = if fits m.state e && is_accepted m.state e then record { state = next m.state e; last = changes_between m.state (next m.state e) } else m

-- an image with a change
abbrev pub absorbed : Image → Change → Image
absorbed x (Take e) = record x { machine = stepped x.machine e }
absorbed x (Reach front) = record x { front = front }
