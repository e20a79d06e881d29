-- What is known of the events that a reader took, and of the `Telling`.
use Rattle.std.specs.Prelude.{◌≡◌, List, [], length, Option, Some, None, IfSome}
use Rattle.rcover_laws.specs.declared.wait_end.WaitEnd.{WaitEnd}
use Rattle.rtrace_read.specs.Follows.{Follows}
use Rattle.rtrace_read.specs.Past.{Past, begun}
use Rattle.rtrace_read.specs.Following.{Following}
use Rattle.rtrace_write.specs.Gathered.{KnowsGathered}
use Rattle.rtrace_read.specs.declared.reading.ReportReader.{ReportReader}
use Rattle.rtrace_replay.specs.Names.{names_read}
use Rattle.rtrace_replay.specs.declared.replaying.Telling.{Telling}

-- if there is a follower, it followed these events
abbrev pub AreFollowed : Option Following → Past → Type 0
AreFollowed following p = IfSome following (λ f. Follows f p)

-- the `Telling` has the names that were read, and was given these events and the waits that they ended; before it is made there are none
abbrev pub IsTold : Option Telling → ReportReader → Past → List WaitEnd → Type 0
IsTold None reading p ws = (p ≡ begun p.groups (length reading.tasks) p.cap) × (ws ≡ [])
IsTold (Some telling) reading p ws = (telling.names ≡ names_read reading) × KnowsGathered telling.gathered p ws
