-- What is kept of a history beside its text: what it needs, and what the bound of each wait that it ended is found by.
use Rattle.std.specs.Prelude.{List}
use Rattle.std.specs.List.{AllZip, AllByRecursion}
use Rattle.rcover_laws.specs.declared.wait_end.WaitEnd.{WaitEnd}
use Rattle.rmodel.specs.Steps.{AreAccepted}
use Rattle.rbound_history.specs.Keys.{IsLastEnded, HadKey}
use Rattle.rbound_history.specs.Knows.{Knows, AreBoundsOf}
use Rattle.rbound_history.specs.declared.bounds.WaitBounds.{WaitBounds}
use Rattle.rbound_history.specs.declared.key.BoundKey.{BoundKey}
use Rattle.rcover.specs.Past.{Past, start_of}
use Rattle.rtrace_write.specs.declared.gathered.Gathered.{Gathered}

-- the last of these events ended these waits
abbrev pub EndedLast : Past → List WaitEnd → Type 0
EndedLast p ws = AllByRecursion (IsLastEnded p.groups p.seats p.cap p.events) ws

-- a wait had this key after the event that ended it, which is one of these
abbrev pub HadKeyIn : Past → WaitEnd → BoundKey → Type 0
HadKeyIn p w key = HadKey p.groups p.seats p.cap p.events w key

-- it was given these events one after another, and these waits that they ended
pub record KnowsGathered (gathered : Gathered) (p : Past) (ws : List WaitEnd) : Type 0 where
  pub accepted : AreAccepted (start_of p) p.events
  pub needs : Knows gathered.needs p.seats p.events
  pub keys : AllZip (HadKeyIn p) ws gathered.keys.items

-- these are the bounds of a history of which it was given just these events and these waits that they ended
pub record AreBoundsIn (bounds : WaitBounds) (gathered : Gathered) (p : Past) (ws : List WaitEnd) : Type 0 where
  pub known : KnowsGathered gathered p ws
  pub are : AreBoundsOf bounds p.groups p.seats p.cap p.events
