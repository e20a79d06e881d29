-- The tables that answer all bounds, made once from the needed claims.
use Rattle.std.specs.Prelude.{◌≡◌, ◌≢◌, ℕ, List, [], map, length, slice_get, slice_index_or, Option, Some, None, IsTrue, if◌then◌else◌}
use Rattle.std.specs.List.{range_with_len}
use Rattle.std.specs.FinSet.{empty, intersection}
use Rattle.std.specs.declared.vec.Vec.{Vec}
use Rattle.std.specs.declared.alloc.Global.{Global}
use Rattle.rset.specs.Sets.{Set, rising, all_below}
use Rattle.rset.specs.declared.TheConstants.{RESOURCES}
use Rattle.rclaim.specs.declared.claim.Claim.{Claim}
use Rattle.rbound.specs.Needs.{Needed}
use Rattle.rbound.specs.Bounds.{Numbers, numbers_in, no_wait}
use Rattle.rbound.specs.Longest.{one_of_each}
use Rattle.rbound.specs.Sound.{AreSound}
use Rattle.rbound.specs.ZoneRows.{numbers_of}
use Rattle.rbound.specs.declared.bound.Bound.{Bound}
use Rattle.rbound.specs.declared.rows.ZoneRows.{ZoneRows}
use Rattle.rbound_table.specs.PlaceZones.{zone_at}
use Rattle.rbound_table.specs.TableRows.{AreTableRows}
use Rattle.rbound_table.specs.AllTables.{AreTables}
use Rattle.rbound_table.specs.Lengths.{rows_in, longest_over}
use Rattle.rbound_table.specs.OtherLengths.{AreOtherLengths}
use Rattle.rbound_table.specs.declared.tables.Tables.{Tables}
use Rattle.rbound_table.specs.declared.answers.Answers.{Answers}

-- ---- what is kept

-- these are the bounds of the write waits of all tasks in a zone
pub record AreZoneBounds (tables : Tables) (tasks cap : ℕ) (zone : Set) (bounds : List Bound) : Type 0 where
  pub rows : ZoneRows
  pub are : AreTableRows tables tasks zone rows
  pub below : IsTrue (all_below RESOURCES zone)
  pub numbers : map numbers_in bounds ≡ map (numbers_of rows tasks cap) (range_with_len 0 tasks)

-- they are at the least place of the zone, and there are none at another place
pub record StandsAt (tables : Tables) (tasks cap : ℕ) (zone : Set) (l : ℕ) (bounds : List Bound) : Type 0 where
  pub below : IsTrue (all_below RESOURCES zone)
  pub least : slice_get (rising zone) 0 ≡ Some l → AreZoneBounds tables tasks cap zone bounds
  pub else_none : slice_get (rising zone) 0 ≢ Some l → bounds ≡ []

-- the bounds of the write waits in all of these zones, each at its place
pub record AreWriteBounds (tables : Tables) (tasks cap : ℕ) (zones : List Set) (writes : List (Vec Bound Global)) : Type 0 where
  pub long : length writes ≡ RESOURCES
  pub each : (l : ℕ) (bounds : Vec Bound Global) → slice_get writes l ≡ Some bounds → StandsAt tables tasks cap (slice_index_or zones l empty) l bounds.items

-- all of it, for these claims of this many tasks
pub record AreAnswers (ns : List Needed) (tasks : ℕ) (a : Answers) : Type 0 where
  pub sound : AreSound ns tasks
  pub tables : Tables
  pub are : AreTables ns tasks tables
  pub lengths : AreOtherLengths tables tasks a.lengths
  pub zones : a.zones.items ≡ map (zone_at ns) (range_with_len 0 RESOURCES)
  pub writes : AreWriteBounds tables tasks a.cap a.zones.items a.writes.items

-- ---- what is answered

-- the bound of a task in the zone whose least place this is
abbrev pub bound_at : Option (Vec Bound Global) → ℕ → Numbers
bound_at None t = no_wait
bound_at (Some bounds) t = slice_index_or (map numbers_in bounds.items) t no_wait

abbrev pub bound_in_zone : List (Vec Bound Global) → ℕ → Option ℕ → Numbers
bound_in_zone writes t None = no_wait
bound_in_zone writes t (Some l) = bound_at (slice_get writes l) t

-- the bound of a task in the zone of this place
abbrev pub bound_by_place : List Set → List (Vec Bound Global) → ℕ → Option ℕ → Numbers
bound_by_place zones writes t None = no_wait
bound_by_place zones writes t (Some l) = bound_in_zone writes t (slice_get (rising (slice_index_or zones l empty)) 0)

-- the bound of the wait of a write claim of a task with these places
abbrev pub write_answer : Answers → ℕ → Set → Numbers
write_answer a t places = bound_by_place a.zones.items a.writes.items t (slice_get (rising places) 0)

-- the bound of the wait of a read claim
abbrev pub read_answer : Answers → Claim → Numbers
read_answer a r = one_of_each (longest_over (rows_in a.lengths.keeps.items) r.seat r.reads) (longest_over (rows_in a.lengths.delays.items) r.seat r.reads)

-- the bound of an ask
abbrev pub ask_answer : Answers → Claim → Set → Numbers
ask_answer a c part = one_of_each None (longest_over (rows_in a.lengths.bars.items) c.seat (intersection part c.writes))

-- the bound of the first wait of a claim
abbrev pub first_answer : Answers → Claim → Numbers
first_answer a c = if c.write_half then write_answer a c.seat c.places else read_answer a c

-- the bound of the wait of an upgrade that rises, where there is a write claim
abbrev pub rise_answer : Answers → Option Needed → Numbers
rise_answer a None = no_wait
rise_answer a (Some n) = write_answer a n.claim.seat n.claim.places

-- the bound of an ask, where there is a write claim
abbrev pub asked_answer : Answers → Set → Option Needed → Numbers
asked_answer a part None = no_wait
asked_answer a part (Some n) = ask_answer a n.claim part
