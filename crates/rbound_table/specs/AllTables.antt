-- The tables of all needed claims.
use Rattle.std.specs.Prelude.{ℕ, List}
use Rattle.rbound.specs.Needs.{Needed}
use Rattle.rbound_table.specs.Tables.{key_of, IsTable}
use Rattle.rbound_table.specs.declared.table.Key.TheVariants.{Reads, Writes, Halves, ReadPlaces, WritePlaces, UpgradePlaces}
use Rattle.rbound_table.specs.declared.tables.Tables.{Tables}

-- each table is that of its key
pub record AreTables (ns : List Needed) (tasks : ℕ) (t : Tables) : Type 0 where
  pub reads : IsTable (key_of Reads) ns tasks t.reads.items
  pub writes : IsTable (key_of Writes) ns tasks t.writes.items
  pub halves : IsTable (key_of Halves) ns tasks t.halves.items
  pub read_places : IsTable (key_of ReadPlaces) ns tasks t.read_places.items
  pub write_places : IsTable (key_of WritePlaces) ns tasks t.write_places.items
  pub upgrade_places : IsTable (key_of UpgradePlaces) ns tasks t.upgrade_places.items
