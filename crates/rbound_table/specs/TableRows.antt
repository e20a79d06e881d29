-- The rows of a zone, from the tables.
use Rattle.std.specs.Prelude.{◌≡◌, ℕ, map}
use Rattle.std.specs.List.{range_with_len}
use Rattle.rset.specs.Sets.{Set}
use Rattle.rbound.specs.declared.rows.ZoneRows.{ZoneRows}
use Rattle.rbound_table.specs.Tables.{longest_in}
use Rattle.rbound_table.specs.declared.tables.Tables.{Tables}

-- for each task, the longest that the tables of places have at the places of the zone
pub record AreTableRows (tables : Tables) (tasks : ℕ) (zone : Set) (rows : ZoneRows) : Type 0 where
  pub writes : rows.writes.items ≡ map (λ t. longest_in tables.write_places.items t zone) (range_with_len 0 tasks)
  pub reads : rows.reads.items ≡ map (λ t. longest_in tables.read_places.items t zone) (range_with_len 0 tasks)
  pub upgrades : rows.upgrades.items ≡ map (λ t. longest_in tables.upgrade_places.items t zone) (range_with_len 0 tasks)
