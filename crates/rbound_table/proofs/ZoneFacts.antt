-- The rows of a zone from the tables are those from the claims.
use Rattle.std.proofs.Common.{◌≡◌, ◌+◌, ◌&&◌, ◌==◌, not, ℕ, Bool, true, false, cond, List, [], ◌∷◌, ◌++◌, map, sym, ap, ◌∙◌, arith}
use Rattle.std.specs.List.{range_with_len}
use Rattle.std.specs.FinSet.{empty}
use Rattle.std.proofs.lemmas.List.{map-append}
use Rattle.std.proofs.lemmas.List.FromFn.{map-range_with_len_more}
use Rattle.rset.specs.Sets.{Set, meets, all_below}
use Rattle.rset.specs.declared.TheConstants.{RESOURCES}
use Rattle.rset.proofs.SetLemmas.{same_test, meets_from, meets_empty_left, within_at}
use Rattle.rmodel.specs.Claims.{is_upgrade}
use Rattle.rmodel.specs.WellFormed.{Among}
use Rattle.rbound.specs.Needs.{Needed}
use Rattle.rbound.specs.Zones.{is_there, IsClosed}
use Rattle.rbound.specs.Bounds.{Numbers, numbers_in}
use Rattle.rbound.specs.Longest.{longest}
use Rattle.rbound.specs.Sound.{AreSound}
use Rattle.rbound.specs.ZoneRows.{AreRows}
use Rattle.rbound.specs.declared.bound.Bound.{Bound}
use Rattle.rbound.specs.declared.rows.ZoneRows.{ZoneRows}
use Rattle.rbound.proofs.LongestClaims.{longest_same}
use Rattle.rbound.proofs.BesideFacts.{in_range, map_same}
use Rattle.rbound_table.specs.Tables.{key_of, longest_in, IsTable}
use Rattle.rbound_table.specs.AllTables.{AreTables}
use Rattle.rbound_table.specs.TableRows.{AreTableRows}
use Rattle.rbound_table.specs.declared.table.Cell.{Cell}
use Rattle.rbound_table.specs.declared.table.Key.TheVariants.{ReadPlaces, WritePlaces, UpgradePlaces}
use Rattle.rbound_table.specs.declared.tables.Tables.{Tables}
use Rattle.rbound_table.proofs.QueryFacts.{in_table}

pub bounds_more : (f : ℕ → Numbers) (old new : List Bound) (n : ℕ) (b : Bound) → map numbers_in old ≡ map f (range_with_len 0 n) → new ≡ old ++ b ∷ [] → numbers_in b ≡ f n → map numbers_in new ≡ map f (range_with_len 0 (n + 1))
bounds_more f old new n b were is of = ap (map numbers_in) is ∙ map-append numbers_in old (b ∷ []) ∙ (λ i. were i ++ of i ∷ []) ∙ sym (map-range_with_len_more f 0 n n (omega arith))

module _ (ns : List Needed) (tasks : ℕ) (are : AreSound ns tasks) (tables : Tables) (ts : AreTables ns tasks tables) (zone : Set) (closed : IsClosed ns zone) (below : all_below RESOURCES zone ≡ true) (rows : ZoneRows) (rs : AreTableRows tables tasks zone rows) where
  there_is : (n : Needed) → Among n ns → meets n.claim.places zone ≡ is_there zone n
  there_is n there = same_test _ _ (closed n there) (λ h. let p = are.place n there in meets_from n.claim.places zone p.0 p.1 (within_at n.claim.places zone h p.0 p.1))

  key_there : (b : Bool) (n : Needed) → Among n ns → meets (cond b n.claim.places empty) zone ≡ (b && is_there zone n)
  key_there true n there = there_is n there
  key_there false n there = meets_empty_left zone

  key_not_there : (b : Bool) (n : Needed) → Among n ns → meets (cond b empty n.claim.places) zone ≡ (not b && is_there zone n)
  key_not_there true n there = meets_empty_left zone
  key_not_there false n there = there_is n there

  row_is : (key : Needed → Set) (cells : List Cell) (q : Needed → Bool) → IsTable key ns tasks cells → ((n : Needed) → Among n ns → meets (key n) zone ≡ q n)
      → map (λ t. longest_in cells t zone) (range_with_len 0 tasks) ≡ map (λ t. longest (λ n. (n.claim.seat == t) && q n) ns) (range_with_len 0 tasks)
  row_is key cells q is same =
      map_same (λ t. longest_in cells t zone) (λ t. longest (λ n. (n.claim.seat == t) && q n) ns) (range_with_len 0 tasks)
      (λ t there.
      in_table ns tasks key cells t zone is (in_range tasks t there) below
      ∙ longest_same (λ n. (n.claim.seat == t) && meets (key n) zone) (λ n. (n.claim.seat == t) && q n) ns (λ n among. ap (λ b. (n.claim.seat == t) && b) (same n among)))

  -- *The rows of a closed zone*
  pub rows_are : AreRows ns tasks zone rows
  rows_are = record {
    writes = rs.writes ∙ row_is (key_of WritePlaces) tables.write_places.items (λ n. n.claim.write_half && is_there zone n) ts.write_places (λ n there. key_there n.claim.write_half n there);
    reads = rs.reads ∙ row_is (key_of ReadPlaces) tables.read_places.items (λ n. not n.claim.write_half && is_there zone n) ts.read_places (λ n there. key_not_there n.claim.write_half n there);
    upgrades = rs.upgrades ∙ row_is (key_of UpgradePlaces) tables.upgrade_places.items (λ n. is_upgrade n.claim.kind && is_there zone n) ts.upgrade_places (λ n there. key_there (is_upgrade n.claim.kind) n there);
  }
