-- Homes after a seat has taken more of what it holds.
use Rattle.std.proofs.Common.{◌≡◌, ℕ, ◌+◌, ◌&&◌, not, Bool, true, false, cond, List, length, Some, refl, sym, ap, ◌∙◌}
use Rattle.std.specs.Prelude.{slice_get, slice_set}
use Rattle.std.specs.FinSet.{contains, difference}
use Rattle.std.specs.List.{count_by}
use Rattle.rset.specs.Sets.{rising, all_below}
use Rattle.rset.specs.declared.TheConstants.{RESOURCES}
use Rattle.rset.proofs.SetLemmas.{rising_has, contains_difference}
use Rattle.rmodel.specs.declared.granted.Granted.{Granted}
use Rattle.rstate.specs.Homes.{readers, is_written, AreHome}
use Rattle.rstate.specs.Lent.{has}
use Rattle.rstate.specs.Moves.{after_changes}
use Rattle.rstate.specs.Shares.{ShareFields, less, absent}
use Rattle.rstate.proofs.homes.Counts.{home_by, home_less}
use Rattle.rstate.proofs.homes.Lists.{any_here, any_same, count_set, get_here}
use Rattle.rstate.proofs.homes.Moved.{once_rising, changes_here, changes_else}
use Rattle.rstate.proofs.homes.Taking.{MayTake, same_count, one_more, and_true, and_false, and_not, reads_stay, writes_stay, read_unwritten, write_stays}

module _ {V : Type 0} (seats n : ℕ) (g g2 : Granted) (taken : List Granted) (values : List V) (at : ℕ → V → V) (homes : List (ShareFields V))
    (m : MayTake taken n g g2 (length values)) (long : length taken ≡ seats) (are : AreHome seats taken values at homes)
    (known_reads : all_below RESOURCES (difference g2.reads g.reads) ≡ true) (known_writes : all_below RESOURCES (difference g2.writes g.writes) ≡ true) where
  abbrev new_reads : List ℕ
  new_reads = rising (difference g2.reads g.reads)

  abbrev new_writes : List ℕ
  new_writes = rising (difference g2.writes g.writes)

  abbrev between : List (ShareFields V)
  between = after_changes less homes new_reads

  abbrev now : List Granted
  now = slice_set taken n g2

  pub reads_has : (l : ℕ) → has l new_reads ≡ (contains g2.reads l && not (contains g.reads l))
  reads_has l = rising_has (difference g2.reads g.reads) known_reads l ∙ contains_difference g2.reads g.reads l

  pub writes_has : (l : ℕ) → has l new_writes ≡ (contains g2.writes l && not (contains g.writes l))
  writes_has l = rising_has (difference g2.writes g.writes) known_writes l ∙ contains_difference g2.writes g.writes l

  -- each home, after the seat has taken more
  pub homes_after : AreHome seats now values at (after_changes absent between new_writes)
  homes_after l v listed = by_writes (contains g2.writes l) refl
    where
      x : V
      x = at l v

      after_homes : List (ShareFields V)
      after_homes = after_changes absent between new_writes

      written_now : contains g2.writes l ≡ true → is_written now l ≡ true
      written_now writes = any_here (λ h. contains h.writes l) now n g2 (get_here taken n g g2 m.there) writes

      not_moved : has l new_reads ≡ false → has l new_writes ≡ false → slice_get after_homes l ≡ Some (home_by seats (is_written taken l) (readers taken l) x)
      not_moved no_read no_write = changes_else absent between new_writes l no_write ∙ changes_else less homes new_reads l no_read ∙ are l v listed

      readers_by : count_by (λ h. contains h.reads l) now + cond {A = ℕ} (contains g.reads l) 1 0 ≡ count_by (λ h. contains h.reads l) taken + cond {A = ℕ} (contains g2.reads l) 1 0
      readers_by = count_set (λ h. contains h.reads l) taken n g g2 m.there

      by_written : contains g2.writes l ≡ true → (b : Bool) → contains g.writes l ≡ b → slice_get after_homes l ≡ Some (home_by seats (is_written now l) (readers now l) x)
      by_written writes true had =
          not_moved (reads_has l ∙ and_false (contains g2.reads l) (not (contains g.reads l)) (m.one_way l writes)) (writes_has l ∙ and_not (contains g2.writes l) (contains g.writes l) had)
          ∙ (λ i. Some (home_by seats (any_here (λ h. contains h.writes l) taken n g m.there had i) (readers taken l) x))
          ∙ sym (λ i. Some (home_by seats (written_now writes i) (readers now l) x))
      by_written writes false new =
          changes_here absent between new_writes l (home_by seats (is_written taken l) (readers taken l) x) (once_rising (difference g2.writes g.writes))
          (writes_has l ∙ and_true (contains g2.writes l) (contains g.writes l) writes new) (write_stays seats n g g2 taken values at homes m long are l writes ∙ are l v listed)
          ∙ sym (λ i. Some (home_by seats (written_now writes i) (readers now l) x))

      same_written : contains g2.writes l ≡ false → is_written now l ≡ is_written taken l
      same_written unwritten = any_same (λ h. contains h.writes l) taken n g g2 m.there (writes_stay seats n g g2 taken values at homes m long are l unwritten ∙ sym unwritten)

      as_before : contains g2.writes l ≡ false → has l new_reads ≡ false → readers now l ≡ readers taken l → slice_get after_homes l ≡ Some (home_by seats (is_written now l) (readers now l) x)
      as_before unwritten no_read as_many =
          not_moved no_read (writes_has l ∙ and_false (contains g2.writes l) (not (contains g.writes l)) unwritten)
          ∙ sym (λ i. Some (home_by seats (same_written unwritten i) (as_many i) x))

      by_had : contains g2.writes l ≡ false → contains g2.reads l ≡ true → (b : Bool) → contains g.reads l ≡ b → slice_get after_homes l ≡ Some (home_by seats (is_written now l) (readers now l) x)
      by_had unwritten reads true had =
          as_before unwritten (reads_has l ∙ and_not (contains g2.reads l) (contains g.reads l) had)
          (same_count (readers now l) (readers taken l) _ _ readers_by (ap {B = ℕ} (λ (b : Bool). cond {A = ℕ} b 1 0) (had ∙ sym reads)))
      by_had unwritten reads false new =
          changes_else absent between new_writes l (writes_has l ∙ and_false (contains g2.writes l) (not (contains g.writes l)) unwritten)
          ∙ changes_here less homes new_reads l (home_by seats (is_written taken l) (readers taken l) x) (once_rising (difference g2.reads g.reads))
          (reads_has l ∙ and_true (contains g2.reads l) (contains g.reads l) reads new) (are l v listed)
          ∙ (λ i. Some (less (home_by seats (read_unwritten seats n g g2 taken values at homes m long are l reads i) (readers taken l) x)))
          ∙ ap Some (home_less seats x (readers taken l))
          ∙ sym (λ i. Some (home_by seats ((same_written unwritten ∙ read_unwritten seats n g g2 taken values at homes m long are l reads) i)
          (one_more (readers now l) (readers taken l) _ _ readers_by (ap {B = ℕ} (λ (b : Bool). cond {A = ℕ} b 1 0) new) (ap {B = ℕ} (λ (b : Bool). cond {A = ℕ} b 1 0) reads) i) x))

      by_reads : contains g2.writes l ≡ false → (b : Bool) → contains g2.reads l ≡ b → slice_get after_homes l ≡ Some (home_by seats (is_written now l) (readers now l) x)
      by_reads unwritten true reads = by_had unwritten reads (contains g.reads l) refl
      by_reads unwritten false unread =
          as_before unwritten (reads_has l ∙ and_false (contains g2.reads l) (not (contains g.reads l)) unread)
          (same_count (readers now l) (readers taken l) _ _ readers_by (ap {B = ℕ} (λ (b : Bool). cond {A = ℕ} b 1 0) (reads_stay seats n g g2 taken values at homes m long are l unread ∙ sym unread)))

      by_writes : (b : Bool) → contains g2.writes l ≡ b → slice_get after_homes l ≡ Some (home_by seats (is_written now l) (readers now l) x)
      by_writes true writes = by_written writes (contains g.writes l) refl
      by_writes false unwritten = by_reads unwritten (contains g2.reads l) refl
