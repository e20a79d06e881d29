-- A seat takes more of what it holds: what becomes of each home.
use Rattle.std.proofs.Common.{◌≡◌, ◌≢◌, ℕ, ◌+◌, ◌<◌, ◌≤◌, ◌==◌, ◌&&◌, not, Bool, true, false, List, length, Some, refl, sym, ap, subst, ◌∙◌, arith}
use Rattle.std.specs.Prelude.{slice_get}
use Rattle.std.specs.FinSet.{contains, difference, is_subset}
use Rattle.std.proofs.lemmas.Bool.{eqb-true, eq-eqb, and_parts}
use Rattle.rset.specs.Sets.{rising}
use Rattle.rset.proofs.SetLemmas.{rising_member, contains_difference, within_at}
use Rattle.rmodel.specs.declared.granted.Granted.{Granted}
use Rattle.rmodel.specs.Holds.{is_within}
use Rattle.rmodel.proofs.ListFacts.{contrary, false_from}
use Rattle.rstate.specs.Homes.{readers, is_written, AreHome}
use Rattle.rstate.specs.Lent.{has}
use Rattle.rstate.specs.Moves.{after_changes, HasShare, HaveShares}
use Rattle.rstate.specs.Shares.{ShareFields, less, absent}
use Rattle.rstate.proofs.homes.Counts.{home_by, home_some}
use Rattle.rstate.proofs.homes.Lists.{any_none, count_none, count_few, get_there, same_item}
use Rattle.rstate.proofs.homes.Moved.{once_rising, changes_else, have_from}

-- What a seat that has taken g may take: all of g2, which includes g. No other seat has taken for writing what g2 reads or writes, or for reading
-- what it writes; g2 reads nothing that it writes, and all of its resources exist
pub record MayTake (taken : List Granted) (n : ℕ) (g g2 : Granted) (many : ℕ) : Type 0 where
  pub there : slice_get taken n ≡ Some g
  pub more : is_within g g2 ≡ true
  pub one_way : (l : ℕ) → contains g2.writes l ≡ true → contains g2.reads l ≡ false
  pub unwritten : (m l : ℕ) (h : Granted) → m ≢ n → slice_get taken m ≡ Some h → contains g2.reads l ≡ true → contains h.writes l ≡ false
  pub not_written : (m l : ℕ) (h : Granted) → m ≢ n → slice_get taken m ≡ Some h → contains g2.writes l ≡ true → contains h.writes l ≡ false
  pub not_read : (m l : ℕ) (h : Granted) → m ≢ n → slice_get taken m ≡ Some h → contains g2.writes l ≡ true → contains h.reads l ≡ false
  pub reads_below : (l : ℕ) → contains g2.reads l ≡ true → l < many
  pub writes_below : (l : ℕ) → contains g2.writes l ≡ true → l < many

pub same_count : (a b c d : ℕ) → a + c ≡ b + d → c ≡ d → a ≡ b
same_count a b c d e f = omega arith

pub one_more : (a b c d : ℕ) → a + c ≡ b + d → c ≡ 0 → d ≡ 1 → a ≡ b + 1
one_more a b c d e f h = omega arith

pub and_true : (a b : Bool) → a ≡ true → b ≡ false → (a && not b) ≡ true
and_true a b p q = (λ i. p i && not (q i))

pub and_false : (a b : Bool) → a ≡ false → (a && b) ≡ false
and_false a b p = (λ i. p i && b)

pub and_not : (a b : Bool) → b ≡ true → (a && not b) ≡ false
and_not true b q = ap not q
and_not false b q = refl

module _ {V : Type 0} (seats n : ℕ) (g g2 : Granted) (taken : List Granted) (values : List V) (at : ℕ → V → V) (homes : List (ShareFields V))
    (m : MayTake taken n g g2 (length values)) (long : length taken ≡ seats) (are : AreHome seats taken values at homes) where
  abbrev new_reads : List ℕ
  new_reads = rising (difference g2.reads g.reads)

  abbrev new_writes : List ℕ
  new_writes = rising (difference g2.writes g.writes)

  abbrev between : List (ShareFields V)
  between = after_changes less homes new_reads

  pub reads_stay : (l : ℕ) → contains g2.reads l ≡ false → contains g.reads l ≡ false
  reads_stay l none = false_from (contains g.reads l) (λ h.
      contrary (contains g2.reads l) (within_at g.reads g2.reads (and_parts (is_subset g.reads g2.reads) (is_subset g.writes g2.writes) m.more).0 l h) none)

  pub writes_stay : (l : ℕ) → contains g2.writes l ≡ false → contains g.writes l ≡ false
  writes_stay l none = false_from (contains g.writes l) (λ h.
      contrary (contains g2.writes l) (within_at g.writes g2.writes (and_parts (is_subset g.reads g2.reads) (is_subset g.writes g2.writes) m.more).1 l h) none)

  each_of : (p : Granted → Bool) → p g ≡ false → ((k : ℕ) (h : Granted) → k ≢ n → slice_get taken k ≡ Some h → p h ≡ false) → (k : ℕ) (h : Granted) → slice_get taken k ≡ Some h → p h ≡ false
  each_of p own others k h there = by_test (k == n) refl
    where
      by_test : (b : Bool) → (k == n) ≡ b → p h ≡ false
      by_test true same = ap p (same_item h g (sym there ∙ ap (slice_get taken) (eqb-true k n same) ∙ m.there)) ∙ own
      by_test false differ = others k h (λ e. contrary (k == n) (eq-eqb k n e) differ) there

  pub read_unwritten : (l : ℕ) → contains g2.reads l ≡ true → is_written taken l ≡ false
  read_unwritten l reads =
      let unwritten : contains g2.writes l ≡ false = false_from (contains g2.writes l) (λ h. contrary (contains g2.reads l) reads (m.one_way l h)) in
      any_none (λ h. contains h.writes l) taken (each_of (λ h. contains h.writes l) (writes_stay l unwritten) (λ k h differ there. m.unwritten k l h differ there reads))

  pub write_unwritten : (l : ℕ) → contains g2.writes l ≡ true → contains g.writes l ≡ false → is_written taken l ≡ false
  write_unwritten l writes new = any_none (λ h. contains h.writes l) taken (each_of (λ h. contains h.writes l) new (λ k h differ there. m.not_written k l h differ there writes))

  pub write_unread : (l : ℕ) → contains g2.writes l ≡ true → readers taken l ≡ 0
  write_unread l writes =
      count_none (λ h. contains h.reads l) taken (each_of (λ h. contains h.reads l) (reads_stay l (m.one_way l writes)) (λ k h differ there. m.not_read k l h differ there writes))

  share_here : (l : ℕ) → is_written taken l ≡ false → l < length values → HasShare homes l
  share_here l unwritten below =
      let v = get_there values l below in
      let few : readers taken l ≤ seats = subst (λ k. readers taken l ≤ k) long (count_few (λ h. contains h.reads l) taken) in (
        home_by seats false (readers taken l) (at l v.0),
        are l v.0 v.1 ∙ (λ i. Some (home_by seats (unwritten i) (readers taken l) (at l v.0))),
        home_some seats (at l v.0) (readers taken l) few,
      )

  pub of_new_reads : (l : ℕ) → has l new_reads ≡ true → (contains g2.reads l ≡ true) × (not (contains g.reads l) ≡ true)
  of_new_reads l here = and_parts (contains g2.reads l) (not (contains g.reads l)) (sym (contains_difference g2.reads g.reads l) ∙ rising_member (difference g2.reads g.reads) l here)

  pub of_new_writes : (l : ℕ) → has l new_writes ≡ true → (contains g2.writes l ≡ true) × (contains g.writes l ≡ false)
  of_new_writes l here =
      let parts = and_parts (contains g2.writes l) (not (contains g.writes l)) (sym (contains_difference g2.writes g.writes l) ∙ rising_member (difference g2.writes g.writes) l here) in
      (parts.0, untrue (contains g.writes l) parts.1)
    where
      untrue : (b : Bool) → not b ≡ true → b ≡ false
      untrue true h = sym h
      untrue false h = refl

  pub have_reads : HaveShares less homes new_reads
  have_reads = have_from less homes new_reads (once_rising (difference g2.reads g.reads)) (λ l here.
      let reads = (of_new_reads l here).0 in
      share_here l (read_unwritten l reads) (m.reads_below l reads))

  -- what is taken for writing is still there after the others were taken
  pub write_stays : (l : ℕ) → contains g2.writes l ≡ true → slice_get between l ≡ slice_get homes l
  write_stays l writes = changes_else less homes new_reads l (false_from (has l new_reads) (λ here. contrary (contains g2.reads l) (of_new_reads l here).0 (m.one_way l writes)))

  pub have_writes : HaveShares absent between new_writes
  have_writes = have_from absent between new_writes (once_rising (difference g2.writes g.writes)) (λ l here.
      let new = of_new_writes l here in
      let share = share_here l (write_unwritten l new.0 new.1) (m.writes_below l new.0) in
      (share.0, write_stays l new.0 ∙ share.1, share.2))
