-- A seat gives back what it has taken: what becomes of each home.
use Rattle.std.proofs.Common.{◌≡◌, ◌≢◌, ℕ, ◌+◌, ◌<◌, ◌≤◌, ◌==◌, Bool, true, false, cond, List, length, Some, refl, sym, ap, subst, ◌∙◌, arith}
use Rattle.std.specs.Prelude.{slice_get, slice_set}
use Rattle.std.specs.FinSet.{contains, is_subset}
use Rattle.std.proofs.lemmas.Bool.{eqb-true, eq-eqb, and_parts}
use Rattle.rset.proofs.SetLemmas.{within_at, contains_empty}
use Rattle.rmodel.specs.declared.granted.Granted.{Granted}
use Rattle.rmodel.specs.Holds.{nothing}
use Rattle.rmodel.proofs.ListFacts.{contrary, false_from, all_at, all_from}
use Rattle.rstate.specs.Homes.{readers, is_written, AreHome}
use Rattle.rstate.specs.Lent.{places, LentFields, IsLent}
use Rattle.rstate.specs.Moves.{after_changes, IsMissed, AreMissed, after_loans, HaveHomes, after_wholes}
use Rattle.rstate.specs.Shares.{ShareFields, whole, more}
use Rattle.rstate.proofs.homes.Counts.{home_by, home_whole, home_more, home_missed}
use Rattle.rstate.proofs.homes.Lists.{any_none, any_same, count_none, count_few, count_set, get_here, get_else, get_there, same_item}
use Rattle.rstate.proofs.homes.Moved.{changes_here, changes_else, changes_length, loans_change, missed_from, wholes_here, wholes_else, place_among, homes_for}
use Rattle.rstate.proofs.homes.Taking.{MayTake, same_count, read_unwritten}
use Rattle.std.proofs.lemmas.List.{length-set}

one_less : (a b c d : ℕ) → a + c ≡ b + d → c ≡ 1 → d ≡ 0 → b ≡ a + 1
one_less a b c d e f h = omega arith

module _ {V : Type 0} (seats n : ℕ) (g g2 : Granted) (taken : List Granted) (values : List V) (at later : ℕ → V → V) (homes : List (ShareFields V))
    (m : MayTake taken n g g2 (length values)) (long : length taken ≡ seats) (are : AreHome seats taken values at homes) (back : LentFields V) (lent : IsLent seats g values at later back)
    (kept : (l : ℕ) (v : V) → contains g.writes l ≡ false → later l v ≡ at l v) where
  abbrev now : List Granted
  now = slice_set taken n nothing

  abbrev between : List (ShareFields V)
  between = after_loans homes back.reads

  abbrev last : List (ShareFields V)
  last = after_wholes between back.writes

  to_reads : (l : ℕ) → contains g.reads l ≡ true → contains g2.reads l ≡ true
  to_reads l = within_at g.reads g2.reads (and_parts (is_subset g.reads g2.reads) (is_subset g.writes g2.writes) m.more).0 l

  to_writes : (l : ℕ) → contains g.writes l ≡ true → contains g2.writes l ≡ true
  to_writes l = within_at g.writes g2.writes (and_parts (is_subset g.reads g2.reads) (is_subset g.writes g2.writes) m.more).1 l

  -- what is read is not written
  one_way : (l : ℕ) → contains g.reads l ≡ true → contains g.writes l ≡ false
  one_way l reads = false_from (contains g.writes l) (λ writes. contrary (contains g2.reads l) (to_reads l reads) (m.one_way l (to_writes l writes)))

  -- one reader fewer
  fewer : (l : ℕ) → contains g.reads l ≡ true → readers taken l ≡ readers now l + 1
  fewer l reads = one_less (readers now l) (readers taken l) _ _ (count_set (λ h. contains h.reads l) taken n g nothing m.there)
      (ap {B = ℕ} (λ (b : Bool). cond {A = ℕ} b 1 0) reads) (ap {B = ℕ} (λ (b : Bool). cond {A = ℕ} b 1 0) (contains_empty l))

  few_now : (l : ℕ) → readers now l ≤ seats
  few_now l = subst (λ k. readers now l ≤ k) (length-set taken n nothing ∙ long) (count_few (λ h. contains h.reads l) now)

  home_read : (l : ℕ) (v : V) → contains g.reads l ≡ true → slice_get values l ≡ Some v → slice_get homes l ≡ Some (home_by seats false (readers now l + 1) (at l v))
  home_read l v reads listed = are l v listed
      ∙ (λ i. Some (home_by seats (read_unwritten seats n g g2 taken values at homes m long are l (to_reads l reads) i) (fewer l reads i) (at l v)))

  pub missed : AreMissed homes back.reads
  missed = missed_from homes back.reads lent.reads_once (all_from (IsMissed homes) back.reads (λ loan among.
      let reads : contains g.reads loan.0 ≡ true = sym (lent.reads_has loan.0) ∙ place_among loan back.reads among in
      let v = get_there values loan.0 (m.reads_below loan.0 (to_reads loan.0 reads)) in (
        home_by seats false (readers now loan.0 + 1) (at loan.0 v.0),
        home_read loan.0 v.0 reads v.1,
        home_missed seats (at loan.0 v.0) (readers now loan.0),
        all_at (λ (loan : ℕ × V). (v : V) → slice_get values loan.0 ≡ Some v → loan.1 ≡ at loan.0 v) back.reads loan lent.reads_are among v.0 v.1,
      )))

  pub between_length : length between ≡ length homes
  between_length = ap length (loans_change homes back.reads) ∙ changes_length more homes (places back.reads)

  pub there_are_homes : length homes ≡ length values → HaveHomes (length between) back.writes
  there_are_homes all = homes_for (length between) back.writes (λ w among.
      subst (λ k. w.0 < k) (sym (between_length ∙ all)) (m.writes_below w.0 (to_writes w.0 (sym (lent.writes_has w.0) ∙ place_among w back.writes among))))

  -- nobody has taken for writing or reading what was given back after being taken for writing
  each_other : (p : Granted → Bool) → p nothing ≡ false → ((k : ℕ) (h : Granted) → k ≢ n → slice_get taken k ≡ Some h → p h ≡ false) → (k : ℕ) (h : Granted) → slice_get now k ≡ Some h → p h ≡ false
  each_other p none others k h there = by_test (n == k) refl
    where
      by_test : (b : Bool) → (n == k) ≡ b → p h ≡ false
      by_test true same = ap p (same_item h nothing (sym there ∙ ap (slice_get now) (sym (eqb-true n k same)) ∙ get_here taken n g nothing m.there)) ∙ none
      by_test false differ = others k h (λ e. contrary (n == k) (eq-eqb n k (sym e)) differ) (sym (get_else taken n k nothing differ) ∙ there)

  pub homes_back : AreHome seats now values later last
  homes_back l v listed = by_writes (contains g.writes l) refl
    where
      by_loans : slice_get between l ≡ slice_get (after_changes more homes (places back.reads)) l
      by_loans = ap (λ hs. slice_get hs l) (loans_change homes back.reads)

      same_written : contains g.writes l ≡ false → is_written now l ≡ is_written taken l
      same_written unwritten = any_same (λ h. contains h.writes l) taken n g nothing m.there (unwritten ∙ sym (contains_empty l))

      by_reads : contains g.writes l ≡ false → (b : Bool) → contains g.reads l ≡ b → slice_get last l ≡ Some (home_by seats (is_written now l) (readers now l) (later l v))
      by_reads unwritten true reads =
          wholes_else between back.writes l (lent.writes_has l ∙ unwritten)
          ∙ by_loans
          ∙ changes_here more homes (places back.reads) l (home_by seats false (readers now l + 1) (at l v)) lent.reads_once (lent.reads_has l ∙ reads) (home_read l v reads listed)
          ∙ ap Some (home_more seats (at l v) (readers now l) (few_now l))
          ∙ sym (λ i. Some (home_by seats ((same_written unwritten ∙ read_unwritten seats n g g2 taken values at homes m long are l (to_reads l reads)) i) (readers now l) (kept l v unwritten i)))
      by_reads unwritten false unread =
          wholes_else between back.writes l (lent.writes_has l ∙ unwritten)
          ∙ by_loans
          ∙ changes_else more homes (places back.reads) l (lent.reads_has l ∙ unread)
          ∙ are l v listed
          ∙ sym (λ i. Some (home_by seats (same_written unwritten i)
          (same_count (readers now l) (readers taken l) _ _ (count_set (λ h. contains h.reads l) taken n g nothing m.there)
          (ap {B = ℕ} (λ (b : Bool). cond {A = ℕ} b 1 0) (unread ∙ sym (contains_empty l))) i) (kept l v unwritten i)))

      by_writes : (b : Bool) → contains g.writes l ≡ b → slice_get last l ≡ Some (home_by seats (is_written now l) (readers now l) (later l v))
      by_writes true writes =
          let unread : contains g.reads l ≡ false = false_from (contains g.reads l) (λ reads. contrary (contains g.writes l) writes (one_way l reads)) in
          wholes_here (whole (seats + 1) (later l v)) between back.writes l (home_by seats (is_written taken l) (readers taken l) (at l v)) lent.writes_once (lent.writes_has l ∙ writes)
          (by_loans ∙ changes_else more homes (places back.reads) l (lent.reads_has l ∙ unread) ∙ are l v listed)
          (all_from (λ (w : ℕ × ShareFields V). (w.0 == l) ≡ true → w.1 ≡ whole (seats + 1) (later l v)) back.writes (λ w among same.
          let e = eqb-true w.0 l same in
          all_at (λ (loan : ℕ × ShareFields V). (v : V) → slice_get values loan.0 ≡ Some v → loan.1 ≡ whole (seats + 1) (later loan.0 v)) back.writes w lent.writes_are among v (ap (slice_get values) e ∙ listed)
          ∙ ap (λ k. whole (seats + 1) (later k v)) e))
          ∙ ap Some (home_whole seats (later l v))
          ∙ sym (λ i. Some (home_by seats
          (any_none (λ h. contains h.writes l) now (each_other (λ h. contains h.writes l) (contains_empty l) (λ k h differ there. m.not_written k l h differ there (to_writes l writes))) i)
          (count_none (λ h. contains h.reads l) now (each_other (λ h. contains h.reads l) (contains_empty l) (λ k h differ there. m.not_read k l h differ there (to_writes l writes))) i) (later l v)))
      by_writes false unwritten = by_reads unwritten (contains g.reads l) refl
