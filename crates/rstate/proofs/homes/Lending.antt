-- What is lent to a seat after it has taken more.
use Rattle.std.proofs.Common.{◌≡◌, ℕ, ◌+◌, ◌==◌, ◌&&◌, ◌||◌, not, Bool, true, false, List, [], ◌∷◌, ◌++◌, length, Some, refl, sym, ap, subst, ◌∙◌}
use Rattle.std.specs.Prelude.{slice_get}
use Rattle.std.specs.FinSet.{contains, difference, is_subset}
use Rattle.std.specs.List.{AllByRecursion}
use Rattle.std.proofs.lemmas.Bool.{eq-eqb, and_parts, or_parts, or_from}
use Rattle.std.proofs.lemmas.List.{map-append}
use Rattle.rset.specs.Sets.{rising, all_below}
use Rattle.rset.specs.declared.TheConstants.{RESOURCES}
use Rattle.rset.proofs.SetLemmas.{within_at}
use Rattle.rmodel.specs.declared.granted.Granted.{Granted}
use Rattle.rmodel.proofs.ListFacts.{contrary, false_from, all_append}
use Rattle.rstate.specs.Homes.{readers, is_written, AreHome}
use Rattle.rstate.specs.Lent.{has, Once, places, LentFields, IsLent}
use Rattle.rstate.specs.Moves.{after_changes, HaveShares, loans_from, wholes_from}
use Rattle.rstate.specs.Shares.{ShareFields, whole, less, absent}
use Rattle.rstate.proofs.homes.Counts.{home_by, home_whole}
use Rattle.rstate.proofs.homes.Lists.{same_item}
use Rattle.rstate.proofs.homes.Moved.{once_rising, loans_places, wholes_places, loans_are, wholes_are}
use Rattle.rstate.proofs.homes.Taken.{reads_has, writes_has}
use Rattle.rstate.proofs.homes.Taking.{MayTake, have_reads, have_writes, of_new_reads, of_new_writes, write_unwritten, write_unread, write_stays}

pub has_append : (l : ℕ) (xs ys : List ℕ) → has l (xs ++ ys) ≡ (has l xs || has l ys)
has_append l [] ys = refl
has_append l (x ∷ xs) ys = ap (λ b. (x == l) || b) (has_append l xs ys) ∙ regroup (x == l) (has l xs) (has l ys)
  where
    regroup : (a b c : Bool) → (a || (b || c)) ≡ ((a || b) || c)
    regroup true b c = refl
    regroup false b c = refl

pub once_append : (xs ys : List ℕ) → Once xs → Once ys → ((l : ℕ) → has l ys ≡ true → has l xs ≡ false) → Once (xs ++ ys)
once_append [] ys once_xs once_ys apart = once_ys
once_append (x ∷ xs) ys once_xs once_ys apart = (
  has_append x xs ys ∙ or_from (has x xs) (has x ys) once_xs.0 (false_from (has x ys) (λ h. contrary (x == x) (eq-eqb x x refl) (or_parts (x == x) (has x xs) (apart x h)).0)),
  once_append xs ys once_xs.1 once_ys (λ l h. (or_parts (x == l) (has l xs) (apart l h)).1),
)

-- what was there and what is new are all
all_of_two : (old all : Bool) → (old ≡ true → all ≡ true) → (old || (all && not old)) ≡ all
all_of_two true all within = sym (within refl)
all_of_two false true within = refl
all_of_two false false within = refl

module _ {V : Type 0} (seats n : ℕ) (g g2 : Granted) (taken : List Granted) (values : List V) (at : ℕ → V → V) (homes : List (ShareFields V))
    (m : MayTake taken n g g2 (length values)) (long : length taken ≡ seats) (are : AreHome seats taken values at homes)
    (known_reads : all_below RESOURCES (difference g2.reads g.reads) ≡ true) (known_writes : all_below RESOURCES (difference g2.writes g.writes) ≡ true)
    (lent lent2 : LentFields V) (old : IsLent seats g values at at lent)
    (reads_are : lent2.reads ≡ lent.reads ++ loans_from homes (rising (difference g2.reads g.reads)))
    (writes_are : lent2.writes ≡ lent.writes ++ wholes_from (after_changes less homes (rising (difference g2.reads g.reads))) (rising (difference g2.writes g.writes))) where
  abbrev new_reads : List ℕ
  new_reads = rising (difference g2.reads g.reads)

  abbrev new_writes : List ℕ
  new_writes = rising (difference g2.writes g.writes)

  abbrev between : List (ShareFields V)
  between = after_changes less homes new_reads

  have_r : HaveShares less homes new_reads
  have_r = have_reads seats n g g2 taken values at homes m long are

  have_w : HaveShares absent between new_writes
  have_w = have_writes seats n g g2 taken values at homes m long are

  read_places : places lent2.reads ≡ places lent.reads ++ new_reads
  read_places = ap places reads_are ∙ map-append (λ (loan : ℕ × V). loan.0) lent.reads (loans_from homes new_reads) ∙ ap (λ ks. places lent.reads ++ ks) (loans_places homes new_reads have_r)

  write_places : places lent2.writes ≡ places lent.writes ++ new_writes
  write_places = ap places writes_are ∙ map-append (λ (loan : ℕ × ShareFields V). loan.0) lent.writes (wholes_from between new_writes) ∙ ap (λ ks. places lent.writes ++ ks) (wholes_places between new_writes have_w)

  within : (is_subset g.reads g2.reads ≡ true) × (is_subset g.writes g2.writes ≡ true)
  within = and_parts (is_subset g.reads g2.reads) (is_subset g.writes g2.writes) m.more

  has_r : (l : ℕ) → has l new_reads ≡ (contains g2.reads l && not (contains g.reads l))
  has_r = reads_has seats n g g2 taken values at homes m long are known_reads known_writes

  has_w : (l : ℕ) → has l new_writes ≡ (contains g2.writes l && not (contains g.writes l))
  has_w = writes_has seats n g g2 taken values at homes m long are known_reads known_writes

  untrue : (b : Bool) → not b ≡ true → b ≡ false
  untrue true h = sym h
  untrue false h = refl

  pub lent_more : IsLent seats g2 values at at lent2
  lent_more = record {
    reads_once = subst Once (sym read_places) (once_append (places lent.reads) new_reads old.reads_once (once_rising (difference g2.reads g.reads))
        (λ l h. old.reads_has l ∙ untrue (contains g.reads l) (of_new_reads seats n g g2 taken values at homes m long are l h).1));
    reads_has = λ l. ap (has l) read_places ∙ has_append l (places lent.reads) new_reads ∙ (λ i. old.reads_has l i || has_r l i)
        ∙ all_of_two (contains g.reads l) (contains g2.reads l) (within_at g.reads g2.reads within.0 l);
    reads_are = subst (AllByRecursion (λ (loan : ℕ × V). (v : V) → slice_get values loan.0 ≡ Some v → loan.1 ≡ at loan.0 v)) (sym reads_are)
        (all_append (λ (loan : ℕ × V). (v : V) → slice_get values loan.0 ≡ Some v → loan.1 ≡ at loan.0 v) lent.reads (loans_from homes new_reads) old.reads_are
        (loans_are (λ l x. (v : V) → slice_get values l ≡ Some v → x ≡ at l v) homes new_reads (once_rising (difference g2.reads g.reads)) have_r
        (λ l home h there v listed. ap (λ (s : ShareFields V). s.value) (same_item home (home_by seats (is_written taken l) (readers taken l) (at l v)) (sym there ∙ are l v listed)))));
    writes_once = subst Once (sym write_places) (once_append (places lent.writes) new_writes old.writes_once (once_rising (difference g2.writes g.writes))
        (λ l h. old.writes_has l ∙ (of_new_writes seats n g g2 taken values at homes m long are l h).1));
    writes_has = λ l. ap (has l) write_places ∙ has_append l (places lent.writes) new_writes ∙ (λ i. old.writes_has l i || has_w l i)
        ∙ all_of_two (contains g.writes l) (contains g2.writes l) (within_at g.writes g2.writes within.1 l);
    writes_are = subst (AllByRecursion (λ (loan : ℕ × ShareFields V). (v : V) → slice_get values loan.0 ≡ Some v → loan.1 ≡ whole (seats + 1) (at loan.0 v))) (sym writes_are)
        (all_append (λ (loan : ℕ × ShareFields V). (v : V) → slice_get values loan.0 ≡ Some v → loan.1 ≡ whole (seats + 1) (at loan.0 v)) lent.writes (wholes_from between new_writes) old.writes_are
        (wholes_are (λ l x. (v : V) → slice_get values l ≡ Some v → x ≡ whole (seats + 1) (at l v)) between new_writes (once_rising (difference g2.writes g.writes)) have_w
        (λ l home h there v listed.
        let new = of_new_writes seats n g g2 taken values at homes m long are l h in
        same_item home (home_by seats (is_written taken l) (readers taken l) (at l v)) (sym there ∙ write_stays seats n g g2 taken values at homes m long are l new.0 ∙ are l v listed)
        ∙ (λ i. home_by seats (write_unwritten seats n g g2 taken values at homes m long are l new.0 new.1 i) (write_unread seats n g g2 taken values at homes m long are l new.0 i) (at l v))
        ∙ sym (home_whole seats (at l v)))));
  }
