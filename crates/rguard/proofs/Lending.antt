-- What is lent to a section, and its copies.
use Rattle.std.proofs.Common.{◌≡◌, ℕ, ◌+◌, ◌==◌, ◌||◌, Bool, true, false, cond, List, [], ◌∷◌, Some, None, refl, sym, ap, subst, ◌∙◌}
use Rattle.std.specs.Prelude.{slice_get}
use Rattle.std.specs.FinSet.{contains, is_subset}
use Rattle.std.specs.List.{AllByRecursion}
use Rattle.std.proofs.lemmas.Bool.{eqb-true, true≢false, and_parts}
use Rattle.rset.proofs.SetLemmas.{within_at, contains_empty}
use Rattle.rmodel.specs.declared.granted.Granted.{Granted}
use Rattle.rmodel.specs.Holds.{nothing, is_within}
use Rattle.rmodel.proofs.ListFacts.{all_at, all_from}
use Rattle.rstate.specs.Lent.{LentFields, IsLent, Once, has, places, at_place}
use Rattle.rstate.specs.Shares.{ShareFields, whole}
use Rattle.rstate.proofs.homes.Moved.{place_among}

module _ {V : Type 0} where
  -- what is lent, of values that are the same for all that is lent
  pub lent_same : (seats : ℕ) (g : Granted) (values : List V) (at later at2 later2 : ℕ → V → V) (lent : LentFields V)
      → ((l : ℕ) → contains g.reads l ≡ true → (v : V) → slice_get values l ≡ Some v → at2 l v ≡ at l v) → ((l : ℕ) → contains g.writes l ≡ true → (v : V) → slice_get values l ≡ Some v → later2 l v ≡ later l v)
      → IsLent seats g values at later lent → IsLent seats g values at2 later2 lent
  lent_same seats g values at later at2 later2 lent reads writes was = record {
    reads_once = was.reads_once;
    reads_has = was.reads_has;
    reads_are = all_from (λ loan. (v : V) → slice_get values loan.0 ≡ Some v → loan.1 ≡ at2 loan.0 v) lent.reads (λ loan there v listed.
        all_at (λ loan. (v : V) → slice_get values loan.0 ≡ Some v → loan.1 ≡ at loan.0 v) lent.reads loan was.reads_are there v listed
        ∙ sym (reads loan.0 (sym (was.reads_has loan.0) ∙ place_among loan lent.reads there) v listed));
    writes_once = was.writes_once;
    writes_has = was.writes_has;
    writes_are = all_from (λ loan. (v : V) → slice_get values loan.0 ≡ Some v → loan.1 ≡ whole (seats + 1) (later2 loan.0 v)) lent.writes (λ loan there v listed.
        all_at (λ loan. (v : V) → slice_get values loan.0 ≡ Some v → loan.1 ≡ whole (seats + 1) (later loan.0 v)) lent.writes loan was.writes_are there v listed
        ∙ ap (whole (seats + 1)) (sym (writes loan.0 (sym (was.writes_has loan.0) ∙ place_among loan lent.writes there) v listed)));
  }

  -- what is lent stays lent with more room
  pub lent_reserved : (seats : ℕ) (g : Granted) (values : List V) (at later : ℕ → V → V) (lent roomy : LentFields V) → roomy.reads ≡ lent.reads → roomy.writes ≡ lent.writes
      → IsLent seats g values at later lent → IsLent seats g values at later roomy
  lent_reserved seats g values at later lent roomy reads writes was = record {
    reads_once = subst (λ (xs : List (ℕ × V)). Once (places xs)) (sym reads) was.reads_once;
    reads_has = λ l. ap (λ (xs : List (ℕ × V)). has l (places xs)) reads ∙ was.reads_has l;
    reads_are = subst (λ (xs : List (ℕ × V)). AllByRecursion (λ loan. (v : V) → slice_get values loan.0 ≡ Some v → loan.1 ≡ at loan.0 v) xs) (sym reads) was.reads_are;
    writes_once = subst (λ (xs : List (ℕ × ShareFields V)). Once (places xs)) (sym writes) was.writes_once;
    writes_has = λ l. ap (λ (xs : List (ℕ × ShareFields V)). has l (places xs)) writes ∙ was.writes_has l;
    writes_are = subst (λ (xs : List (ℕ × ShareFields V)). AllByRecursion (λ loan. (v : V) → slice_get values loan.0 ≡ Some v → loan.1 ≡ whole (seats + 1) (later loan.0 v)) xs) (sym writes) was.writes_are;
  }

  -- nothing is lent if nothing was taken
  pub lent_nothing : (seats : ℕ) (values : List V) (at later : ℕ → V → V) (reads_room writes_room : ℕ) → IsLent seats nothing values at later (record { reads = []; writes = []; reads_room = reads_room; writes_room = writes_room })
  lent_nothing seats values at later reads_room writes_room = record {
    reads_once = tt;
    reads_has = λ l. sym (contains_empty l);
    reads_are = tt;
    writes_once = tt;
    writes_has = λ l. sym (contains_empty l);
    writes_are = tt;
  }

module _ {V X : Type 0} (values : List V) (P : ℕ → V → X) where
  -- the first item of a resource that is in the list
  pub place_there : (loans : List (ℕ × X)) (l : ℕ) (v : V) → AllByRecursion (λ loan. (v : V) → slice_get values loan.0 ≡ Some v → loan.1 ≡ P loan.0 v) loans → has l (places loans) ≡ true → slice_get values l ≡ Some v
      → at_place loans l ≡ Some (P l v)
  place_there [] l v are there listed = absurd (true≢false (sym there))
  place_there (loan ∷ loans) l v are there listed = at (loan.0 == l) refl (place_there loans l v are.1)
    where
      at : (b : Bool) → (loan.0 == l) ≡ b → (has l (places loans) ≡ true → slice_get values l ≡ Some v → at_place loans l ≡ Some (P l v)) → cond b (Some loan.1) (at_place loans l) ≡ Some (P l v)
      at true is rest =
          let e = eqb-true loan.0 l is in
          ap Some (are.0 v (ap (slice_get values) e ∙ listed) ∙ ap (λ k. P k v) e)
      at false is rest = rest (ap (λ (c : Bool). c || has l (places loans)) (sym is) ∙ there) listed

module _ {X : Type 0} where
  -- and no item of a resource that is not
  pub place_none : (loans : List (ℕ × X)) (l : ℕ) → has l (places loans) ≡ false → at_place loans l ≡ None
  place_none [] l none = refl
  place_none (loan ∷ loans) l none = at (loan.0 == l) refl (place_none loans l)
    where
      at : (b : Bool) → (loan.0 == l) ≡ b → (has l (places loans) ≡ false → at_place loans l ≡ None) → cond b (Some loan.1) (at_place loans l) ≡ None
      at true is rest = absurd (true≢false (ap (λ (c : Bool). c || has l (places loans)) (sym is) ∙ none))
      at false is rest = rest (ap (λ (c : Bool). c || has l (places loans)) (sym is) ∙ none)

-- what lies within what is held
pub within_reads : (g h : Granted) (l : ℕ) → is_within g h ≡ true → contains g.reads l ≡ true → contains h.reads l ≡ true
within_reads g h l within = within_at g.reads h.reads (and_parts (is_subset g.reads h.reads) (is_subset g.writes h.writes) within).0 l

pub within_writes : (g h : Granted) (l : ℕ) → is_within g h ≡ true → contains g.writes l ≡ true → contains h.writes l ≡ true
within_writes g h l within = within_at g.writes h.writes (and_parts (is_subset g.reads h.reads) (is_subset g.writes h.writes) within).1 l
