-- The rows of a zone give the numbers that bound a write wait there.
use Rattle.std.proofs.Common.{◌≡◌, ◌≢◌, ◌<◌, ◌+◌, ◌*◌, ◌-◌, ◌&&◌, ◌||◌, ◌==◌, ◌⊎◌, not, min, ℕ, Bool, true, false, cond, List, [], ◌∷◌, map, fold, Option, None, is_some, unwrap_or, refl, sym, ap, ◌∙◌, inl, inr, arith}
use Rattle.std.specs.List.{list_any, list_all, count_by, range_with_len, AllByRecursion}
use Rattle.std.proofs.lemmas.Bool.{eq-eqb, eqb-true, and_parts, and_from, or_left, or_right}
use Rattle.std.proofs.lemmas.Bool.Decides.{eqb_tells}
use Rattle.std.proofs.lemmas.List.FromFn.{get_or-map-range_with_len}
use Rattle.rset.specs.Sets.{Set}
use Rattle.rset.proofs.SetLemmas.{same_test}
use Rattle.rmodel.specs.Claims.{is_upgrade}
use Rattle.rmodel.specs.WellFormed.{Among}
use Rattle.rmodel.proofs.ListFacts.{any_among, passing, all_among, all_at, contrary}
use Rattle.rmodel.proofs.settling.OneSettlement.{both_cases}
use Rattle.rbound.specs.Needs.{Needed}
use Rattle.rbound.specs.Zones.{is_there}
use Rattle.rbound.specs.Bounds.{largest, tasks_of, reads_there, writes_there, upgrades_there, is_writer, writers, writes_of, all_may_write, none_beside, reads_of, write_length, units_of}
use Rattle.rbound.specs.Longest.{longest}
use Rattle.rbound.specs.ZoneRows.{is_sort, is_there_of, beside, row_at, other_at, writers_in, writes_in, all_may_write_in, none_beside_in, reads_in, write_length_in, numbers_of, AreRows}
use Rattle.rbound.specs.declared.rows.ZoneRows.{ZoneRows}
use Rattle.rbound.specs.declared.rows.Sort.{Sort}
use Rattle.rbound.specs.declared.rows.Sort.TheVariants.{Writes, Reads, Upgrades}
use Rattle.rbound.proofs.LongestClaims.{longest_same, longest_never, longest_is, longest_greatest}
use Rattle.rbound.proofs.BesideFacts.{in_range, map_same, range_has, beside_all}

count_from : (p q : ℕ → Bool) (xs : List ℕ) (a : ℕ) → ((x : ℕ) → Among x xs → p x ≡ q x) → fold (λ a x. a + cond (p x) 1 0) a xs ≡ fold (λ a x. a + cond (q x) 1 0) a xs
count_from p q [] a same = refl
count_from p q (x ∷ xs) a same = ap (λ b. fold (λ a x. a + cond (p x) 1 0) (a + cond b 1 0) xs) (same x (inl refl)) ∙ count_from p q xs (a + cond (q x) 1 0) (λ y there. same y (inr there))

count_same : (p q : ℕ → Bool) (xs : List ℕ) → ((x : ℕ) → Among x xs → p x ≡ q x) → count_by p xs ≡ count_by q xs
count_same p q xs same = count_from p q xs 0 same

all_passing : {X : Type 0} (p : X → Bool) (xs : List X) → ((x : X) → Among x xs → p x ≡ true) → list_all p xs ≡ true
all_passing p [] all = refl
all_passing p (x ∷ xs) all = and_from (p x) (list_all p xs) (all x (inl refl)) (all_passing p xs (λ y there. all y (inr there)))

and_apart : (x y z : Bool) → (x && (y && z)) ≡ ((x && y) && z)
and_apart true y z = refl
and_apart false y z = refl

module _ (ns : List Needed) (tasks : ℕ) (seats : AllByRecursion (λ (n : Needed). n.claim.seat < tasks) ns) (zone : Set) (rows : ZoneRows) (rs : AreRows ns tasks zone rows) where
  at_row : (row : List (Option ℕ)) (sort : Sort) → row ≡ map (λ t. longest (is_there_of sort zone t) ns) (range_with_len 0 tasks) → (t : ℕ) → t < tasks → row_at row t ≡ longest (is_there_of sort zone t) ns
  at_row row sort is t some = ap (λ r. row_at r t) is ∙ get_or-map-range_with_len (λ t. longest (is_there_of sort zone t) ns) 0 tasks t t None some (omega arith)

  -- ---- writers

  pub other_is : (task other : ℕ) → other < tasks → other_at rows.writes.items task other ≡ longest (λ n. writes_there task zone n && (n.claim.seat == other)) ns
  other_is task other some =
      ap (cond (other == task) None) (at_row rows.writes.items Writes rs.writes other some)
      ∙ unless (other == task) (is_there_of Writes zone other)
      ∙ longest_same (λ n. not (other == task) && is_there_of Writes zone other n) (λ n. writes_there task zone n && (n.claim.seat == other)) ns
      (λ n there. seated n.claim.seat n.claim.write_half (is_there zone n) (eqb_tells n.claim.seat other))
    where
      unless : (b : Bool) (p : Needed → Bool) → cond b None (longest p ns) ≡ longest (λ n. not b && p n) ns
      unless true p = sym (longest_never ns)
      unless false p = refl

      shuffle : (x y z : Bool) → (x && (true && (y && z))) ≡ (((x && y) && z) && true)
      shuffle true true true = refl
      shuffle true true false = refl
      shuffle true false z = refl
      shuffle false y z = refl

      neither : (x y : Bool) → (x && (false && y)) ≡ false
      neither true y = refl
      neither false y = refl

      nor : (x : Bool) → (x && false) ≡ false
      nor true = refl
      nor false = refl

      seated : (a : ℕ) (w h : Bool) → ((a == other) ≡ true) × (a ≡ other) ⊎ ((a == other) ≡ false) × (a ≢ other) → (not (other == task) && ((a == other) && (w && h))) ≡ (((not (a == task) && w) && h) && (a == other))
      seated a w h (inl same) =
          ap (λ b. not (other == task) && (b && (w && h))) same.0 ∙ shuffle (not (other == task)) w h
          ∙ sym (λ i. ((not (same.1 i == task) && w) && h) && same.0 i)
      seated a w h (inr apart) =
          ap (λ b. not (other == task) && (b && (w && h))) apart.0 ∙ neither (not (other == task)) (w && h)
          ∙ sym (ap (λ b. ((not (a == task) && w) && h) && b) apart.0 ∙ nor ((not (a == task) && w) && h))

  writer_is : (task other : ℕ) → other < tasks → is_some (other_at rows.writes.items task other) ≡ is_writer ns task zone other
  writer_is task other some = ap is_some (other_is task other some) ∙ longest_is (λ n. writes_there task zone n && (n.claim.seat == other)) ns

  length_is : (task other : ℕ) → other < tasks → write_length_in rows.writes.items task other ≡ write_length ns task zone other
  length_is task other some = ap (λ o. unwrap_or o 0) (other_is task other some) ∙ longest_greatest (λ n. writes_there task zone n && (n.claim.seat == other)) ns

  writers_are : (task : ℕ) → writers_in rows.writes.items tasks task ≡ writers ns tasks task zone
  writers_are task = count_same (λ other. is_some (other_at rows.writes.items task other)) (is_writer ns task zone) (tasks_of tasks) (λ other there. writer_is task other (in_range tasks other there))

  writes_are : (cap task : ℕ) → writes_in rows.writes.items tasks cap task ≡ writes_of ns tasks cap task zone
  writes_are cap task = ap (λ w. min w (cap - 1)) (writers_are task)

  -- ---- readers

  beside_row : (row : List (Option ℕ)) (sort : Sort) → row ≡ map (λ t. longest (is_there_of sort zone t) ns) (range_with_len 0 tasks) → (task : ℕ)
      → beside tasks task (row_at row) ≡ longest (λ n. not (n.claim.seat == task) && (is_sort sort n && is_there zone n)) ns
  beside_row row sort is task = beside_all ns tasks seats task (row_at row) (λ n. is_sort sort n && is_there zone n) (at_row row sort is)

  reader_is : (task : ℕ) → beside tasks task (row_at rows.reads.items) ≡ longest (reads_there task zone) ns
  reader_is task =
      beside_row rows.reads.items Reads rs.reads task
      ∙ longest_same (λ n. not (n.claim.seat == task) && (not n.claim.write_half && is_there zone n)) (reads_there task zone) ns
      (λ n there. and_apart (not (n.claim.seat == task)) (not n.claim.write_half) (is_there zone n))

  upgrade_is : (task : ℕ) → beside tasks task (row_at rows.upgrades.items) ≡ longest (upgrades_there task zone) ns
  upgrade_is task =
      beside_row rows.upgrades.items Upgrades rs.upgrades task
      ∙ longest_same (λ n. not (n.claim.seat == task) && (is_upgrade n.claim.kind && is_there zone n)) (upgrades_there task zone) ns
      (λ n there. and_apart (not (n.claim.seat == task)) (is_upgrade n.claim.kind) (is_there zone n))

  -- a task has a read claim there
  reads_some : (t : ℕ) → t < tasks → is_some (row_at rows.reads.items t) ≡ list_any (λ n. (n.claim.seat == t) && (not n.claim.write_half && is_there zone n)) ns
  reads_some t some =
      ap is_some (at_row rows.reads.items Reads rs.reads t some) ∙ longest_is (is_there_of Reads zone t) ns

  -- another task writes there
  writes_some : (task t : ℕ) → (t == task) ≡ false → is_some (row_at rows.writes.items t) ≡ is_some (other_at rows.writes.items task t)
  writes_some task t apart = sym (ap (λ b. is_some (cond b None (row_at rows.writes.items t))) apart)

  may_write : (task : ℕ) → all_may_write_in rows tasks task ≡ all_may_write ns task zone
  may_write task = same_test _ _
      (λ h. all_passing (λ n. not (reads_there task zone n) || is_writer ns task zone n.claim.seat) ns
      (λ n there.
      let some = all_at (λ (m : Needed). m.claim.seat < tasks) ns n seats there in
      let t = n.claim.seat in
      let test = all_among (λ t. ((t == task) || not (is_some (row_at rows.reads.items t))) || is_some (row_at rows.writes.items t)) (tasks_of tasks) t h (range_has 0 tasks t (omega arith) (omega (arith, some))) in
      both_cases (reads_there task zone n)
      (λ reads.
      let a = and_parts (not (t == task) && not n.claim.write_half) (is_there zone n) reads in
      let b = and_parts (not (t == task)) (not n.claim.write_half) a.0 in
      let apart : (t == task) ≡ false = flip (t == task) b.0 in
      let has : is_some (row_at rows.reads.items t) ≡ true = reads_some t some ∙ any_among (λ m. (m.claim.seat == t) && (not m.claim.write_half && is_there zone m)) ns n there (and_from _ _ (eq-eqb t t refl) (and_from _ _ b.1 a.1)) in
      or_right (not (reads_there task zone n)) (is_writer ns task zone t)
      (sym (writer_is task t some) ∙ sym (writes_some task t apart) ∙ last (is_some (row_at rows.writes.items t)) (sym (λ i. (apart i || not (has i)) || is_some (row_at rows.writes.items t)) ∙ test)))
      (λ none. or_left (not (reads_there task zone n)) (is_writer ns task zone t) (ap not none))))
      (λ h. all_passing (λ t. ((t == task) || not (is_some (row_at rows.reads.items t))) || is_some (row_at rows.writes.items t)) (tasks_of tasks)
      (λ t there.
      let some = in_range tasks t there in
      both_cases (t == task)
      (λ me. or_left _ (is_some (row_at rows.writes.items t)) (or_left (t == task) (not (is_some (row_at rows.reads.items t))) me))
      (λ apart. both_cases (is_some (row_at rows.reads.items t))
      (λ has.
      let n = passing (λ m. (m.claim.seat == t) && (not m.claim.write_half && is_there zone m)) ns (sym (reads_some t some) ∙ has) in
      let a = and_parts (n.0.claim.seat == t) (not n.0.claim.write_half && is_there zone n.0) n.2 in
      let b = and_parts (not n.0.claim.write_half) (is_there zone n.0) a.1 in
      let seat : n.0.claim.seat ≡ t = eqb-true n.0.claim.seat t a.0 in
      let reads : reads_there task zone n.0 ≡ true = and_from _ _ (and_from _ _ (ap (λ k. not (k == task)) seat ∙ ap not apart) b.0) b.1 in
      let test = all_among (λ n. not (reads_there task zone n) || is_writer ns task zone n.claim.seat) ns n.0 h n.1 in
      let writer : is_writer ns task zone n.0.claim.seat ≡ true = sym (ap (λ b. not b || is_writer ns task zone n.0.claim.seat) reads) ∙ test in
      or_right ((t == task) || not (is_some (row_at rows.reads.items t))) (is_some (row_at rows.writes.items t))
      (writes_some task t apart ∙ writer_is task t some ∙ ap (is_writer ns task zone) (sym seat) ∙ writer))
      (λ none. or_left _ (is_some (row_at rows.writes.items t)) (or_right (t == task) (not (is_some (row_at rows.reads.items t))) (ap not none))))))
    where
      flip : (b : Bool) → not b ≡ true → b ≡ false
      flip true h = contrary true refl (sym h)
      flip false h = refl

      last : (b : Bool) → ((false || not true) || b) ≡ true → b ≡ true
      last b h = h

  -- ---- the numbers

  has_read : (task : ℕ) → is_some (beside tasks task (row_at rows.reads.items)) ≡ list_any (reads_there task zone) ns
  has_read task = ap is_some (reader_is task) ∙ longest_is (reads_there task zone) ns

  none_are : (cap task : ℕ) → none_beside_in rows tasks cap task ≡ none_beside ns tasks cap task zone
  none_are cap task =
      (λ i. not (is_some (upgrade_is task i)) && ((writes_are cap task i == (cap - 1)) || may_write task i))
      ∙ ap (λ b. not b && ((writes_of ns tasks cap task zone == (cap - 1)) || all_may_write ns task zone)) (longest_is (upgrades_there task zone) ns)

  reads_are : (cap task : ℕ) → reads_in rows tasks cap task ≡ reads_of ns tasks cap task zone
  reads_are cap task = (λ i. cond (has_read task i) (cond (none_are cap task i) (writes_are cap task i) (writes_are cap task i + 1)) 0)

  units_are : (cap task : ℕ) → (numbers_of rows tasks cap task).units ≡ units_of ns tasks cap task zone
  units_are cap task =
      (λ i. largest (writes_are cap task i) (map_same (write_length_in rows.writes.items task) (write_length ns task zone) (tasks_of tasks) (λ t there. length_is task t (in_range tasks t there)) i)
      + reads_are cap task i * (ap (λ o. unwrap_or o 0) (reader_is task) ∙ longest_greatest (reads_there task zone) ns) i)

  -- *The numbers of a write wait in the zone*
  pub numbers_are : (cap task : ℕ) → numbers_of rows tasks cap task ≡ record { reads = reads_of ns tasks cap task zone; writes = writes_of ns tasks cap task zone; units = units_of ns tasks cap task zone }
  numbers_are cap task = (λ i. record { reads = reads_are cap task i; writes = writes_are cap task i; units = units_are cap task i })
