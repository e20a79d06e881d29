-- Which claims can hold up a write of a resource by another task.
use Rattle.std.proofs.Common.{◌≡◌, ◌≢◌, ◌<◌, ◌&&◌, ◌||◌, ◌==◌, ◌⊎◌, not, ℕ, Bool, true, false, cond, List, [], ◌∷◌, map, get_or, None, IsTrue, refl, sym, ap, subst, ◌∙◌, inl, inr, arith}
use Rattle.std.specs.List.{list_any, range_with_len, AllByRecursion}
use Rattle.std.specs.FinSet.{empty, union, contains}
use Rattle.std.proofs.lemmas.Bool.{eq-eqb, eqb-true, and_parts, and_from, or_left, or_right, or_cases}
use Rattle.std.proofs.lemmas.Bool.Decides.{eqb_tells}
use Rattle.std.proofs.lemmas.List.FromFn.{get_or-map-range_with_len}
use Rattle.rset.specs.Sets.{Set, meets, rising, all_below}
use Rattle.rset.specs.declared.TheConstants.{RESOURCES}
use Rattle.rset.proofs.SetLemmas.{same_test, meets_from, meets_empty_right, meets_union_right, contains_empty, rising_below, all_below_union, all_below_empty}
use Rattle.rmodel.specs.Claims.{is_read_half}
use Rattle.rmodel.specs.WellFormed.{Among}
use Rattle.rmodel.proofs.ListFacts.{any_among, passing, all_at, contrary}
use Rattle.rmodel.proofs.settling.OneSettlement.{both_cases}
use Rattle.rbound.specs.Needs.{Needed}
use Rattle.rbound.specs.Bounds.{can_hold_up}
use Rattle.rbound.specs.Longest.{longer, longest, longest_of}
use Rattle.rbound.specs.ZoneRows.{beside}
use Rattle.rbound.specs.Sound.{AreSound}
use Rattle.rbound.proofs.LongestClaims.{longest_or, longest_any, longest_same, longest_of_same, longest_never}
use Rattle.rbound.proofs.BesideFacts.{beside_same, beside_longest, beside_all, range_has, any_same}
use Rattle.rbound_table.specs.Tables.{key_of, is_under, together, cell_at}
use Rattle.rbound_table.specs.AllTables.{AreTables}
use Rattle.rbound_table.specs.Two.{no_length, only, two_at}
use Rattle.rbound_table.specs.Leaders.{leaders_at, led_beside}
use Rattle.rbound_table.specs.Delays.{all_leaders, readers_of, delayed}
use Rattle.rbound_table.specs.declared.table.Cell.{Cell}
use Rattle.rbound_table.specs.declared.table.Key.TheVariants.{Reads, Writes, Halves}
use Rattle.rbound_table.specs.declared.tables.Tables.{Tables}
use Rattle.rbound_table.specs.declared.two.TwoLongest.{TwoLongest}
use Rattle.rbound_table.proofs.QueryFacts.{among_any, any_and, meets_rising}
use Rattle.rbound_table.proofs.TwoFacts.{IsFair, only_fair, joined_at}
use Rattle.rbound_table.proofs.LeaderFacts.{led_beside_at, led_beside_fair}

-- a set meets what some claims have together exactly where it meets the key of one of them
meets_together : (s : Set) (key : Needed → Set) (p : Needed → Bool) (ns : List Needed) → meets s (together key p ns) ≡ list_any (λ v. p v && meets s (key v)) ns
meets_together s key p [] = meets_empty_right s
meets_together s key p (n ∷ ns) = at (p n) (meets_together s key p ns)
  where
    at : (b : Bool) → meets s (together key p ns) ≡ list_any (λ v. p v && meets s (key v)) ns
        → meets s (cond b (union (key n) (together key p ns)) (together key p ns)) ≡ ((b && meets s (key n)) || list_any (λ v. p v && meets s (key v)) ns)
    at true h = meets_union_right s (key n) (together key p ns) ∙ ap (λ b. meets s (key n) || b) h
    at false h = h

together_below : (key : Needed → Set) (p : Needed → Bool) (ns : List Needed) → AllByRecursion (λ n. IsTrue (all_below RESOURCES (key n))) ns → all_below RESOURCES (together key p ns) ≡ true
together_below key p [] all = all_below_empty RESOURCES
together_below key p (n ∷ ns) all = at (p n) (together_below key p ns all.1)
  where
    at : (b : Bool) → all_below RESOURCES (together key p ns) ≡ true → all_below RESOURCES (cond b (union (key n) (together key p ns)) (together key p ns)) ≡ true
    at true h = all_below_union RESOURCES (key n) (together key p ns) all.0 h
    at false h = h

pub no_member : (s : Set) (l : ℕ) (P : Type 0) → s ≡ empty → contains s l ≡ true → P
no_member s l P none has = contrary true refl (sym has ∙ ap (λ t. contains t l) none ∙ contains_empty l)

map_map : {X Y : Type 0} (g : X → Y) (f : ℕ → X) (ks : List ℕ) → map g (map f ks) ≡ map (λ k. g (f k)) ks
map_map g f [] = refl
map_map g f (k ∷ ks) = ap (λ ys. g (f k) ∷ ys) (map_map g f ks)

-- ---- tests

unless : (b : Bool) (p : Needed → Bool) (ns : List Needed) → cond b None (longest p ns) ≡ longest (λ n. not b && p n) ns
unless true p ns = sym (longest_never ns)
unless false p ns = refl

neither : (b : Bool) → (b && false) ≡ false
neither true = refl
neither false = refl

seated : (a t s : ℕ) (x : Bool) → (not (t == s) && ((a == t) && x)) ≡ ((a == t) && (not (a == s) && x))
seated a t s x = elim (eqb_tells a t) [
  | inl same ↦ ap (λ b. not (t == s) && (b && x)) same.0 ∙ sym (λ i. same.0 i && (not (same.1 i == s) && x))
  | inr other ↦ ap (λ b. not (t == s) && (b && x)) other.0 ∙ neither (not (t == s)) ∙ sym (ap (λ b. b && (not (a == s) && x)) other.0)
]

-- a claim of the writer, or of another task
one_of : (a s me : ℕ) (x : Bool) → ((not (s == me) && ((a == s) && x)) || (not (a == me) && (not (a == s) && x))) ≡ (not (a == me) && x)
one_of a s me x = elim (eqb_tells a s) [
  | inl same ↦ (λ i. (not (sym same.1 i == me) && (same.0 i && x)) || (not (a == me) && (not (same.0 i) && x))) ∙ left (not (a == me)) x
  | inr other ↦ (λ i. (not (s == me) && (other.0 i && x)) || (not (a == me) && (not (other.0 i) && x))) ∙ right (not (s == me)) (not (a == me) && x)
]
  where
    left : (b x : Bool) → ((b && x) || (b && false)) ≡ (b && x)
    left true true = refl
    left true false = refl
    left false x = refl

    right : (b y : Bool) → ((b && false) || y) ≡ y
    right true y = refl
    right false y = refl

module _ (ns : List Needed) (tasks : ℕ) (are : AreSound ns tasks) where
  -- a write claim of a task that writes the resource, and that the claim can hold up
  abbrev pub holds : ℕ → ℕ → Needed → Needed → Bool
  holds l s n v = v.claim.write_half && ((v.claim.seat == s) && (contains v.claim.writes l && can_hold_up n.claim v.claim))

  -- the same, leaving one task out
  abbrev pub holds_beside : ℕ → ℕ → Needed → Needed → Bool
  holds_beside l me n v = v.claim.write_half && (not (v.claim.seat == me) && (contains v.claim.writes l && can_hold_up n.claim v.claim))

  half_holds : (l s : ℕ) (n : Needed) → Among n ns → is_under (key_of Halves) s l n ≡ ((n.claim.seat == s) && list_any (holds l s n) ns)
  half_holds l s n there = same_test _ _
      (λ h.
      let parts = and_parts (n.claim.seat == s) (contains (key_of Halves n) l) h in
      and_from _ _ parts.0 (from_half (is_read_half n.claim) refl (eqb-true n.claim.seat s parts.0) parts.1))
      (λ h.
      let parts = and_parts (n.claim.seat == s) (list_any (holds l s n) ns) h in
      let v = passing (holds l s n) ns parts.1 in
      let a = and_parts v.0.claim.write_half ((v.0.claim.seat == s) && (contains v.0.claim.writes l && can_hold_up n.claim v.0.claim)) v.2 in
      let b = and_parts (v.0.claim.seat == s) (contains v.0.claim.writes l && can_hold_up n.claim v.0.claim) a.1 in
      let c = and_parts (contains v.0.claim.writes l) (can_hold_up n.claim v.0.claim) b.1 in
      let d = and_parts (meets n.claim.reads v.0.claim.writes) (not (n.claim.seat == v.0.claim.seat) || (is_read_half n.claim && (n.claim.stamp == v.0.claim.stamp))) c.1 in
      let seat : v.0.claim.seat ≡ n.claim.seat = eqb-true v.0.claim.seat s b.0 ∙ sym (eqb-true n.claim.seat s parts.0) in
      let e = own seat (or_cases (not (n.claim.seat == v.0.claim.seat)) (is_read_half n.claim && (n.claim.stamp == v.0.claim.stamp)) d.1) in
      let f = and_parts (is_read_half n.claim) (n.claim.stamp == v.0.claim.stamp) e in
      let writes = are.writes_it n v.0 there f.0 v.1 a.0 seat (sym (eqb-true n.claim.stamp v.0.claim.stamp f.1)) in
      and_from _ _ parts.0 (ap (λ b. contains (cond b n.claim.reads empty) l) f.0 ∙ ap (λ s. contains s l) (sym writes) ∙ c.0))
    where
      own : {k m : ℕ} {b : Bool} → k ≡ m → (not (m == k) ≡ true) ⊎ (b ≡ true) → b ≡ true
      own {k} {m} {b} same (inl apart) = contrary true refl (sym apart ∙ ap not (eq-eqb m k (sym same)))
      own same (inr is) = is

      from_half : (b : Bool) → is_read_half n.claim ≡ b → n.claim.seat ≡ s → contains (cond b n.claim.reads empty) l ≡ true → list_any (holds l s n) ns ≡ true
      from_half false half seat has = no_member empty l _ refl has
      from_half true half seat has =
          let v = are.write_of n there half in
          let both : meets n.claim.reads v.0.claim.writes ≡ true = meets_from n.claim.reads v.0.claim.writes l has (ap (λ t. contains t l) v.5 ∙ has) in
          any_among (holds l s n) ns v.0 v.1
          (and_from _ _ v.2
          (and_from _ _ (eq-eqb v.0.claim.seat s (v.3 ∙ seat))
          (and_from _ _ (ap (λ t. contains t l) v.5 ∙ has)
          (and_from _ _ both (or_right (not (n.claim.seat == v.0.claim.seat)) _ (and_from _ _ half (eq-eqb n.claim.stamp v.0.claim.stamp (sym v.4))))))))

  other_holds : (l s : ℕ) (n : Needed) → Among n ns
      → (not (n.claim.seat == s) && meets n.claim.reads (together (key_of Writes) (is_under (key_of Writes) s l) ns)) ≡ (not (n.claim.seat == s) && list_any (holds l s n) ns)
  other_holds l s n there =
      ap (λ b. not (n.claim.seat == s) && b) (meets_together n.claim.reads (key_of Writes) (is_under (key_of Writes) s l) ns)
      ∙ elim (eqb_tells n.claim.seat s) [
        | inl same ↦
            ap (λ b. not b && list_any (λ v. is_under (key_of Writes) s l v && meets n.claim.reads v.claim.writes) ns) same.0
            ∙ sym (ap (λ b. not b && list_any (holds l s n) ns) same.0)
        | inr other ↦ ap (λ b. not (n.claim.seat == s) && b) (any_same (λ v. is_under (key_of Writes) s l v && meets n.claim.reads v.claim.writes) (holds l s n) ns (one other.1))
      ]
    where
      one : n.claim.seat ≢ s → (v : Needed) → Among v ns → (is_under (key_of Writes) s l v && meets n.claim.reads v.claim.writes) ≡ holds l s n v
      one apart v beside = same_test _ _
          (λ h.
          let a = and_parts (is_under (key_of Writes) s l v) (meets n.claim.reads v.claim.writes) h in
          let b = and_parts (v.claim.seat == s) (contains v.claim.writes l) a.0 in
          let write : v.claim.write_half ≡ true = both_cases v.claim.write_half (λ w. w) (λ w. no_member v.claim.writes l _ (are.writes v beside w) b.1) in
          let differs : (n.claim.seat == v.claim.seat) ≡ false = unequal (λ same. apart (same ∙ eqb-true v.claim.seat s b.0)) in
          and_from _ _ write (and_from _ _ b.0 (and_from _ _ b.1 (and_from _ _ a.1 (or_left _ (is_read_half n.claim && (n.claim.stamp == v.claim.stamp)) (ap not differs))))))
          (λ h.
          let a = and_parts v.claim.write_half ((v.claim.seat == s) && (contains v.claim.writes l && can_hold_up n.claim v.claim)) h in
          let b = and_parts (v.claim.seat == s) (contains v.claim.writes l && can_hold_up n.claim v.claim) a.1 in
          let c = and_parts (contains v.claim.writes l) (can_hold_up n.claim v.claim) b.1 in
          let d = and_parts (meets n.claim.reads v.claim.writes) (not (n.claim.seat == v.claim.seat) || (is_read_half n.claim && (n.claim.stamp == v.claim.stamp))) c.1 in
          and_from _ _ (and_from _ _ b.0 c.0) d.0)
        where
          unequal : {a b : ℕ} → (a ≡ b → ⊥) → (a == b) ≡ false
          unequal {a} {b} differs = elim (eqb_tells a b) [ inl same ↦ absurd (differs same.1) | inr other ↦ other.0 ]

  module _ (tables : Tables) (ts : AreTables ns tasks tables) where
    -- what other tasks than the writer read
    reader_is : (s m me : ℕ) → m < RESOURCES → two_at (led_beside (leaders_at tables.reads.items tasks m) s) me ≡ longest (λ n. not (n.claim.seat == me) && (not (n.claim.seat == s) && contains n.claim.reads m)) ns
    reader_is s m me within =
        led_beside_at tasks s me (λ t. (cell_at tables.reads.items t m).longest)
        ∙ beside_all ns tasks are.seats me (λ t. cond (t == s) None (cell_at tables.reads.items t m).longest) (λ n. not (n.claim.seat == s) && contains n.claim.reads m)
        (λ t some.
        ap (λ (c : Cell). cond (t == s) None c.longest) (ts.reads.has t m some within)
        ∙ unless (t == s) (is_under (key_of Reads) t m) ns
        ∙ longest_same (λ n. not (t == s) && is_under (key_of Reads) t m n) (λ n. (n.claim.seat == t) && (not (n.claim.seat == s) && contains n.claim.reads m)) ns (λ n there. seated n.claim.seat t s (contains n.claim.reads m)))

    nth_reader : (s m : ℕ) → m < RESOURCES → get_or (readers_of (all_leaders tables.reads.items tasks) s) m no_length ≡ led_beside (leaders_at tables.reads.items tasks m) s
    nth_reader s m within =
        ap (λ row. get_or row m no_length) (map_map (λ l. led_beside l s) (leaders_at tables.reads.items tasks) (range_with_len 0 RESOURCES))
        ∙ get_or-map-range_with_len (λ k. led_beside (leaders_at tables.reads.items tasks k) s) 0 RESOURCES m m no_length within (omega arith)

    readers_are : (s me : ℕ) (b : Set) → all_below RESOURCES b ≡ true
        → longest_of (λ m. two_at (get_or (readers_of (all_leaders tables.reads.items tasks) s) m no_length) me) (rising b) ≡ longest (λ n. not (n.claim.seat == me) && (not (n.claim.seat == s) && meets n.claim.reads b)) ns
    readers_are s me b below =
        longest_of_same (λ m. two_at (get_or (readers_of (all_leaders tables.reads.items tasks) s) m no_length) me) (λ m. longest (λ n. not (n.claim.seat == me) && (not (n.claim.seat == s) && contains n.claim.reads m)) ns) (rising b)
        (λ m there. let small = rising_below b m (among_any (rising b) m there) in ap (λ two. two_at two me) (nth_reader s m small) ∙ reader_is s m me small)
        ∙ sym (longest_any (λ m n. not (n.claim.seat == me) && (not (n.claim.seat == s) && contains n.claim.reads m)) (rising b) ns)
        ∙ longest_same (λ n. list_any (λ m. not (n.claim.seat == me) && (not (n.claim.seat == s) && contains n.claim.reads m)) (rising b)) (λ n. not (n.claim.seat == me) && (not (n.claim.seat == s) && meets n.claim.reads b)) ns
        (λ n there.
        any_and (not (n.claim.seat == me)) (λ m. not (n.claim.seat == s) && contains n.claim.reads m) (rising b)
        ∙ ap (λ c. not (n.claim.seat == me) && c) (any_and (not (n.claim.seat == s)) (contains n.claim.reads) (rising b) ∙ ap (λ c. not (n.claim.seat == s) && c) (meets_rising n.claim.reads b below)))

    delayed_is : (l s me : ℕ) → l < RESOURCES → s < tasks → two_at (delayed tables tasks s l) me ≡ longest (λ n. not (n.claim.seat == me) && list_any (holds l s n) ns) ns
    delayed_is l s me within writer =
        let readers = readers_of (all_leaders tables.reads.items tasks) s in
        let half = (cell_at tables.halves.items s l).longest in
        let b = (cell_at tables.writes.items s l).beside in
        let w = together (key_of Writes) (is_under (key_of Writes) s l) ns in
        let written : b ≡ w = ap (λ (c : Cell). c.beside) (ts.writes.has s l writer within) in
        let below : all_below RESOURCES b ≡ true = ap (all_below RESOURCES) written ∙ together_below (key_of Writes) (is_under (key_of Writes) s l) ns ts.writes.below in
        let own : two_at (only s half) me ≡ longest (λ n. not (s == me) && is_under (key_of Halves) s l n) ns =
        ap (λ (c : Cell). cond (s == me) None c.longest) (ts.halves.has s l writer within) ∙ unless (s == me) (is_under (key_of Halves) s l) ns in
        joined_at (λ m. get_or readers m no_length) me (rising b) (only s half) (only_fair s half)
        (λ m there. subst (λ (two : TwoLongest). IsFair two) (sym (nth_reader s m (rising_below b m (among_any (rising b) m there)))) (led_beside_fair tasks s (λ t. (cell_at tables.reads.items t m).longest)))
        ∙ (λ i. longer (own i) ((readers_are s me b below ∙ ap (λ z. longest (λ n. not (n.claim.seat == me) && (not (n.claim.seat == s) && meets n.claim.reads z)) ns) written) i))
        ∙ sym (longest_or (λ n. not (s == me) && is_under (key_of Halves) s l n) (λ n. not (n.claim.seat == me) && (not (n.claim.seat == s) && meets n.claim.reads w)) ns)
        ∙ longest_same (λ n. (not (s == me) && is_under (key_of Halves) s l n) || (not (n.claim.seat == me) && (not (n.claim.seat == s) && meets n.claim.reads w))) (λ n. not (n.claim.seat == me) && list_any (holds l s n) ns) ns
        (λ n there. (λ i. (not (s == me) && half_holds l s n there i) || (not (n.claim.seat == me) && other_holds l s n there i)) ∙ one_of n.claim.seat s me (list_any (holds l s n) ns))

    delays_by : (l me : ℕ) (n : Needed) → Among n ns → list_any (λ s. not (s == me) && (not (n.claim.seat == me) && list_any (holds l s n) ns)) (range_with_len 0 tasks) ≡ (not (n.claim.seat == me) && list_any (holds_beside l me n) ns)
    delays_by l me n there = same_test _ _
        (λ h.
        let s = passing (λ s. not (s == me) && (not (n.claim.seat == me) && list_any (holds l s n) ns)) (range_with_len 0 tasks) h in
        let a = and_parts (not (s.0 == me)) (not (n.claim.seat == me) && list_any (holds l s.0 n) ns) s.2 in
        let b = and_parts (not (n.claim.seat == me)) (list_any (holds l s.0 n) ns) a.1 in
        let v = passing (holds l s.0 n) ns b.1 in
        let c = and_parts v.0.claim.write_half ((v.0.claim.seat == s.0) && (contains v.0.claim.writes l && can_hold_up n.claim v.0.claim)) v.2 in
        let d = and_parts (v.0.claim.seat == s.0) (contains v.0.claim.writes l && can_hold_up n.claim v.0.claim) c.1 in
        and_from _ _ b.0 (any_among (holds_beside l me n) ns v.0 v.1 (and_from _ _ c.0 (and_from _ _ (ap (λ k. not (k == me)) (eqb-true v.0.claim.seat s.0 d.0) ∙ a.0) d.1))))
        (λ h.
        let a = and_parts (not (n.claim.seat == me)) (list_any (holds_beside l me n) ns) h in
        let v = passing (holds_beside l me n) ns a.1 in
        let c = and_parts v.0.claim.write_half (not (v.0.claim.seat == me) && (contains v.0.claim.writes l && can_hold_up n.claim v.0.claim)) v.2 in
        let d = and_parts (not (v.0.claim.seat == me)) (contains v.0.claim.writes l && can_hold_up n.claim v.0.claim) c.1 in
        let some : v.0.claim.seat < tasks = all_at (λ (m : Needed). m.claim.seat < tasks) ns v.0 are.seats v.1 in
        any_among (λ s. not (s == me) && (not (n.claim.seat == me) && list_any (holds l s n) ns)) (range_with_len 0 tasks) v.0.claim.seat (range_has 0 tasks v.0.claim.seat (omega arith) (omega arith))
        (and_from _ _ d.0 (and_from _ _ a.0 (any_among (holds l v.0.claim.seat n) ns v.0 v.1 (and_from _ _ c.0 (and_from _ _ (eq-eqb v.0.claim.seat v.0.claim.seat refl) d.1))))))

    pub delays_is : (l me : ℕ) → l < RESOURCES → beside tasks me (λ s. two_at (delayed tables tasks s l) me) ≡ longest (λ n. not (n.claim.seat == me) && list_any (holds_beside l me n) ns) ns
    delays_is l me within =
        beside_same tasks me (λ s. two_at (delayed tables tasks s l) me) (λ s. longest (λ n. not (n.claim.seat == me) && list_any (holds l s n) ns) ns) (λ s writer. delayed_is l s me within writer)
        ∙ beside_longest ns tasks me (λ s n. not (n.claim.seat == me) && list_any (holds l s n) ns)
        ∙ longest_same (λ n. list_any (λ s. not (s == me) && (not (n.claim.seat == me) && list_any (holds l s n) ns)) (range_with_len 0 tasks)) (λ n. not (n.claim.seat == me) && list_any (holds_beside l me n) ns) ns (delays_by l me)
