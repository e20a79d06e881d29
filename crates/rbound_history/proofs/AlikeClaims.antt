-- Claims that are alike: for each claim of one list the other has one that differs only in its stamp and is at least as long, and the other way round.
-- All bounds are the same for both.
use Rattle.std.proofs.Common.{◌≡◌, ◌≤◌, ◌+◌, ◌*◌, ◌-◌, ◌&&◌, ◌||◌, ◌==◌, not, ℕ, Bool, true, false, cond, max, min, List, [], ◌∷◌, map, refl, sym, ap, subst, ◌∙◌, inl, inr, arith, le_antisymm}
use Rattle.std.specs.List.{list_any, list_all, count_by}
use Rattle.std.specs.FinSet.{empty, is_subset, intersection}
use Rattle.std.proofs.lemmas.Bool.{eq-eqb, eqb-true, and_parts, and_from, or_left, or_right, or_cases}
use Rattle.rset.specs.Sets.{Set, meets}
use Rattle.rset.proofs.SetLemmas.{same_test, within_both, meets_empty_right}
use Rattle.rclaim.specs.declared.claim.Claim.{Claim}
use Rattle.rmodel.specs.Claims.{conflicts, touches, is_upgrade, is_read_half}
use Rattle.rmodel.specs.WellFormed.{Among}
use Rattle.rmodel.proofs.ListFacts.{any_among, passing, all_among}
use Rattle.rmodel.proofs.settling.OneSettlement.{both_cases}
use Rattle.rbound.specs.Needs.{Needed}
use Rattle.rbound.specs.Zones.{zone_of, IsClosed}
use Rattle.rbound.specs.Bounds.{greatest, largest, one_if, tasks_of, reads_there, writes_there, upgrades_there, is_writer, writes_of, all_may_write, none_beside, reads_of, write_length, units_of, write_bound, can_hold_up, may_keep, may_delay, read_bound, may_bar, ask_bound, bound_by}
use Rattle.rbound.specs.Sound.{AreSound}
use Rattle.rbound.proofs.ClosedZones.{zone_within, zones_are_closed}

-- they differ only in their stamps and lengths
pub record SameClaim (a b : Claim) : Type 0 where
  pub seat : a.seat ≡ b.seat
  pub kind : a.kind ≡ b.kind
  pub half : a.write_half ≡ b.write_half
  pub reads : a.reads ≡ b.reads
  pub writes : a.writes ≡ b.writes
  pub places : a.places ≡ b.places

pub back : (a b : Claim) → SameClaim a b → SameClaim b a
back a b s = record { seat = sym s.seat; kind = sym s.kind; half = sym s.half; reads = sym s.reads; writes = sym s.writes; places = sym s.places }

-- the list has such a claim, at least as long
pub record HasLike (ms : List Needed) (n : Needed) : Type 0 where
  pub like : Needed
  pub there : Among like ms
  pub same : SameClaim n.claim like.claim
  pub long : n.len ≤ like.len

-- it has one for each claim of another list
abbrev pub HasAll : List Needed → List Needed → Type 0
HasAll ms ns = (n : Needed) → Among n ns → HasLike ms n

-- ---- what passes a test

pub any_carried : (ns ms : List Needed) (p q : Needed → Bool) → HasAll ms ns → ((n m : Needed) → Among n ns → Among m ms → SameClaim n.claim m.claim → p n ≡ true → q m ≡ true) → list_any p ns ≡ true → list_any q ms ≡ true
any_carried ns ms p q has carries some =
    let found = passing p ns some in
    let h = has found.0 found.1 in
    any_among q ms h.like h.there (carries found.0 h.like found.1 h.there h.same found.2)

-- no length that passes is above the greatest
not_above : (q : Needed → Bool) (ms : List Needed) (m : Needed) → Among m ms → q m ≡ true → m.len ≤ greatest q ms
not_above q [] m there pass = absurd there
not_above q (x ∷ ms) m (inl same) pass =
    let here : q x ≡ true = ap q (sym same) ∙ pass in
    let len : m.len ≡ x.len = ap (λ (y : Needed). y.len) same in
    let most : x.len ≤ max x.len (greatest q ms) = omega arith in
    subst (λ (b : Bool). m.len ≤ cond b (max x.len (greatest q ms)) (greatest q ms)) (sym here) (omega (arith, len, most))
not_above q (x ∷ ms) m (inr later) pass = at (q x) (not_above q ms m later pass)
  where
    at : (b : Bool) → m.len ≤ greatest q ms → m.len ≤ cond b (max x.len (greatest q ms)) (greatest q ms)
    at true h = omega arith
    at false h = h

greatest_within : (p : Needed → Bool) (ns : List Needed) (k : ℕ) → ((n : Needed) → Among n ns → p n ≡ true → n.len ≤ k) → greatest p ns ≤ k
greatest_within p [] k each = omega arith
greatest_within p (n ∷ ns) k each = at (p n) refl (greatest_within p ns k (λ m there. each m (inr there)))
  where
    at : (b : Bool) → p n ≡ b → greatest p ns ≤ k → cond b (max n.len (greatest p ns)) (greatest p ns) ≤ k
    at true pass rest = let most = each n (inl refl) pass in omega (arith, most, rest)
    at false fail rest = rest

pub greatest_carried : (ns ms : List Needed) (p q : Needed → Bool) → HasAll ms ns → ((n m : Needed) → Among n ns → Among m ms → SameClaim n.claim m.claim → p n ≡ true → q m ≡ true) → greatest p ns ≤ greatest q ms
greatest_carried ns ms p q has carries =
    greatest_within p ns (greatest q ms)
    (λ n there pass.
    let h = has n there in
    let most = not_above q ms h.like h.there (carries n h.like there h.there h.same pass) in
    omega (arith, h.long, most))

-- a test that depends on the claim alone, without its stamp
abbrev pub IsOfClaim : (Needed → Bool) → Type 0
IsOfClaim p = (n m : Needed) → SameClaim n.claim m.claim → p n ≡ p m

-- ---- zones

zone_closed : (ns ms : List Needed) → HasAll ms ns → (places : Set) → IsClosed ns (zone_of ms places)
zone_closed ns ms has places n there near =
    let h = has n there in
    ap (λ p. is_subset p (zone_of ms places)) h.same.places
    ∙ (zones_are_closed ms places).closed h.like h.there (ap (λ p. meets p (zone_of ms places)) (sym h.same.places) ∙ near)

module _ (ns ms : List Needed) (there : HasAll ms ns) (here : HasAll ns ms) where
  pub zones_same : (places : Set) → zone_of ns places ≡ zone_of ms places
  zones_same places =
      within_both (zone_of ns places) (zone_of ms places)
      (zone_within ns places (zone_of ms places) (zone_closed ns ms there places) (zones_are_closed ms places).has)
      (zone_within ms places (zone_of ns places) (zone_closed ms ns here places) (zones_are_closed ns places).has)

  pub any_same : (p : Needed → Bool) → IsOfClaim p → list_any p ns ≡ list_any p ms
  any_same p of =
      same_test _ _ (any_carried ns ms p p there (λ n m a b same pass. sym (of n m same) ∙ pass)) (any_carried ms ns p p here (λ n m a b same pass. sym (of n m same) ∙ pass))

  pub greatest_same : (p : Needed → Bool) → IsOfClaim p → greatest p ns ≡ greatest p ms
  greatest_same p of =
      le_antisymm (greatest_carried ns ms p p there (λ n m a b same pass. sym (of n m same) ∙ pass)) (greatest_carried ms ns p p here (λ n m a b same pass. sym (of n m same) ∙ pass))

  -- ---- a write wait

  writer_same : (task : ℕ) (zone : Set) (other : ℕ) → is_writer ns task zone other ≡ is_writer ms task zone other
  writer_same task zone other =
      any_same (λ n. writes_there task zone n && (n.claim.seat == other)) (λ n m s i. (not (s.seat i == task) && s.half i && is_subset (s.places i) zone) && (s.seat i == other))

  writes_same : (tasks cap task : ℕ) (zone : Set) → writes_of ns tasks cap task zone ≡ writes_of ms tasks cap task zone
  writes_same tasks cap task zone = (λ i. min (count_by (λ other. writer_same task zone other i) (tasks_of tasks)) (cap - 1))

  readers_same : (task : ℕ) (zone : Set) → IsOfClaim (reads_there task zone)
  readers_same task zone n m s = (λ i. not (s.seat i == task) && not (s.half i) && is_subset (s.places i) zone)

  upgrades_same : (task : ℕ) (zone : Set) → IsOfClaim (upgrades_there task zone)
  upgrades_same task zone n m s = (λ i. not (s.seat i == task) && is_upgrade (s.kind i) && is_subset (s.places i) zone)

  none_same : (tasks cap task : ℕ) (zone : Set) → all_may_write ns task zone ≡ all_may_write ms task zone → none_beside ns tasks cap task zone ≡ none_beside ms tasks cap task zone
  none_same tasks cap task zone may = (λ i. not (any_same (upgrades_there task zone) (upgrades_same task zone) i) && ((writes_same tasks cap task zone i == (cap - 1)) || may i))

  reads_same : (tasks cap task : ℕ) (zone : Set) → all_may_write ns task zone ≡ all_may_write ms task zone → reads_of ns tasks cap task zone ≡ reads_of ms tasks cap task zone
  reads_same tasks cap task zone may =
      (λ i. cond (any_same (reads_there task zone) (readers_same task zone) i) (cond (none_same tasks cap task zone may i) (writes_same tasks cap task zone i) (writes_same tasks cap task zone i + 1)) 0)

  length_same : (task : ℕ) (zone : Set) (other : ℕ) → write_length ns task zone other ≡ write_length ms task zone other
  length_same task zone other =
      greatest_same (λ n. writes_there task zone n && (n.claim.seat == other)) (λ n m s i. (not (s.seat i == task) && s.half i && is_subset (s.places i) zone) && (s.seat i == other))

  units_same : (tasks cap task : ℕ) (zone : Set) → all_may_write ns task zone ≡ all_may_write ms task zone → units_of ns tasks cap task zone ≡ units_of ms tasks cap task zone
  units_same tasks cap task zone may =
      (λ i. largest (writes_same tasks cap task zone i) (map (λ other. length_same task zone other i) (tasks_of tasks))
      + reads_same tasks cap task zone may i * greatest_same (reads_there task zone) (readers_same task zone) i)

  -- ---- an ask

  pub ask_same : (c d : Claim) (part : Set) → SameClaim c d → ask_bound ns c part ≡ ask_bound ms d part
  ask_same c d part same =
      (λ i. record { reads = one_if (any_same (may_bar c part) (bars c) i); writes = 0; units = greatest_same (may_bar c part) (bars c) i })
      ∙ (λ i. ask_bound ms (record { stamp = c.stamp; seat = same.seat i; kind = same.kind i; write_half = same.half i; reads = same.reads i; writes = same.writes i; places = same.places i }) part)
    where
      bars : (e : Claim) → IsOfClaim (may_bar e part)
      bars e n m s = (λ i. not (s.seat i == e.seat) && meets (s.reads i) (intersection part e.writes))

-- ---- from each list to the other

-- all pass where each does
all_passing : (p : Needed → Bool) (xs : List Needed) → ((x : Needed) → Among x xs → p x ≡ true) → list_all p xs ≡ true
all_passing p [] all = refl
all_passing p (x ∷ xs) all = and_from (p x) (list_all p xs) (all x (inl refl)) (all_passing p xs (λ y there. all y (inr there)))

module _ (ns ms : List Needed) (there : HasAll ms ns) (here : HasAll ns ms) where
  may_carried : (task : ℕ) (zone : Set) → all_may_write ns task zone ≡ true → all_may_write ms task zone ≡ true
  may_carried task zone all =
      all_passing (λ m. not (reads_there task zone m) || is_writer ms task zone m.claim.seat) ms
      (λ m is.
      let h = here m is in
      let test = all_among (λ n. not (reads_there task zone n) || is_writer ns task zone n.claim.seat) ns h.like all h.there in
      (λ i. not (not (h.same.seat i == task) && not (h.same.half i) && is_subset (h.same.places i) zone) || is_writer ms task zone (h.same.seat i))
      ∙ ap (λ b. not (reads_there task zone h.like) || b) (sym (writer_same ns ms there here task zone h.like.claim.seat)) ∙ test)

module _ (ns ms : List Needed) (there : HasAll ms ns) (here : HasAll ns ms) where
  may_same : (task : ℕ) (zone : Set) → all_may_write ns task zone ≡ all_may_write ms task zone
  may_same task zone = same_test _ _ (may_carried ns ms there here task zone) (may_carried ms ns here there task zone)

  -- *The bound of a write wait is the same*
  pub write_same : (tasks cap : ℕ) (c d : Claim) → SameClaim c d → write_bound ns tasks cap c ≡ write_bound ms tasks cap d
  write_same tasks cap c d same =
      (λ i. record {
        reads = reads_same ns ms there here tasks cap c.seat (zone_of ns c.places) (may_same c.seat (zone_of ns c.places)) i;
        writes = writes_same ns ms there here tasks cap c.seat (zone_of ns c.places) i;
        units = units_same ns ms there here tasks cap c.seat (zone_of ns c.places) (may_same c.seat (zone_of ns c.places)) i;
      })
      ∙ (λ i. record {
        reads = reads_of ms tasks cap (same.seat i) (zone i);
        writes = writes_of ms tasks cap (same.seat i) (zone i);
        units = units_of ms tasks cap (same.seat i) (zone i);
      })
    where
      zone : zone_of ns c.places ≡ zone_of ms d.places
      zone = zones_same ns ms there here c.places ∙ ap (zone_of ms) same.places

-- ---- a read wait

keeps : (r : Claim) → IsOfClaim (may_keep r)
keeps r n m s =
    (λ i. s.half i && not (s.seat i == r.seat) && ((meets r.reads (s.writes i) || meets r.writes (s.writes i)) || (meets (s.reads i) r.writes || meets (s.writes i) r.writes)))

-- a claim conflicts with a read claim by what it writes
conflict_by_writes : (r v w : Claim) → r.writes ≡ empty → w.writes ≡ v.writes → conflicts v r ≡ true → conflicts w r ≡ true
conflict_by_writes r v w none same h =
    or_left (touches r w.writes) (touches w r.writes)
    (ap (touches r) same ∙ by (touches r v.writes) (ap (λ b. touches r v.writes || b) (sym (ap (touches v) none ∙ (λ i. meets_empty_right v.reads i || meets_empty_right v.writes i))) ∙ h))
  where
    by : (b : Bool) → (b || false) ≡ true → b ≡ true
    by true g = refl
    by false g = g

module _ (tasks : ℕ) (ns ms : List Needed) (there : HasAll ms ns) (here_sound : AreSound ns tasks) (there_sound : AreSound ms tasks) (r : Claim) (none : r.writes ≡ empty) where
  -- for a write that the claim of one list holds up, the other list has a write that the claim there holds up
  held_up : (n m v : Needed) → Among n ns → Among m ms → SameClaim n.claim m.claim → not (n.claim.seat == r.seat) ≡ true → Among v ns → may_keep r v ≡ true → can_hold_up n.claim v.claim ≡ true
      → list_any (λ w. may_keep r w && can_hold_up m.claim w.claim) ms ≡ true
  held_up n m v in_ns in_ms same apart beside keep hold =
      let parts = and_parts (meets n.claim.reads v.claim.writes) (not (n.claim.seat == v.claim.seat) || (is_read_half n.claim && (n.claim.stamp == v.claim.stamp))) hold in
      elim (or_cases (not (n.claim.seat == v.claim.seat)) (is_read_half n.claim && (n.claim.stamp == v.claim.stamp)) parts.1) [
        | inl other ↦ of_other parts.0 other
        | inr own ↦ of_own parts.0 (and_parts (is_read_half n.claim) (n.claim.stamp == v.claim.stamp) own)
      ]
    where
      of_other : meets n.claim.reads v.claim.writes ≡ true → not (n.claim.seat == v.claim.seat) ≡ true → list_any (λ w. may_keep r w && can_hold_up m.claim w.claim) ms ≡ true
      of_other meet other =
          let h = there v beside in
          any_among (λ w. may_keep r w && can_hold_up m.claim w.claim) ms h.like h.there
          (and_from _ _ (sym (keeps r v h.like h.same) ∙ keep)
          (and_from _ _ ((λ i. meets (sym same.reads i) (sym h.same.writes i)) ∙ meet)
          (or_left _ _ ((λ i. not (sym same.seat i == sym h.same.seat i)) ∙ other))))

      of_own : meets n.claim.reads v.claim.writes ≡ true → (is_read_half n.claim ≡ true) × ((n.claim.stamp == v.claim.stamp) ≡ true) → list_any (λ w. may_keep r w && can_hold_up m.claim w.claim) ms ≡ true
      of_own meet own =
          both_cases (n.claim.seat == v.claim.seat)
          (λ one.
          let half : is_read_half m.claim ≡ true = (λ i. is_upgrade (sym same.kind i) && not (sym same.half i)) ∙ own.0 in
          let w = there_sound.write_of m in_ms half in
          let k = and_parts (v.claim.write_half && not (v.claim.seat == r.seat)) (conflicts v.claim r) keep in
          let l = and_parts v.claim.write_half (not (v.claim.seat == r.seat)) k.0 in
          let written = here_sound.writes_it n v in_ns own.0 beside l.0 (sym (eqb-true n.claim.seat v.claim.seat one)) (sym (eqb-true n.claim.stamp v.claim.stamp own.1)) in
          let writes : w.0.claim.writes ≡ v.claim.writes = w.5 ∙ sym same.reads ∙ sym written in
          any_among (λ w. may_keep r w && can_hold_up m.claim w.claim) ms w.0 w.1
          (and_from _ _ (and_from _ _ (and_from _ _ w.2 ((λ i. not ((w.3 ∙ sym same.seat) i == r.seat)) ∙ apart)) (conflict_by_writes r v.claim w.0.claim none writes k.1))
          (and_from _ _ ((λ i. meets (sym same.reads i) (writes i)) ∙ meet)
          (or_right _ _ (and_from _ _ half (eq-eqb m.claim.stamp w.0.claim.stamp (sym w.4)))))))
          (λ apart'. of_other meet (ap not apart'))

  delay_carried : (n m : Needed) → Among n ns → Among m ms → SameClaim n.claim m.claim → may_delay ns r n ≡ true → may_delay ms r m ≡ true
  delay_carried n m in_ns in_ms same delays =
      let parts = and_parts (not (n.claim.seat == r.seat)) (list_any (λ v. may_keep r v && can_hold_up n.claim v.claim) ns) delays in
      let v = passing (λ v. may_keep r v && can_hold_up n.claim v.claim) ns parts.1 in
      let both = and_parts (may_keep r v.0) (can_hold_up n.claim v.0.claim) v.2 in
      and_from _ _ ((λ i. not (sym same.seat i == r.seat)) ∙ parts.0) (held_up n m v.0 in_ns in_ms same parts.0 v.1 both.0 both.1)

module _ (tasks : ℕ) (ns ms : List Needed) (there : HasAll ms ns) (here : HasAll ns ms) (here_sound : AreSound ns tasks) (there_sound : AreSound ms tasks) where
  -- *The bound of a read wait is the same*
  pub read_same : (c d : Claim) → c.writes ≡ empty → SameClaim c d → read_bound ns c ≡ read_bound ms d
  read_same c d none same =
      (λ i. record {
        reads = one_if (some i);
        writes = one_if (any_same ns ms there here (may_keep c) (keeps c) i);
        units = greatest_same ns ms there here (may_keep c) (keeps c) i + most i;
      })
      ∙ (λ i. read_bound ms (record { stamp = c.stamp; seat = same.seat i; kind = same.kind i; write_half = same.half i; reads = same.reads i; writes = same.writes i; places = same.places i }))
    where
      onward : (n m : Needed) → Among n ns → Among m ms → SameClaim n.claim m.claim → may_delay ns c n ≡ true → may_delay ms c m ≡ true
      onward = delay_carried tasks ns ms there here_sound there_sound c none

      backward : (n m : Needed) → Among n ms → Among m ns → SameClaim n.claim m.claim → may_delay ms c n ≡ true → may_delay ns c m ≡ true
      backward = delay_carried tasks ms ns here there_sound here_sound c none

      some : list_any (may_delay ns c) ns ≡ list_any (may_delay ms c) ms
      some = same_test _ _ (any_carried ns ms (may_delay ns c) (may_delay ms c) there onward) (any_carried ms ns (may_delay ms c) (may_delay ns c) here backward)

      most : greatest (may_delay ns c) ns ≡ greatest (may_delay ms c) ms
      most = le_antisymm (greatest_carried ns ms (may_delay ns c) (may_delay ms c) there onward) (greatest_carried ms ns (may_delay ms c) (may_delay ns c) here backward)

  -- *The bound of a first wait is the same*
  pub first_same : (cap : ℕ) (c d : Claim) → (c.write_half ≡ false → c.writes ≡ empty) → SameClaim c d → bound_by ns tasks cap c ≡ bound_by ms tasks cap d
  first_same cap c d none same =
      both_cases c.write_half
      (λ write.
      (λ i. cond (write i) (write_bound ns tasks cap c) (read_bound ns c)) ∙ write_same ns ms there here tasks cap c d same
      ∙ (λ i. cond (sym (sym same.half ∙ write) i) (write_bound ms tasks cap d) (read_bound ms d)))
      (λ read.
      (λ i. cond (read i) (write_bound ns tasks cap c) (read_bound ns c)) ∙ read_same c d (none read) same
      ∙ (λ i. cond (sym (sym same.half ∙ read) i) (write_bound ms tasks cap d) (read_bound ms d)))
