-- The tables answer the bounds that are defined.
use Rattle.std.proofs.Common.{◌≡◌, ◌<◌, ◌≤◌, ◌+◌, ◌==◌, ◌⊎◌, ℕ, zero, suc, true, false, cond, List, [], ◌∷◌, ◌++◌, map, length, get_or, slice_get, Some, None, Result, Ok, Err, IfOk, IsTrue, refl, sym, ap, subst, ◌∙◌, inl, inr, arith}
use Rattle.std.specs.List.{list_any, range_with_len}
use Rattle.std.specs.FinSet.{empty, contains, intersection}
use Rattle.std.proofs.lemmas.List.FromFn.{get_or-map-range_with_len}
use Rattle.std.specs.declared.vec.Vec.{Vec}
use Rattle.std.specs.declared.alloc.Global.{Global}
use Rattle.rset.specs.Sets.{Set, rising, all_below}
use Rattle.rset.specs.declared.TheConstants.{RESOURCES}
use Rattle.rset.proofs.SetLemmas.{rising_head_member, rising_head_below, rising_has}
use Rattle.rclaim.specs.declared.claim.Claim.{Claim}
use Rattle.rmodel.specs.WellFormed.{Among}
use Rattle.rmodel.proofs.ListFacts.{all_at}
use Rattle.rbound.specs.Needs.{Needed}
use Rattle.rbound.specs.Bounds.{numbers_in, no_wait, write_bound, read_bound, ask_bound, reads_of, writes_of, units_of}
use Rattle.rbound.specs.Longest.{one_of_each}
use Rattle.rbound.specs.ZoneRows.{numbers_of}
use Rattle.rbound.specs.declared.bound.Bound.{Bound}
use Rattle.rbound.specs.declared.rows.ZoneRows.{ZoneRows}
use Rattle.rbound.proofs.LongestClaims.{read_is, ask_is}
use Rattle.rbound.proofs.ZoneRowFacts.{numbers_are}
use Rattle.rbound_table.specs.Tables.{key_of}
use Rattle.rbound_table.specs.Lengths.{rows_in}
use Rattle.rbound_table.specs.PlaceZones.{zone_at}
use Rattle.rbound_table.specs.TableRows.{AreTableRows}
use Rattle.rbound_table.specs.Answers.{AreZoneBounds, StandsAt, AreAnswers, bound_at, bound_in_zone, bound_by_place, write_answer, read_answer, ask_answer}
use Rattle.rbound_table.specs.declared.table.Key.TheVariants.{WritePlaces}
use Rattle.rbound_table.specs.declared.tables.Tables.{Tables}
use Rattle.rbound_table.specs.declared.answers.Answers.{Answers}
use Rattle.rbound_table.proofs.PlaceZoneFacts.{zone_has, zone_closed, same_zone, zone_by_place}
use Rattle.rbound_table.proofs.WaitFacts.{keepers, delayers, barrer_is}
use Rattle.rbound_table.proofs.ZoneFacts.{rows_are}

-- ---- while they are made

pub record HasWriteBounds (tables : Tables) (tasks cap : ℕ) (zones : List Set) (writes : List (Vec Bound Global)) (n : ℕ) : Type 0 where
  pub long : length writes ≡ n
  pub each : (l : ℕ) (bounds : Vec Bound Global) → slice_get writes l ≡ Some bounds → StandsAt tables tasks cap (get_or zones l empty) l bounds.items

get_push : {X : Type 0} (xs : List X) (x : X) (l : ℕ) (y : X) → slice_get (xs ++ x ∷ []) l ≡ Some y → (slice_get xs l ≡ Some y) ⊎ ((l ≡ length xs) × (x ≡ y))
get_push [] x zero y at = inr (refl, cc)
get_push [] x (suc l) y at = absurd cc
get_push (z ∷ xs) x zero y at = inl at
get_push (z ∷ xs) x (suc l) y at = elim (get_push xs x l y at) [ inl there ↦ inl there | inr last ↦ inr (ap suc last.0, last.1) ]

pub no_bounds : (tables : Tables) (tasks cap : ℕ) (zones : List Set) (writes : List (Vec Bound Global)) → writes ≡ [] → HasWriteBounds tables tasks cap zones writes 0
no_bounds tables tasks cap zones writes none = subst (λ (ws : List (Vec Bound Global)). HasWriteBounds tables tasks cap zones ws 0) (sym none) (record { long = refl; each = λ l bounds at. absurd (nowhere l bounds at) })
  where
    nowhere : (l : ℕ) (bounds : Vec Bound Global) → slice_get [] l ≡ Some bounds → ⊥
    nowhere l bounds at = cc

pub bounds_put : (tables : Tables) (tasks cap : ℕ) (zones : List Set) (old new : List (Vec Bound Global)) (n : ℕ) (bounds : Vec Bound Global) (zone : Set) → HasWriteBounds tables tasks cap zones old n → new ≡ old ++ bounds ∷ []
    → zone ≡ get_or zones n empty → StandsAt tables tasks cap zone n bounds.items → HasWriteBounds tables tasks cap zones new (n + 1)
bounds_put tables tasks cap zones old new n bounds zone so is zoned stands = subst (λ (ws : List (Vec Bound Global)). HasWriteBounds tables tasks cap zones ws (n + 1)) (sym is) (record {
  long = longer_by old so.long;
  each = λ l other at. elim (get_push old bounds l other at) [
    | inl there ↦ so.each l other there
    | inr last ↦ subst (λ (v : Vec Bound Global). StandsAt tables tasks cap (get_or zones l empty) l v.items) last.1
        (subst (λ (k : ℕ). StandsAt tables tasks cap (get_or zones k empty) k bounds.items) (sym (last.0 ∙ so.long)) (subst (λ (z : Set). StandsAt tables tasks cap z n bounds.items) zoned stands))
  ];
})
  where
    length_push : (xs : List (Vec Bound Global)) (x : Vec Bound Global) → length (xs ++ x ∷ []) ≡ length xs + 1
    length_push [] x = refl
    length_push (y ∷ xs) x = let rest : length (xs ++ x ∷ []) ≡ length xs + 1 = length_push xs x in omega arith

    longer_by : (xs : List (Vec Bound Global)) → length xs ≡ n → length (xs ++ bounds ∷ []) ≡ n + 1
    longer_by xs h = let l : length (xs ++ bounds ∷ []) ≡ length xs + 1 = length_push xs bounds in omega arith

-- one of some bounds
pub nth_is : (bounds : List Bound) (i : ℕ) (b : Bound) → i < length bounds → b ≡ get_or bounds i b → numbers_in b ≡ get_or (map numbers_in bounds) i no_wait
nth_is [] i b h is = absurd (omega arith)
nth_is (c ∷ bounds) zero b h is = ap numbers_in is
nth_is (c ∷ bounds) (suc i) b h is = nth_is bounds i b (omega arith) is

pub nth_none : (bounds : List Bound) (i : ℕ) → length bounds ≤ i → no_wait ≡ get_or (map numbers_in bounds) i no_wait
nth_none [] i h = refl
nth_none (c ∷ bounds) zero h = absurd (omega arith)
nth_none (c ∷ bounds) (suc i) h = nth_none bounds i (omega arith)

pub vec_at : (writes : List (Vec Bound Global)) (i : ℕ) (v : Vec Bound Global) → i < length writes → v ≡ get_or writes i v → slice_get writes i ≡ Some v
vec_at [] i v h is = absurd (omega arith)
vec_at (w ∷ writes) zero v h is = ap (λ u. Some u) (sym is)
vec_at (w ∷ writes) (suc i) v h is = vec_at writes i v (omega arith) is

pub no_vec : (writes : List (Vec Bound Global)) (i : ℕ) → length writes ≤ i → slice_get writes i ≡ None
no_vec [] i h = refl
no_vec (w ∷ writes) zero h = absurd (omega arith)
no_vec (w ∷ writes) (suc i) h = no_vec writes i (omega arith)

-- ---- what they answer

-- the first of a list
head_is : {X : Type 0} (xs : List X) (x : X) → slice_get xs 0 ≡ Some x → (rest : List X) × (xs ≡ x ∷ rest)
head_is [] x at = absurd cc
head_is (y ∷ xs) x at = (xs, let same : y ≡ x = cc in ap (λ z. z ∷ xs) same)

head_some : {X : Type 0} (xs : List X) → ((xs ≡ []) → ⊥) → (x : X) × (slice_get xs 0 ≡ Some x)
head_some [] some = absurd (some refl)
head_some (x ∷ xs) some = (x, refl)

vec_there : (writes : List (Vec Bound Global)) (l : ℕ) → l < length writes → (v : Vec Bound Global) × (slice_get writes l ≡ Some v)
vec_there [] l h = absurd (omega arith)
vec_there (v ∷ writes) zero h = (v, refl)
vec_there (v ∷ writes) (suc l) h = vec_there writes l (omega arith)

module _ (ns : List Needed) (tasks : ℕ) (a : Answers) (so : AreAnswers ns tasks a) where
  -- a set with a member below the number of resources has a first one
  first_of : (s : Set) (l : ℕ) → all_below RESOURCES s ≡ true → contains s l ≡ true → (f : ℕ) × (slice_get (rising s) 0 ≡ Some f) × (contains s f ≡ true) × (f < RESOURCES)
  first_of s l below has =
      let there = rising_has s below l ∙ has in
      let f = head_some (rising s) (λ none. absurd (nothing (sym (ap (λ xs. list_any (λ y. y == l) xs) none) ∙ there))) in
      let h = head_is (rising s) f.0 f.1 in
      (f.0, f.1, rising_head_member s f.0 h.0 h.1, rising_head_below s f.0 h.0 h.1)
    where
      nothing : false ≡ true → ⊥
      nothing e = cc

  zone_here : (l : ℕ) → l < RESOURCES → get_or a.zones.items l empty ≡ zone_at ns l
  zone_here l within = ap (λ zs. get_or zs l empty) so.zones ∙ get_or-map-range_with_len (zone_at ns) 0 RESOURCES l l empty within (omega arith)

  zone_below : (l : ℕ) → l < RESOURCES → all_below RESOURCES (zone_at ns l) ≡ true
  zone_below l within =
      let v = vec_there a.writes.items l (omega (arith, so.writes.long, within)) in
      ap (all_below RESOURCES) (sym (zone_here l within)) ∙ (so.writes.each l v.0 v.1).below

  -- in a zone
  in_zone : (l t : ℕ) → l < RESOURCES → t < tasks
      → bound_in_zone a.writes.items t (slice_get (rising (zone_at ns l)) 0)
      ≡ record { reads = reads_of ns tasks a.cap t (zone_at ns l); writes = writes_of ns tasks a.cap t (zone_at ns l); units = units_of ns tasks a.cap t (zone_at ns l) }
  in_zone l t within some =
      let f = first_of (zone_at ns l) l (zone_below l within) (zone_has ns l) in
      let same : zone_at ns l ≡ zone_at ns f.0 = same_zone ns l f.0 f.2 in
      let there : get_or a.zones.items f.0 empty ≡ zone_at ns l = zone_here f.0 f.3 ∙ sym same in
      let v = vec_there a.writes.items f.0 (omega (arith, so.writes.long, f.3)) in
      let bounds = (so.writes.each f.0 v.0 v.1).least (ap (λ z. slice_get (rising z) 0) there ∙ f.1) in
      let bounds' : AreZoneBounds so.tables tasks a.cap (zone_at ns l) v.0.items = subst (λ (z : Set). AreZoneBounds so.tables tasks a.cap z v.0.items) there bounds in
      ap (bound_in_zone a.writes.items t) f.1
      ∙ ap (λ o. bound_at o t) v.1
      ∙ ap (λ numbers. get_or numbers t no_wait) bounds'.numbers
      ∙ get_or-map-range_with_len (numbers_of bounds'.rows tasks a.cap) 0 tasks t t no_wait some (omega arith)
      ∙ numbers_are ns tasks so.sound.seats (zone_at ns l) bounds'.rows (rows_are ns tasks so.sound so.tables so.are (zone_at ns l) (zone_closed ns l) bounds'.below bounds'.rows bounds'.are) a.cap t

  pub writes_answered : (n : Needed) → Among n ns → n.claim.write_half ≡ true → write_answer a n.claim.seat n.claim.places ≡ write_bound ns tasks a.cap n.claim
  writes_answered n there write =
      let some = all_at (λ (m : Needed). m.claim.seat < tasks) ns n so.sound.seats there in
      let key = all_at (λ (m : Needed). IsTrue (all_below RESOURCES (key_of WritePlaces m))) ns n so.are.write_places.below there in
      let below : all_below RESOURCES n.claim.places ≡ true = ap (λ b. all_below RESOURCES (cond b n.claim.places empty)) (sym write) ∙ key in
      let p = so.sound.place n there in
      let f = first_of n.claim.places p.0 below p.1 in
      ap (bound_by_place a.zones.items a.writes.items n.claim.seat) f.1
      ∙ ap (λ z. bound_in_zone a.writes.items n.claim.seat (slice_get (rising z) 0)) (zone_here f.0 f.3)
      ∙ in_zone f.0 n.claim.seat f.3 some
      ∙ ap (λ z. record { reads = reads_of ns tasks a.cap n.claim.seat z; writes = writes_of ns tasks a.cap n.claim.seat z; units = units_of ns tasks a.cap n.claim.seat z }) (sym (zone_by_place ns n f.0 there f.2))

  pub reads_answered : (r : Claim) → r.seat < tasks → r.writes ≡ empty → all_below RESOURCES r.reads ≡ true → read_answer a r ≡ read_bound ns r
  reads_answered r some none below =
      (λ i. one_of_each (keepers ns tasks so.sound so.tables so.are r.seat some r refl none below (rows_in a.lengths.keeps.items) so.lengths.keeps i) (delayers ns tasks so.sound so.tables so.are r.seat some r refl none below (rows_in a.lengths.delays.items) so.lengths.delays i))
      ∙ read_is ns r

  pub asks_answered : (c : Claim) (part : Set) → c.seat < tasks → all_below RESOURCES (intersection part c.writes) ≡ true → ask_answer a c part ≡ ask_bound ns c part
  asks_answered c part some below =
      ap (one_of_each None) (barrer_is ns tasks so.sound so.tables so.are c.seat some (rows_in a.lengths.bars.items) so.lengths.bars (intersection part c.writes) below) ∙ ask_is ns c part

-- ---- made from parts

pub zone_bounds : {T E : Type 0} (r : Result T E) (f : T → List Bound) (tables : Tables) (tasks cap l : ℕ) (zone : Set) (rows : ZoneRows) → slice_get (rising zone) 0 ≡ Some l → IsTrue (all_below RESOURCES zone) → AreTableRows tables tasks zone rows
    → IfOk r (λ bs. map numbers_in (f bs) ≡ map (numbers_of rows tasks cap) (range_with_len 0 tasks)) → IfOk r (λ bs. StandsAt tables tasks cap zone l (f bs))
zone_bounds (Ok bs) f tables tasks cap l zone rows at below are is = record {
  below = below;
  least = λ _. record { rows = rows; are = are; below = below; numbers = is };
  else_none = λ other. absurd (other at);
}
zone_bounds (Err e) f tables tasks cap l zone rows at below are is = tt

pub same_answers : (a : Answers) (ms ns : List Needed) (many tasks : ℕ) → ms ≡ ns → many ≡ tasks → AreAnswers ms many a → AreAnswers ns tasks a
same_answers a ms ns many tasks same all so = subst (λ (t : ℕ). AreAnswers ns t a) all (subst (λ (ls : List Needed). AreAnswers ls many a) same so)
