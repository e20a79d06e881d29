-- A table stays a table of its shapes, as it grows.
use Rattle.std.proofs.Common.{◌≡◌, ◌<◌, ◌≤◌, ◌+◌, ◌==◌, ◌⊎◌, ℕ, zero, suc, Bool, true, false, cond, List, [], ◌∷◌, ◌++◌, map, length, slice_get, slice_index, slice_index_or, slice_set, Some, Result, Ok, Err, OnOk, OnErr, IsTrue, refl, sym, ap, subst, ◌∙◌, inl, inr, arith, length-append, length-set}
use Rattle.std.specs.List.{list_any, AllByRecursion}
use Rattle.std.proofs.lemmas.Bool.{or_left, or_right}
use Rattle.std.proofs.lemmas.Bool.Decides.{eqb_tells}
use Rattle.rset.specs.Sets.{Set}
use Rattle.rclaim.specs.Requests.{RequestFields}
use Rattle.rmodel.specs.Claims.{is_nested}
use Rattle.rmodel.proofs.ListFacts.{all_append, contrary}
use Rattle.rbound.specs.Needs.{RequestNeeds}
use Rattle.rbound.specs.TaskNeeds.{requests_of}
use Rattle.rbound.proofs.RequestVectors.{map_push, length_map}
use Rattle.rbound_history.specs.Shapes.{Shape, has_shape, with_shape, with_shape_ask, taken_over, task_at, is_nested_at}
use Rattle.rbound_history.specs.ShapeNeeds.{number_before, requests_of_shapes, needs_of_shapes}
use Rattle.rbound_history.specs.Histories.{AreDifferent}
use Rattle.rbound_history.specs.ShapeKeys.{key_of}
use Rattle.rbound_history.specs.Kept.{shape_in, shapes_in, may_ask, IsTable}
use Rattle.rbound_history.specs.declared.shape_key.ShapeKey.{ShapeKey}
use Rattle.rbound_history.specs.declared.table.Entry.{Entry}
use Rattle.rbound_history.specs.declared.table.Table.{Table}
use Rattle.rbound_history.proofs.ShapesGrow.{still_different}
use Rattle.rbound_history.proofs.ShapesAsk.{ask_different}
use Rattle.rbound_history.proofs.ShapeRequests.{some_none, request_of, requests_at, placed}
use Rattle.rbound_history.proofs.TableFacts.{new_shape, new_behind, number_by, task_by, number_is, task_is, before_last, at_last, set_there, set_elsewhere}

-- ---- the same keys

tasks_by : (n : ℕ) (ss : List Shape) → AllByRecursion (λ (s : Shape). s.task < n) ss → AllByRecursion (λ (k : ShapeKey). k.task < n) (map key_of ss)
tasks_by n [] all = tt
tasks_by n (s ∷ ss) all = (all.0, tasks_by n ss all.1)

by_tasks : (n : ℕ) (ss : List Shape) → AllByRecursion (λ (k : ShapeKey). k.task < n) (map key_of ss) → AllByRecursion (λ (s : Shape). s.task < n) ss
by_tasks n [] all = tt
by_tasks n (s ∷ ss) all = (all.0, by_tasks n ss all.1)

module _ (t u : Table) where
  abbrev after : List Shape
  after = shapes_in u.entries.items

  abbrev before : List Shape
  before = shapes_in t.entries.items

  -- *A table whose shapes change only in their lengths and asks*
  pub still_table : IsTable t → u.keys.keys ≡ t.keys.keys → u.numbers.items ≡ t.numbers.items → u.counts.items ≡ t.counts.items → map key_of after ≡ map key_of before
      → AreDifferent after → AllByRecursion (λ (s : Shape). IsTrue (may_ask s)) after → IsTable u
  still_table is keys numbers counts same different asks = record {
    keys = keys ∙ is.keys ∙ sym same;
    different = different;
    tasks =
        by_tasks (length u.counts.items) after
        (subst (λ (ks : List ShapeKey). AllByRecursion (λ (k : ShapeKey). k.task < length u.counts.items) ks) (sym same)
        (subst (λ (cs : List ℕ). AllByRecursion (λ (k : ShapeKey). k.task < length cs) (map key_of before)) (sym counts) (tasks_by (length t.counts.items) before is.tasks)));
    asks = asks;
    long = ap length numbers ∙ is.long ∙ sym long;
    numbers = λ place some.
        let some' : place < length t.entries.items = omega (arith, some, long) in
        ap (λ xs. slice_index xs place) numbers ∙ is.numbers place some'
        ∙ number_is before (task_at before place) place
        ∙ (λ i. number_by (sym same i) ((task_is before place ∙ ap (λ ks. task_by ks place) (sym same) ∙ sym (task_is after place)) i) place)
        ∙ sym (number_is after (task_at after place) place);
    counts = λ task some.
        let some' : task < length t.counts.items = omega (arith, some, ap length counts) in
        ap (λ xs. slice_index xs task) counts ∙ is.counts task some'
        ∙ number_is before task (length t.entries.items)
        ∙ (λ i. number_by (sym same i) task (sym long i))
        ∙ sym (number_is after task (length u.entries.items));
  }
    where
      long : length u.entries.items ≡ length t.entries.items
      long = sym (length_map shape_in u.entries.items) ∙ sym (length_map key_of after) ∙ ap length same ∙ length_map key_of before ∙ length_map shape_in t.entries.items

taken_keys : (ss : List Shape) (place : ℕ) (r : RequestFields) → map key_of (taken_over ss place r) ≡ map key_of ss
taken_keys [] place r = refl
taken_keys (s ∷ ss) zero r = refl
taken_keys (s ∷ ss) (suc place) r = ap (λ ks. key_of s ∷ ks) (taken_keys ss place r)

taken_asks : (ss : List Shape) (place : ℕ) (r : RequestFields) → AllByRecursion (λ (s : Shape). IsTrue (may_ask s)) ss → AllByRecursion (λ (s : Shape). IsTrue (may_ask s)) (taken_over ss place r)
taken_asks [] place r all = tt
taken_asks (s ∷ ss) zero r all = (all.0, all.1)
taken_asks (s ∷ ss) (suc place) r all = (all.0, taken_asks ss place r all.1)

-- a known shape took over a request
pub table_taken : (t u : Table) (task place : ℕ) (r : RequestFields) → IsTable t → u.keys.keys ≡ t.keys.keys → u.numbers.items ≡ t.numbers.items → u.counts.items ≡ t.counts.items
    → shapes_in u.entries.items ≡ taken_over (shapes_in t.entries.items) place r → taken_over (shapes_in t.entries.items) place r ≡ with_shape (shapes_in t.entries.items) task r → IsTable u
table_taken t u task place r is keys numbers counts shapes taken =
    still_table t u is keys numbers counts (ap (map key_of) shapes ∙ taken_keys (shapes_in t.entries.items) place r)
    (subst (λ (ss : List Shape). AreDifferent ss) (sym (shapes ∙ taken)) (still_different (shapes_in t.entries.items) task (record { request = r; asks = [] }) is.different))
    (subst (λ (ss : List Shape). AllByRecursion (λ (s : Shape). IsTrue (may_ask s)) ss) (sym shapes) (taken_asks (shapes_in t.entries.items) place r is.asks))

-- ---- a new shape

none_asked : (task : ℕ) (r : RequestFields) → IsTrue (may_ask (new_shape task r))
none_asked task r = or_right (is_nested r.kind) true refl

number_push : (ss : List Shape) (s : Shape) (task place : ℕ) → place ≤ length ss → number_before (ss ++ s ∷ []) task place ≡ number_before ss task place
number_push [] s task zero h = refl
number_push [] s task (suc place) h = absurd (omega arith)
number_push (x ∷ ss) s task zero h = refl
number_push (x ∷ ss) s task (suc place) h = ap (λ n. cond (x.task == task) (suc n) n) (number_push ss s task place (omega arith))

number_all : (ss : List Shape) (s : Shape) (task : ℕ) → number_before (ss ++ s ∷ []) task (suc (length ss)) ≡ cond (s.task == task) (suc (number_before ss task (length ss))) (number_before ss task (length ss))
number_all [] s task = refl
number_all (x ∷ ss) s task = ap (λ n. cond (x.task == task) (suc n) n) (number_all ss s task) ∙ swapped (x.task == task) (s.task == task) (number_before ss task (length ss))
  where
    swapped : (a b : Bool) (n : ℕ) → cond a (suc (cond b (suc n) n)) (cond b (suc n) n) ≡ cond b (suc (cond a (suc n) n)) (cond a (suc n) n)
    swapped true true n = refl
    swapped true false n = refl
    swapped false true n = refl
    swapped false false n = refl

task_push : (ss : List Shape) (s : Shape) (place : ℕ) → place < length ss → task_at (ss ++ s ∷ []) place ≡ task_at ss place
task_push [] s place h = absurd (omega arith)
task_push (x ∷ ss) s zero h = refl
task_push (x ∷ ss) s (suc place) h = task_push ss s place (omega arith)

task_last : (ss : List Shape) (s : Shape) → task_at (ss ++ s ∷ []) (length ss) ≡ s.task
task_last [] s = refl
task_last (x ∷ ss) s = task_last ss s

pub number_small : (ss : List Shape) (task place : ℕ) → number_before ss task place ≤ place
number_small [] task place = omega arith
number_small (s ∷ ss) task zero = omega arith
number_small (s ∷ ss) task (suc place) = at (s.task == task) (number_small ss task place)
  where
    at : (b : Bool) → number_before ss task place ≤ place → cond b (suc (number_before ss task place)) (number_before ss task place) ≤ suc place
    at true h = omega arith
    at false h = omega arith

same_or_less : (a b : ℕ) → a < b + 1 → (a < b) ⊎ (a ≡ b)
same_or_less a b h = elim (eqb_tells a b) [
  | inl same ↦ inr same.1
  | inr other ↦ let apart : a ≡ b → ⊥ = other.1 in inl (omega (arith, h))
]

module _ (t u : Table) (task : ℕ) (r : RequestFields) (is : IsTable t) (there : task < length t.counts.items) (unknown : list_any (has_shape task r) (shapes_in t.entries.items) ≡ false)
    (keys : u.keys.keys ≡ t.keys.keys ++ key_of (new_shape task r) ∷ []) (shapes : shapes_in u.entries.items ≡ shapes_in t.entries.items ++ new_shape task r ∷ [])
    (numbers : u.numbers.items ≡ t.numbers.items ++ slice_index t.counts.items task ∷ []) (counts : u.counts.items ≡ slice_set t.counts.items task (slice_index t.counts.items task + 1)) where
  abbrev ts : List Shape
  ts = shapes_in t.entries.items

  abbrev s : Shape
  s = new_shape task r

  kept_long : length ts ≡ length t.entries.items
  kept_long = length_map shape_in t.entries.items

  longer : length u.entries.items ≡ length ts + 1
  longer = sym (length_map shape_in u.entries.items) ∙ ap length shapes ∙ length-append ts (s ∷ [])

  as_many : length u.counts.items ≡ length t.counts.items
  as_many = ap length counts ∙ length-set t.counts.items task (slice_index t.counts.items task + 1)

  numbered : (place : ℕ) → place < length u.entries.items → slice_index u.numbers.items place ≡ number_before (shapes_in u.entries.items) (task_at (shapes_in u.entries.items) place) place
  numbered place some = ap (λ xs. slice_index xs place) numbers ∙ at (same_or_less place (length ts) (omega (arith, some, longer))) ∙ (λ i. number_before (sym shapes i) (task_at (sym shapes i) place) place)
    where
      at : (place < length ts) ⊎ (place ≡ length ts) → slice_index (t.numbers.items ++ slice_index t.counts.items task ∷ []) place ≡ number_before (ts ++ s ∷ []) (task_at (ts ++ s ∷ []) place) place
      at (inl old) =
          let some : place < length t.entries.items = omega (arith, old, kept_long) in
          let in_numbers : place < length t.numbers.items = omega (arith, some, is.long) in
          before_last t.numbers.items (slice_index t.counts.items task) place in_numbers ∙ is.numbers place some
          ∙ sym (number_push ts s (task_at ts place) place (omega arith))
          ∙ ap (λ k. number_before (ts ++ s ∷ []) k place) (sym (task_push ts s place old))
      at (inr new) =
          let last : place ≡ length t.numbers.items = omega (arith, new, kept_long, is.long) in
          ap (slice_index (t.numbers.items ++ slice_index t.counts.items task ∷ [])) last ∙ at_last t.numbers.items (slice_index t.counts.items task) ∙ is.counts task there
          ∙ ap (number_before ts task) (sym kept_long)
          ∙ sym (number_push ts s task (length ts) (omega arith))
          ∙ (λ i. number_before (ts ++ s ∷ []) (sym (task_last ts s) i) (length ts))
          ∙ (λ i. number_before (ts ++ s ∷ []) (task_at (ts ++ s ∷ []) (sym new i)) (sym new i))

  counted : (k : ℕ) → k < length u.counts.items → slice_index u.counts.items k ≡ number_before (shapes_in u.entries.items) k (length u.entries.items)
  counted k some =
      ap (λ xs. slice_index xs k) counts ∙ at (eqb_tells task k)
      ∙ sym (number_all ts s k) ∙ (λ i. number_before (sym shapes i) k (sym more i))
    where
      more : length u.entries.items ≡ suc (length ts)
      more = omega (arith, longer)

      old : k < length t.counts.items → slice_index t.counts.items k ≡ number_before ts k (length ts)
      old some = is.counts k some ∙ ap (number_before ts k) (sym kept_long)

      at : ((task == k) ≡ true) × (task ≡ k) ⊎ ((task == k) ≡ false) × (task ≡ k → ⊥) → slice_index (slice_set t.counts.items task (slice_index t.counts.items task + 1)) k ≡ cond (task == k) (suc (number_before ts k (length ts))) (number_before ts k (length ts))
      at (inl same) =
          let one : slice_index t.counts.items task + 1 ≡ suc (slice_index t.counts.items task) = omega arith in
          ap (slice_index (slice_set t.counts.items task (slice_index t.counts.items task + 1))) (sym same.1)
          ∙ set_there t.counts.items task (slice_index t.counts.items task + 1) there ∙ one
          ∙ ap suc (ap (slice_index t.counts.items) same.1 ∙ old (omega (arith, some, as_many)))
          ∙ ap (λ b. cond b (suc (number_before ts k (length ts))) (number_before ts k (length ts))) (sym same.0)
      at (inr other) =
          set_elsewhere t.counts.items task k (slice_index t.counts.items task + 1) (λ e. other.1 (sym e)) ∙ old (omega (arith, some, as_many))
          ∙ ap (λ b. cond b (suc (number_before ts k (length ts))) (number_before ts k (length ts))) (sym other.0)

  -- *A table with a new shape after the others*
  pub table_pushed : IsTable u
  table_pushed = record {
    keys = keys ∙ ap (λ ks. ks ++ key_of s ∷ []) is.keys ∙ sym (map_push key_of ts s) ∙ ap (map key_of) (sym shapes);
    different = subst (λ (ss : List Shape). AreDifferent ss) (new_behind ts task r unknown ∙ sym shapes) (still_different ts task (record { request = r; asks = [] }) is.different);
    tasks =
        subst (λ (ss : List Shape). AllByRecursion (λ (x : Shape). x.task < length u.counts.items) ss) (sym shapes)
        (subst (λ (n : ℕ). AllByRecursion (λ (x : Shape). x.task < n) (ts ++ s ∷ [])) (sym as_many) (all_append (λ (x : Shape). x.task < length t.counts.items) ts (s ∷ []) is.tasks (there, tt)));
    asks = (subst (λ (ss : List Shape). AllByRecursion (λ (x : Shape). IsTrue (may_ask x)) ss) (sym shapes) (all_append (λ (x : Shape). IsTrue (may_ask x)) ts (s ∷ []) is.asks (none_asked task r, tt)));
    long = ap length numbers ∙ length-append t.numbers.items (slice_index t.counts.items task ∷ []) ∙ ap (λ n. n + 1) (is.long ∙ sym kept_long) ∙ sym longer;
    numbers = numbered;
    counts = counted;
  }

-- ---- one more ask

asked_keys : (ss : List Shape) (place : ℕ) (part : Set) → map key_of (with_shape_ask ss place part) ≡ map key_of ss
asked_keys [] place part = refl
asked_keys (s ∷ ss) zero part = refl
asked_keys (s ∷ ss) (suc place) part = ap (λ ks. key_of s ∷ ks) (asked_keys ss place part)

asked_all : (ss : List Shape) (place : ℕ) (part : Set) → is_nested_at ss place ≡ true → AllByRecursion (λ (s : Shape). IsTrue (may_ask s)) ss → AllByRecursion (λ (s : Shape). IsTrue (may_ask s)) (with_shape_ask ss place part)
asked_all [] place part nested all = tt
asked_all (s ∷ ss) zero part nested all = (or_left (is_nested s.request.kind) _ nested, all.1)
asked_all (s ∷ ss) (suc place) part nested all = (all.0, asked_all ss place part nested all.1)

pub nested_there : (ss : List Shape) (place : ℕ) → is_nested_at ss place ≡ true → place < length ss
nested_there [] place nested = contrary false nested refl
nested_there (s ∷ ss) zero nested = omega arith
nested_there (s ∷ ss) (suc place) nested = let rest = nested_there ss place nested in omega (arith, rest)

-- a shape asked for one more set, or nothing changed
pub table_asked : {T E : Type 0} (result : Result T E) (t u : Table) (place : ℕ) (part : Set) → IsTable t → is_nested_at (shapes_in t.entries.items) place ≡ true
    → u.keys.keys ≡ t.keys.keys → u.numbers.items ≡ t.numbers.items → u.counts.items ≡ t.counts.items
    → OnOk result (shapes_in u.entries.items ≡ with_shape_ask (shapes_in t.entries.items) place part) → OnErr result (shapes_in u.entries.items ≡ shapes_in t.entries.items) → IsTable u
table_asked (Ok x) t u place part is nested keys numbers counts ok err =
    still_table t u is keys numbers counts (ap (map key_of) ok ∙ asked_keys (shapes_in t.entries.items) place part)
    (subst (λ (ss : List Shape). AreDifferent ss) (sym ok) (ask_different (shapes_in t.entries.items) place part is.different))
    (subst (λ (ss : List Shape). AllByRecursion (λ (s : Shape). IsTrue (may_ask s)) ss) (sym ok) (asked_all (shapes_in t.entries.items) place part nested is.asks))
table_asked (Err e) t u place part is nested keys numbers counts ok err =
    still_table t u is keys numbers counts (ap (map key_of) err)
    (subst (λ (ss : List Shape). AreDifferent ss) (sym err) is.different)
    (subst (λ (ss : List Shape). AllByRecursion (λ (s : Shape). IsTrue (may_ask s)) ss) (sym err) is.asks)

-- ---- places

pub entry_task : (es : List Entry) (i : ℕ) (x : Entry) → i < length es → x ≡ slice_index_or es i x → x.task ≡ task_at (shapes_in es) i
entry_task [] i x h is = absurd (omega arith)
entry_task (e ∷ es) zero x h is = ap (λ (z : Entry). z.task) is
entry_task (e ∷ es) (suc i) x h is = entry_task es i x (omega arith) is

pub task_below : (n : ℕ) (ss : List Shape) (place : ℕ) → AllByRecursion (λ (s : Shape). s.task < n) ss → place < length ss → task_at ss place < n
task_below n [] place all h = absurd (omega arith)
task_below n (s ∷ ss) zero all h = all.0
task_below n (s ∷ ss) (suc place) all h = task_below n ss place all.1 (omega arith)

shape_at : (ss : List Shape) (place : ℕ) → place < length ss → (s : Shape) × (slice_get ss place ≡ Some s) × (s.task ≡ task_at ss place)
shape_at [] place h = absurd (omega arith)
shape_at (s ∷ ss) zero h = (s, refl, refl)
shape_at (s ∷ ss) (suc place) h = shape_at ss place (omega arith)

got_within : {X : Type 0} (xs : List X) (k : ℕ) (x : X) → slice_get xs k ≡ Some x → k < length xs
got_within [] k x at = some_none (sym at)
got_within (y ∷ xs) zero x at = omega arith
got_within (y ∷ xs) (suc k) x at = let rest = got_within xs k x at in omega (arith, rest)

pub number_within : (n : ℕ) (ss : List Shape) (place : ℕ) → AllByRecursion (λ (s : Shape). s.task < n) ss → place < length ss
    → number_before ss (task_at ss place) place < length (requests_of (needs_of_shapes n ss) (task_at ss place))
number_within n ss place all h =
    let s = shape_at ss place h in
    let there = got_within (requests_of_shapes ss s.0.task) (number_before ss s.0.task place) (request_of s.0) (placed ss place s.0 s.1) in
    let task = task_below n ss place all h in
    subst (λ (xs : List RequestNeeds). number_before ss (task_at ss place) place < length xs) (sym (requests_at n ss (task_at ss place) task))
    (subst (λ (t : ℕ). number_before ss t place < length (requests_of_shapes ss t)) s.2 there)

pub any_default : (xs : List ℕ) (i d : ℕ) → i < length xs → slice_index_or xs i d ≡ slice_index xs i
any_default [] i d h = absurd (omega arith)
any_default (x ∷ xs) zero d h = refl
any_default (x ∷ xs) (suc i) d h = any_default xs i d (omega arith)
