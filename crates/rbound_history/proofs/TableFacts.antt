-- What a table of shapes becomes when its parts change.
use Rattle.std.proofs.Common.{◌≡◌, ◌<◌, ◌≤◌, ◌+◌, replicate, subst, ◌||◌, ◌==◌, not, ℕ, zero, suc, Bool, true, false, cond, List, [], ◌∷◌, ◌++◌, map, length, slice_get, slice_index, slice_index_or, slice_set, refl, sym, ap, ◌∙◌, inl, inr, arith}
use Rattle.std.specs.Prelude.{option_map, IsTrue}
use Rattle.std.specs.List.{list_any, position_or_len, AllByRecursion}
use Rattle.std.proofs.lemmas.Bool.{or_left, or_right}
use Rattle.rset.specs.Sets.{Set, equals}
use Rattle.rclaim.specs.Requests.{RequestFields}
use Rattle.rmodel.specs.WellFormed.{Among}
use Rattle.rmodel.proofs.ListFacts.{none_among, contrary}
use Rattle.rbound.proofs.RequestVectors.{map_push}
use Rattle.rbound_history.specs.Shapes.{Shape, has_shape, lengthened, joined, with_part, with_shape, shape_index, with_shape_ask, parts_of, is_shape_of, task_at, taken_over}
use Rattle.rbound_history.specs.ShapeNeeds.{number_before}
use Rattle.rbound_history.specs.Histories.{AreDifferent}
use Rattle.rbound_history.specs.ShapeKeys.{same_key, same_asked, key_of}
use Rattle.rbound_history.specs.Kept.{shape_in, shapes_in, may_ask, IsKept}
use Rattle.rbound_history.specs.Numbered.{insert_key}
use Rattle.rbound_history.specs.declared.shape_key.ShapeKey.{ShapeKey}
use Rattle.rbound_history.specs.declared.shape_key.AskedSet.{AskedSet}
use Rattle.rbound_history.specs.declared.table.Entry.{Entry}
use Rattle.rbound_history.specs.declared.table.Table.{Table}
use Rattle.rbound_history.proofs.ShapesGrow.{both_of}

-- ---- lists

any_map : {X Y : Type 0} (f : X → Y) (p : Y → Bool) (xs : List X) → list_any p (map f xs) ≡ list_any (λ x. p (f x)) xs
any_map f p [] = refl
any_map f p (x ∷ xs) = ap (λ b. p (f x) || b) (any_map f p xs)

place_map : {X Y : Type 0} (f : X → Y) (p : Y → Bool) (xs : List X) → position_or_len p (map f xs) ≡ position_or_len (λ x. p (f x)) xs
place_map f p [] = refl
place_map f p (x ∷ xs) = ap (λ n. cond (not (p (f x))) (1 + n) 0) (place_map f p xs)

pub slice_map : {X Y : Type 0} (f : X → Y) (xs : List X) (i : ℕ) → slice_get (map f xs) i ≡ option_map f (slice_get xs i)
slice_map f [] i = refl
slice_map f (x ∷ xs) zero = refl
slice_map f (x ∷ xs) (suc i) = slice_map f xs i

pub before_last : (xs : List ℕ) (c i : ℕ) → i < length xs → slice_index (xs ++ c ∷ []) i ≡ slice_index xs i
before_last [] c i h = absurd (omega arith)
before_last (x ∷ xs) c zero h = refl
before_last (x ∷ xs) c (suc i) h = before_last xs c i (omega arith)

pub at_last : (xs : List ℕ) (c : ℕ) → slice_index (xs ++ c ∷ []) (length xs) ≡ c
at_last [] c = refl
at_last (x ∷ xs) c = at_last xs c

pub set_there : (xs : List ℕ) (i x : ℕ) → i < length xs → slice_index (slice_set xs i x) i ≡ x
set_there [] i x h = absurd (omega arith)
set_there (y ∷ ys) zero x h = refl
set_there (y ∷ ys) (suc i) x h = set_there ys i x (omega arith)

pub set_elsewhere : (xs : List ℕ) (i j x : ℕ) → (j ≡ i → ⊥) → slice_index (slice_set xs i x) j ≡ slice_index xs j
set_elsewhere [] i j x other = refl
set_elsewhere (y ∷ ys) zero zero x other = absurd (other refl)
set_elsewhere (y ∷ ys) zero (suc j) x other = refl
set_elsewhere (y ∷ ys) (suc i) zero x other = refl
set_elsewhere (y ∷ ys) (suc i) (suc j) x other = set_elsewhere ys i j x (λ same. other (ap suc same))

-- ---- a request among the shapes

-- the shape of a request that asks for nothing yet
abbrev pub new_shape : ℕ → RequestFields → Shape
new_shape task r = record { task = task; request = r; asks = [] }

pub known_there : (shapes : List Shape) (t : ℕ) (r : RequestFields) → list_any (has_shape t r) shapes ≡ true → is_shape_of (slice_get shapes (shape_index shapes t r)) t r ≡ true
known_there [] t r known = contrary false known refl
known_there (s ∷ ss) t r known = at (has_shape t r s) refl known (known_there ss t r)
  where
    next : (p : ℕ) → 1 + p ≡ suc p
    next p = omega arith

    at : (b : Bool) → has_shape t r s ≡ b → (b || list_any (has_shape t r) ss) ≡ true → (list_any (has_shape t r) ss ≡ true → is_shape_of (slice_get ss (shape_index ss t r)) t r ≡ true)
        → is_shape_of (slice_get (s ∷ ss) (cond (not b) (1 + shape_index ss t r) 0)) t r ≡ true
    at true has some rest = has
    at false apart some rest = ap (λ p. is_shape_of (slice_get (s ∷ ss) p) t r) (next (shape_index ss t r)) ∙ rest some

pub known_taken : (shapes : List Shape) (t : ℕ) (r : RequestFields) → list_any (has_shape t r) shapes ≡ true → taken_over shapes (shape_index shapes t r) r ≡ with_shape shapes t r
known_taken [] t r known = contrary false known refl
known_taken (s ∷ ss) t r known = at (has_shape t r s) known (known_taken ss t r)
  where
    next : (p : ℕ) → 1 + p ≡ suc p
    next p = omega arith

    at : (b : Bool) → (b || list_any (has_shape t r) ss) ≡ true → (list_any (has_shape t r) ss ≡ true → taken_over ss (shape_index ss t r) r ≡ with_shape ss t r)
        → taken_over (s ∷ ss) (cond (not b) (1 + shape_index ss t r) 0) r ≡ cond b (joined s (record { request = r; asks = [] }) ∷ ss) (s ∷ with_shape ss t r)
    at true some rest = refl
    at false some rest = ap (λ p. taken_over (s ∷ ss) p r) (next (shape_index ss t r)) ∙ ap (λ xs. s ∷ xs) (rest some)

pub new_behind : (shapes : List Shape) (t : ℕ) (r : RequestFields) → list_any (has_shape t r) shapes ≡ false → with_shape shapes t r ≡ shapes ++ new_shape t r ∷ []
new_behind [] t r unknown = refl
new_behind (s ∷ ss) t r unknown = at (has_shape t r s) unknown (new_behind ss t r)
  where
    at : (b : Bool) → (b || list_any (has_shape t r) ss) ≡ false → (list_any (has_shape t r) ss ≡ false → with_shape ss t r ≡ ss ++ new_shape t r ∷ [])
        → cond b (joined s (record { request = r; asks = [] }) ∷ ss) (s ∷ with_shape ss t r) ≡ s ∷ ss ++ new_shape t r ∷ []
    at true none rest = contrary true refl none
    at false none rest = ap (λ xs. s ∷ xs) (rest none)

pub hint_known : (shapes : List Shape) (p t : ℕ) (r : RequestFields) → is_shape_of (slice_get shapes p) t r ≡ true → list_any (has_shape t r) shapes ≡ true
hint_known [] p t r is = contrary false is refl
hint_known (s ∷ ss) zero t r is = or_left (has_shape t r s) _ is
hint_known (s ∷ ss) (suc p) t r is = or_right (has_shape t r s) _ (hint_known ss p t r is)

shape_there : (shapes : List Shape) (p t : ℕ) (r : RequestFields) → is_shape_of (slice_get shapes p) t r ≡ true → (x : Shape) × Among x shapes × (has_shape t r x ≡ true)
shape_there [] p t r is = contrary false is refl
shape_there (s ∷ ss) zero t r is = (s, inl refl, is)
shape_there (s ∷ ss) (suc p) t r is = let found = shape_there ss p t r is in (found.0, inr found.1, found.2)

-- *Where a request has the shape at a place, that is the place of its shape*
pub hint_place : (shapes : List Shape) (p t : ℕ) (r : RequestFields) → AreDifferent shapes → is_shape_of (slice_get shapes p) t r ≡ true → shape_index shapes t r ≡ p
hint_place [] p t r different is = contrary false is refl
hint_place (s ∷ ss) zero t r different is = ap (λ b. cond (not b) (1 + shape_index ss t r) 0) is
hint_place (s ∷ ss) (suc p) t r different is = at (has_shape t r s) refl (hint_place ss p t r different.1 is)
  where
    at : (b : Bool) → has_shape t r s ≡ b → shape_index ss t r ≡ p → cond (not b) (1 + shape_index ss t r) 0 ≡ suc p
    at true has rest =
        let x = shape_there ss p t r is in
        contrary (has_shape s.task s.request x.0) (both_of t r s x.0 has x.2) (none_among (has_shape s.task s.request) ss x.0 different.0 x.1)
    at false apart rest = omega (arith, rest)

-- ---- looked up by keys

pub known_by_keys : (shapes : List Shape) (keys : List ShapeKey) (t : ℕ) (r : RequestFields) → keys ≡ map key_of shapes → list_any (same_key (key_of (new_shape t r))) keys ≡ list_any (has_shape t r) shapes
known_by_keys shapes keys t r is = ap (list_any (same_key (key_of (new_shape t r)))) is ∙ any_map key_of (same_key (key_of (new_shape t r))) shapes

pub place_by_keys : (shapes : List Shape) (keys : List ShapeKey) (t : ℕ) (r : RequestFields) → keys ≡ map key_of shapes → position_or_len (same_key (key_of (new_shape t r))) keys ≡ shape_index shapes t r
place_by_keys shapes keys t r is = ap (position_or_len (same_key (key_of (new_shape t r)))) is ∙ place_map key_of (same_key (key_of (new_shape t r))) shapes

-- what the set of keys answers for a request
module _ (shapes : List Shape) (keys : List ShapeKey) (t : ℕ) (r : RequestFields) (k : ShapeKey) (of : k ≡ key_of (new_shape t r)) (is : keys ≡ map key_of shapes) where
  known_is : list_any (same_key k) keys ≡ list_any (has_shape t r) shapes
  known_is = ap (λ x. list_any (same_key x) keys) of ∙ known_by_keys shapes keys t r is

  pub unknown_by : (b : Bool) → b ≡ not (list_any (same_key k) keys) → b ≡ true → list_any (has_shape t r) shapes ≡ false
  unknown_by b told new = sym known_is ∙ at (list_any (same_key k) keys) (sym told ∙ new)
    where
      at : (c : Bool) → not c ≡ true → c ≡ false
      at true h = contrary true refl (sym h)
      at false h = refl

  pub known_by : (b : Bool) → b ≡ not (list_any (same_key k) keys) → b ≡ false → list_any (has_shape t r) shapes ≡ true
  known_by b told old = sym known_is ∙ at (list_any (same_key k) keys) (sym told ∙ old)
    where
      at : (c : Bool) → not c ≡ false → c ≡ true
      at true h = refl
      at false h = contrary true refl h

  pub keys_pushed : (new : List ShapeKey) → new ≡ insert_key same_key keys k → list_any (has_shape t r) shapes ≡ false → new ≡ keys ++ key_of (new_shape t r) ∷ []
  keys_pushed new came unknown = came ∙ ap (λ b. cond b keys (keys ++ k ∷ [])) (known_is ∙ unknown) ∙ ap (λ x. keys ++ x ∷ []) of

  pub keys_kept : (new : List ShapeKey) → new ≡ insert_key same_key keys k → list_any (has_shape t r) shapes ≡ true → new ≡ keys
  keys_kept new came known = came ∙ ap (λ b. cond b keys (keys ++ k ∷ [])) (known_is ∙ known)

  pub place_by : (p : ℕ) → p ≡ position_or_len (same_key k) keys → p ≡ shape_index shapes t r
  place_by p at = at ∙ ap (λ x. position_or_len (same_key x) keys) of ∙ place_by_keys shapes keys t r is

-- ---- one entry changes

pub entry_taken : (es : List Entry) (i : ℕ) (x y : Entry) (r : RequestFields) → x ≡ slice_index_or es i x → y.task ≡ x.task → y.request ≡ lengthened x.request r → y.asks.keys ≡ x.asks.keys
    → shapes_in (slice_set es i y) ≡ taken_over (shapes_in es) i r
entry_taken [] i x y r is task request asks = refl
entry_taken (e ∷ es) zero x y r is task request asks =
    (λ k. record { task = task k; request = request k; asks = map (λ (a : AskedSet). a.set) (asks k) } ∷ shapes_in es) ∙ ap (λ (z : Entry). joined (shape_in z) (record { request = r; asks = [] }) ∷ shapes_in es) is
entry_taken (e ∷ es) (suc i) x y r is task request asks = ap (λ ss. shape_in e ∷ ss) (entry_taken es i x y r is task request asks)

keys_asked : (ks : List AskedSet) (part : Set) → map (λ (a : AskedSet). a.set) (insert_key same_asked ks (record { set = part })) ≡ with_part (map (λ (a : AskedSet). a.set) ks) part
keys_asked ks part = at (list_any (λ (a : AskedSet). equals part a.set) ks) ∙ ap (λ b. cond b (map (λ (a : AskedSet). a.set) ks) (map (λ (a : AskedSet). a.set) ks ++ part ∷ [])) (sym (any_map (λ (a : AskedSet). a.set) (equals part) ks))
  where
    at : (b : Bool) → map (λ (a : AskedSet). a.set) (cond b ks (ks ++ record { set = part } ∷ [])) ≡ cond b (map (λ (a : AskedSet). a.set) ks) (map (λ (a : AskedSet). a.set) ks ++ part ∷ [])
    at true = refl
    at false = map_push (λ (a : AskedSet). a.set) ks (record { set = part })

pub entry_asked : (es : List Entry) (i : ℕ) (x y : Entry) (part : Set) → x ≡ slice_index_or es i x → y.task ≡ x.task → y.request ≡ x.request → y.asks.keys ≡ insert_key same_asked x.asks.keys (record { set = part })
    → shapes_in (slice_set es i y) ≡ with_shape_ask (shapes_in es) i part
entry_asked [] i x y part is task request asks = refl
entry_asked (e ∷ es) zero x y part is task request asks =
    (λ k. record { task = task k; request = request k; asks = (ap (map (λ (a : AskedSet). a.set)) asks ∙ keys_asked x.asks.keys part) k } ∷ shapes_in es)
    ∙ ap (λ (z : Entry). record { task = z.task; request = z.request; asks = with_part (map (λ (a : AskedSet). a.set) z.asks.keys) part } ∷ shapes_in es) is
entry_asked (e ∷ es) (suc i) x y part is task request asks = ap (λ ss. shape_in e ∷ ss) (entry_asked es i x y part is task request asks)

pub entry_kept : (es : List Entry) (i : ℕ) (x y : Entry) → x ≡ slice_index_or es i x → y.task ≡ x.task → y.request ≡ x.request → y.asks.keys ≡ x.asks.keys → shapes_in (slice_set es i y) ≡ shapes_in es
entry_kept [] i x y is task request asks = refl
entry_kept (e ∷ es) zero x y is task request asks =
    (λ k. record { task = task k; request = request k; asks = map (λ (a : AskedSet). a.set) (asks k) } ∷ shapes_in es) ∙ ap (λ (z : Entry). shape_in z ∷ shapes_in es) is
entry_kept (e ∷ es) (suc i) x y is task request asks = ap (λ ss. shape_in e ∷ ss) (entry_kept es i x y is task request asks)

pub number_asked : (es : List Entry) (i : ℕ) (x : Entry) (part : Set) → i < length es → x ≡ slice_index_or es i x → position_or_len (same_asked (record { set = part })) x.asks.keys ≡ position_or_len (equals part) (parts_of (shapes_in es) i)
number_asked [] i x part h is = absurd (omega arith)
number_asked (e ∷ es) zero x part h is = ap (λ (z : Entry). position_or_len (same_asked (record { set = part })) z.asks.keys) is ∙ sym (place_map (λ (a : AskedSet). a.set) (equals part) e.asks.keys)
number_asked (e ∷ es) (suc i) x part h is = number_asked es i x part (omega arith) is

-- ---- numbers depend on keys alone

abbrev pub number_by : List ShapeKey → ℕ → ℕ → ℕ
number_by [] task place = 0
number_by (k ∷ ks) task zero = 0
number_by (k ∷ ks) task (suc place) = cond (k.task == task) (suc (number_by ks task place)) (number_by ks task place)

abbrev pub task_by : List ShapeKey → ℕ → ℕ
task_by [] place = 0
task_by (k ∷ ks) zero = k.task
task_by (k ∷ ks) (suc place) = task_by ks place

pub number_is : (ss : List Shape) (task place : ℕ) → number_before ss task place ≡ number_by (map key_of ss) task place
number_is [] task place = refl
number_is (s ∷ ss) task zero = refl
number_is (s ∷ ss) task (suc place) = ap (λ n. cond (s.task == task) (suc n) n) (number_is ss task place)

pub task_is : (ss : List Shape) (place : ℕ) → task_at ss place ≡ task_by (map key_of ss) place
task_is [] place = refl
task_is (s ∷ ss) zero = refl
task_is (s ∷ ss) (suc place) = task_is ss place

-- ---- a table without shapes

zeros : (n i : ℕ) → slice_index (replicate n 0) i ≡ 0
zeros zero i = refl
zeros (suc n) zero = refl
zeros (suc n) (suc i) = zeros n i

pub empty_table : (t : Table) (n : ℕ) → t.keys.keys ≡ [] → t.entries.items ≡ [] → t.numbers.items ≡ [] → t.counts.items ≡ replicate n 0 → length t.counts.items ≤ 255 → IsKept t
empty_table t n keys entries numbers counts few = record {
  table = record {
    keys = keys ∙ ap (λ es. map key_of (shapes_in es)) (sym entries);
    different = subst (λ (es : List Entry). AreDifferent (shapes_in es)) (sym entries) tt;
    tasks = subst (λ (es : List Entry). AllByRecursion (λ (s : Shape). s.task < length t.counts.items) (shapes_in es)) (sym entries) tt;
    asks = subst (λ (es : List Entry). AllByRecursion (λ (s : Shape). IsTrue (may_ask s)) (shapes_in es)) (sym entries) tt;
    long = ap length numbers ∙ sym (ap length entries);
    numbers = λ place h. absurd (omega (arith, h, ap length entries));
    counts = λ task h. ap (λ xs. slice_index xs task) counts ∙ zeros n task ∙ ap (λ es. number_before (shapes_in es) task (length es)) (sym entries);
  };
  few = few;
}
