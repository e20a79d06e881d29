-- The places of the shapes of each task: how they are recorded one after another, and what is found there.
use Rattle.std.proofs.Common.{◌≡◌, ◌⊎◌, ◌<◌, ◌+◌, ◌==◌, ℕ, zero, suc, Bool, true, false, cond, List, [], ◌∷◌, ◌++◌, length, take, get_or, slice_get, slice_index_or, slice_set, Some, refl, sym, ap, subst, ◌∙◌, inl, inr, arith, get_or-set_same, get_or-set_other}
use Rattle.std.specs.declared.vec.Vec.{Vec}
use Rattle.std.specs.declared.alloc.Global.{Global}
use Rattle.std.proofs.lemmas.Bool.{eqb-true}
use Rattle.std.proofs.lemmas.Bool.Decides.{eqb_tells}
use Rattle.std.proofs.lemmas.List.{append-nil, take_more, length-set}
use Rattle.rbound.proofs.RequestVectors.{map_push, length_map}
use Rattle.rbound_history.specs.Shapes.{Shape}
use Rattle.rbound_history.specs.ShapeNeeds.{requests_of_shapes}
use Rattle.rbound_history.specs.Kept.{shape_in, shapes_in}
use Rattle.rbound_history.specs.Places.{places_from, places_of, lists_in, list_at, ArePlaces}
use Rattle.rbound_history.specs.declared.table.Entry.{Entry}
use Rattle.rbound.proofs.ClaimFacts.{some_is}
use Rattle.rbound_history.proofs.ShapeRequests.{request_of, some_none}

-- ---- places are recorded

one_behind : (b : Bool) (n : ℕ) (xs ys zs : List ℕ) → xs ≡ ys ++ zs → cond b (n ∷ xs) xs ≡ cond b (n ∷ ys) ys ++ zs
one_behind true n xs ys zs h = ap (λ us. n ∷ us) h
one_behind false n xs ys zs h = h

from_push : (n : ℕ) (ss : List Shape) (s : Shape) (task : ℕ) → places_from n (ss ++ s ∷ []) task ≡ places_from n ss task ++ cond (s.task == task) ((n + length ss) ∷ []) []
from_push n [] s task = let here : n ≡ n + 0 = omega arith in ap (λ k. cond (s.task == task) (k ∷ []) []) here
from_push n (x ∷ ss) s task =
    let later : suc n + length ss ≡ n + suc (length ss) = omega arith in
    one_behind (x.task == task) n (places_from (suc n) (ss ++ s ∷ []) task) (places_from (suc n) ss task) (cond (s.task == task) ((n + suc (length ss)) ∷ []) [])
    (from_push (suc n) ss s task ∙ ap (λ k. places_from (suc n) ss task ++ cond (s.task == task) (k ∷ []) []) later)

pub places_long : (places : List (Vec ℕ Global)) → length (lists_in places) ≡ length places
places_long places = length_map (λ (v : Vec ℕ Global). v.items) places

taken : (ys : List Entry) (j : ℕ) → j < length ys → length (take j ys) ≡ j
taken ys zero h = refl
taken [] (suc j) h = absurd (omega arith)
taken (y ∷ ys) (suc j) h = ap suc (taken ys j (omega arith))

module _ (es : List Entry) (tasks i : ℕ) (x : Entry) (old new : List (Vec ℕ Global)) (less : i < length es) (at : x ≡ get_or es i x) (there : x.task < tasks) (are : ArePlaces (shapes_in (take i es)) tasks old)
    (is : lists_in new ≡ slice_set (lists_in old) x.task (list_at old x.task ++ i ∷ [])) where
  abbrev ss : List Shape
  ss = shapes_in (take i es)

  long : i ≡ 0 + length ss
  long = let all = length_map shape_in (take i es) in let first = taken es i less in omega (arith, all, first)

  noted : (k : ℕ) → k < tasks → ((x.task == k) ≡ true) × (x.task ≡ k) ⊎ ((x.task == k) ≡ false) × (x.task ≡ k → ⊥)
      → slice_index_or (slice_set (lists_in old) x.task (list_at old x.task ++ i ∷ [])) k [] ≡ places_of ss k ++ cond (x.task == k) ((0 + length ss) ∷ []) []
  noted k some (inl same) =
      let within : x.task < length (lists_in old) = omega (arith, there, places_long old, are.long) in
      ap (λ j. slice_index_or (slice_set (lists_in old) x.task (list_at old x.task ++ i ∷ [])) j []) (sym same.1)
      ∙ get_or-set_same (lists_in old) x.task (list_at old x.task ++ i ∷ []) [] within
      ∙ ap (λ us. us ++ i ∷ []) (are.each x.task there ∙ ap (places_of ss) same.1)
      ∙ ap (λ j. places_of ss k ++ j ∷ []) long
      ∙ ap (λ b. places_of ss k ++ cond b ((0 + length ss) ∷ []) []) (sym same.0)
  noted k some (inr other) =
      get_or-set_other (lists_in old) x.task k (list_at old x.task ++ i ∷ []) [] (λ e. other.1 (sym e)) ∙ are.each k some ∙ sym (append-nil (places_of ss k))
      ∙ ap (λ b. places_of ss k ++ cond b ((0 + length ss) ∷ []) []) (sym other.0)

  -- *The places with one more shape*
  pub places_more : ArePlaces (shapes_in (take (i + 1) es)) tasks new
  places_more = record {
    long = sym (places_long new) ∙ ap length is ∙ length-set (lists_in old) x.task (list_at old x.task ++ i ∷ []) ∙ places_long old ∙ are.long;
    each = λ k some.
        ap (λ xs. slice_index_or xs k []) is ∙ noted k some (eqb_tells x.task k) ∙ sym (from_push 0 ss (shape_in x) k)
        ∙ ap (λ us. places_of us k) (sym (map_push shape_in (take i es) x) ∙ ap shapes_in (ap (λ y. take i es ++ y ∷ []) at ∙ sym (take_more es i x less)));
  }

-- one vector of them changes
pub one_noted : (vs : List (Vec ℕ Global)) (i : ℕ) (v w : Vec ℕ Global) (x : ℕ) → i < length vs → v ≡ slice_index_or vs i v → w.items ≡ v.items ++ x ∷ [] → lists_in (slice_set vs i w) ≡ slice_set (lists_in vs) i (list_at vs i ++ x ∷ [])
one_noted [] i v w x h is pushed = absurd (omega arith)
one_noted (u ∷ vs) zero v w x h is pushed = ap (λ us. us ∷ lists_in vs) (pushed ∙ ap (λ (z : Vec ℕ Global). z.items ++ x ∷ []) is)
one_noted (u ∷ vs) (suc i) v w x h is pushed = ap (λ us. u.items ∷ us) (one_noted vs i v w x (omega arith) is pushed)

pub list_is : (vs : List (Vec ℕ Global)) (i : ℕ) (v : Vec ℕ Global) → i < length vs → v ≡ slice_index_or vs i v → v.items ≡ list_at vs i
list_is [] i v h is = absurd (omega arith)
list_is (u ∷ vs) zero v h is = ap (λ (z : Vec ℕ Global). z.items) is
list_is (u ∷ vs) (suc i) v h is = list_is vs i v (omega arith) is

-- ---- what is found there

-- at a place there is a shape of the task, and this is the request number i of the task
pub record IsFound (ss : List Shape) (task i place : ℕ) : Type 0 where
  pub within : place < length ss
  pub shape : Shape
  pub there : slice_get ss place ≡ Some shape
  pub of : shape.task ≡ task
  pub put : slice_get (requests_of_shapes ss task) i ≡ Some (request_of shape)

found_from : (n : ℕ) (ss : List Shape) (task i : ℕ) → i < length (places_from n ss task) → (k : ℕ) × (get_or (places_from n ss task) i 0 ≡ n + k) × IsFound ss task i k
found_from n [] task i h = absurd (omega arith)
found_from n (s ∷ ss) task i h = at (s.task == task) i refl h (found_from (suc n) ss task)
  where
    behind : (j p : ℕ) → IsFound ss task j p → (k : ℕ) → slice_get (requests_of_shapes (s ∷ ss) task) k ≡ slice_get (requests_of_shapes ss task) j → IsFound (s ∷ ss) task k (suc p)
    behind j p found k same = let within = found.within in record { within = omega (arith, within); shape = found.shape; there = found.there; of = found.of; put = same ∙ found.put }

    at : (b : Bool) (i : ℕ) → (s.task == task) ≡ b → i < length (cond b (n ∷ places_from (suc n) ss task) (places_from (suc n) ss task))
        → ((j : ℕ) → j < length (places_from (suc n) ss task) → (k : ℕ) × (get_or (places_from (suc n) ss task) j 0 ≡ suc n + k) × IsFound ss task j k)
        → (k : ℕ) × (get_or (cond b (n ∷ places_from (suc n) ss task) (places_from (suc n) ss task)) i 0 ≡ n + k) × IsFound (s ∷ ss) task i k
    at true zero is less rest = (0, omega arith, record { within = omega arith; shape = s; there = refl; of = eqb-true s.task task is; put = ap (λ b. slice_get (cond b (request_of s ∷ requests_of_shapes ss task) (requests_of_shapes ss task)) 0) is })
    at true (suc j) is less rest =
        let later = rest j (omega (arith, less)) in
        let place = later.1 in
        (suc later.0, place ∙ omega arith, behind j later.0 later.2 (suc j) (ap (λ b. slice_get (cond b (request_of s ∷ requests_of_shapes ss task) (requests_of_shapes ss task)) (suc j)) is))
    at false j is less rest =
        let later = rest j less in
        let place = later.1 in
        (suc later.0, place ∙ omega arith, behind j later.0 later.2 j (ap (λ b. slice_get (cond b (request_of s ∷ requests_of_shapes ss task) (requests_of_shapes ss task)) j) is))

pub found : (ss : List Shape) (task : ℕ) (places : List ℕ) (i : ℕ) → places ≡ places_of ss task → i < length places → IsFound ss task i (get_or places i 0)
found ss task places i are less =
    let at = found_from 0 ss task i (omega (arith, less, ap length are)) in
    let place : get_or places i 0 ≡ at.0 = ap (λ ps. get_or ps i 0) are ∙ at.1 ∙ omega arith in
    subst (λ k. IsFound ss task i k) (sym place) at.2

pub found_within : (es : List Entry) (task : ℕ) (places : List ℕ) (i : ℕ) → places ≡ places_of (shapes_in es) task → i < length places → get_or places i 0 < length es
found_within es task places i are less = let at = found (shapes_in es) task places i are less in let within = at.within in omega (arith, within, length_map shape_in es)

-- there are as many places as requests
as_many : (n : ℕ) (ss : List Shape) (task : ℕ) → length (places_from n ss task) ≡ length (requests_of_shapes ss task)
as_many n [] task = refl
as_many n (s ∷ ss) task = at (s.task == task) (as_many (suc n) ss task)
  where
    at : (b : Bool) → length (places_from (suc n) ss task) ≡ length (requests_of_shapes ss task) → length (cond b (n ∷ places_from (suc n) ss task) (places_from (suc n) ss task)) ≡ length (cond b (request_of s ∷ requests_of_shapes ss task) (requests_of_shapes ss task))
    at true h = ap suc h
    at false h = h

pub as_many_requests : (ss : List Shape) (task : ℕ) (places : List ℕ) → places ≡ places_of ss task → length places ≡ length (requests_of_shapes ss task)
as_many_requests ss task places are = ap length are ∙ as_many 0 ss task

pub entry_shape : (es : List Entry) (p : ℕ) (x : Entry) (s : Shape) → slice_get (shapes_in es) p ≡ Some s → x ≡ get_or es p x → shape_in x ≡ s
entry_shape [] p x s at is = some_none (sym at)
entry_shape (e ∷ es) zero x s at is = ap shape_in is ∙ some_is at
entry_shape (e ∷ es) (suc p) x s at is = entry_shape es p x s at is
