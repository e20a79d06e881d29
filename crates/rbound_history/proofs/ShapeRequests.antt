-- The requests of tasks by number, and the places of those of shapes among them.
use Rattle.std.proofs.Common.{◌≡◌, ◌<◌, ◌==◌, ℕ, zero, suc, Bool, true, false, cond, List, [], ◌∷◌, length, slice_get, Some, None, refl, sym, ap, subst, inl, inr, arith}
use Rattle.std.specs.List.{AllByRecursion}
use Rattle.std.proofs.lemmas.Bool.{eq-eqb, eqb-true}
use Rattle.std.proofs.lemmas.List.FromFn.{get_or-map-range_with_len, length-map-range_with_len}
use Rattle.rmodel.specs.WellFormed.{Among}
use Rattle.rmodel.proofs.ListFacts.{all_at, all_from, all_map}
use Rattle.rbound.specs.Needs.{RequestNeeds, Needs}
use Rattle.rbound.specs.TaskNeeds.{requests_of}
use Rattle.rbound.specs.Bounds.{tasks_of}
use Rattle.rbound.specs.Kept.{IsFine, AreFine}
use Rattle.rbound.proofs.ClaimFacts.{some_is}
use Rattle.rbound_history.specs.Shapes.{Shape}
use Rattle.rbound_history.specs.ShapeNeeds.{requests_of_shapes, needs_of_shapes, number_before}

-- ---- lists

pub some_none : {X : Type 0} {x : X} {P : Type 0} → Some x ≡ None → P
some_none e = absurd cc

pub at_among : {X : Type 0} (xs : List X) (k : ℕ) (x : X) → slice_get xs k ≡ Some x → Among x xs
at_among [] k x at = some_none (sym at)
at_among (y ∷ xs) zero x at = inl (sym (some_is at))
at_among (y ∷ xs) (suc k) x at = inr (at_among xs k x at)

pub among_at : {X : Type 0} (xs : List X) (x : X) → Among x xs → (k : ℕ) × (slice_get xs k ≡ Some x)
among_at [] x there = absurd there
among_at (y ∷ xs) x (inl same) = (0, ap (λ z. Some z) (sym same))
among_at (y ∷ xs) x (inr later) = let found = among_at xs x later in (suc found.0, found.1)

-- ---- requests of tasks

-- a task that needs a request is one of the tasks
pub task_there : (needs : Needs) (task : ℕ) (n : RequestNeeds) → Among n (requests_of needs task) → task < length needs
task_there [] task n there = absurd there
task_there (ns ∷ rest) zero n there = omega arith
task_there (ns ∷ rest) (suc task) n there = let some = task_there rest task n there in omega (arith, some)

pub fine_of : (q : ℕ) (needs : Needs) (task : ℕ) (n : RequestNeeds) → AreFine q needs → Among n (requests_of needs task) → IsFine q n.request
fine_of q [] task n fine there = absurd there
fine_of q (ns ∷ rest) zero n fine there = all_at (λ (m : RequestNeeds). IsFine q m.request) ns n fine.0 there
fine_of q (ns ∷ rest) (suc task) n fine there = fine_of q rest task n fine.1 there

-- ---- requests of shapes

-- the request of a shape
abbrev pub request_of : Shape → RequestNeeds
request_of s = record { request = s.request; asks = s.asks }

pub requests_at : (tasks : ℕ) (shapes : List Shape) (task : ℕ) → task < tasks → requests_of (needs_of_shapes tasks shapes) task ≡ requests_of_shapes shapes task
requests_at tasks shapes task some = get_or-map-range_with_len (requests_of_shapes shapes) 0 tasks task task [] some (omega arith)

pub tasks_at : (tasks : ℕ) (shapes : List Shape) → length (needs_of_shapes tasks shapes) ≡ tasks
tasks_at tasks shapes = length-map-range_with_len (requests_of_shapes shapes) 0 tasks

-- a request of a task comes from a shape of it
pub from_shape : (shapes : List Shape) (task : ℕ) (n : RequestNeeds) → Among n (requests_of_shapes shapes task) → (s : Shape) × Among s shapes × (s.task ≡ task) × (n ≡ request_of s)
from_shape [] task n there = absurd there
from_shape (s ∷ ss) task n there = at (s.task == task) refl there (from_shape ss task n)
  where
    at : (b : Bool) → (s.task == task) ≡ b → Among n (cond b (request_of s ∷ requests_of_shapes ss task) (requests_of_shapes ss task))
        → (Among n (requests_of_shapes ss task) → (x : Shape) × Among x ss × (x.task ≡ task) × (n ≡ request_of x)) → (x : Shape) × Among x (s ∷ ss) × (x.task ≡ task) × (n ≡ request_of x)
    at true is (inl same) rest = (s, inl refl, eqb-true s.task task is, same)
    at true is (inr later) rest = let found = rest later in (found.0, inr found.1, found.2, found.3)
    at false is later rest = let found = rest later in (found.0, inr found.1, found.2, found.3)

-- and each shape is a request of its task
pub of_shapes : (shapes : List Shape) (s : Shape) → Among s shapes → Among (request_of s) (requests_of_shapes shapes s.task)
of_shapes [] s there = absurd there
of_shapes (x ∷ ss) s (inl same) =
    subst (λ (y : Shape). Among (request_of y) (requests_of_shapes (x ∷ ss) y.task)) (sym same)
    (subst (λ (b : Bool). Among (request_of x) (cond b (request_of x ∷ requests_of_shapes ss x.task) (requests_of_shapes ss x.task))) (sym (eq-eqb x.task x.task refl)) (inl refl))
of_shapes (x ∷ ss) s (inr later) = at (x.task == s.task) (of_shapes ss s later)
  where
    at : (b : Bool) → Among (request_of s) (requests_of_shapes ss s.task) → Among (request_of s) (cond b (request_of x ∷ requests_of_shapes ss s.task) (requests_of_shapes ss s.task))
    at true there = inr there
    at false there = there

-- *The place of the request of a shape* among those of its task
pub placed : (shapes : List Shape) (place : ℕ) (s : Shape) → slice_get shapes place ≡ Some s → slice_get (requests_of_shapes shapes s.task) (number_before shapes s.task place) ≡ Some (request_of s)
placed [] place s at = some_none (sym at)
placed (x ∷ ss) zero s at =
    subst (λ (y : Shape). slice_get (requests_of_shapes (x ∷ ss) y.task) 0 ≡ Some (request_of y)) (some_is at)
    (ap (λ b. slice_get (cond b (request_of x ∷ requests_of_shapes ss x.task) (requests_of_shapes ss x.task)) 0) (eq-eqb x.task x.task refl))
placed (x ∷ ss) (suc place) s at = by (x.task == s.task) (placed ss place s at)
  where
    by : (b : Bool) → slice_get (requests_of_shapes ss s.task) (number_before ss s.task place) ≡ Some (request_of s)
        → slice_get (cond b (request_of x ∷ requests_of_shapes ss s.task) (requests_of_shapes ss s.task)) (cond b (suc (number_before ss s.task place)) (number_before ss s.task place)) ≡ Some (request_of s)
    by true h = h
    by false h = h

-- where the request of each shape is fine, so is everything that tasks need by the shapes
pub fine_shapes : (q tasks : ℕ) (shapes : List Shape) → ((s : Shape) → Among s shapes → IsFine q s.request) → AreFine q (needs_of_shapes tasks shapes)
fine_shapes q tasks shapes each =
    all_map (requests_of_shapes shapes) (λ (ns : List RequestNeeds). AllByRecursion (λ (n : RequestNeeds). IsFine q n.request) ns) (tasks_of tasks)
    (λ task there. all_from (λ (n : RequestNeeds). IsFine q n.request) (requests_of_shapes shapes task)
    (λ n in_task. let found = from_shape shapes task n in_task in subst (λ (m : RequestNeeds). IsFine q m.request) (sym found.3) (each found.0 found.1)))
