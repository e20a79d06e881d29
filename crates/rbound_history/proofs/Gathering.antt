-- What tasks need, as shapes are added one after another.
use Rattle.std.proofs.Common.{◌≡◌, ◌<◌, ◌≤◌, ◌+◌, ◌-◌, ◌||◌, ℕ, zero, suc, true, false, cond, List, [], ◌∷◌, ◌++◌, map, length, take, replicate, get_or, IsTrue, refl, sym, ap, subst, ◌∙◌, arith, append_assoc, length-append, eq-eqb, slice_get, Some, Result, Ok, Err, OnOk}
use Rattle.std.specs.List.{AllByRecursion}
use Rattle.std.proofs.lemmas.List.{append-nil, take_more, take_all, length-replicate}
use Rattle.std.proofs.lemmas.Option.{get_or_from_slice_get}
use Rattle.rset.specs.Sets.{Set, all_below}
use Rattle.rclaim.specs.Requests.{RequestFields}
use Rattle.rmodel.specs.Claims.{is_nested}
use Rattle.rmodel.proofs.ListFacts.{contrary}
use Rattle.rbound.specs.Needs.{RequestNeeds, Needs}
use Rattle.rbound.specs.TaskNeeds.{TaskNeeds, requests_of, none_needed, with_request, with_ask, with_last_ask, last_is_nested}
use Rattle.rbound.proofs.RequestVectors.{map_push}
use Rattle.rbound_history.specs.Shapes.{Shape}
use Rattle.rbound_history.specs.ShapeNeeds.{requests_of_shapes, needs_of_shapes, with_requests, with_asks, AreBelow}
use Rattle.rbound_history.specs.Kept.{shape_in, shapes_in, is_none, may_ask, gathered}
use Rattle.rbound_history.specs.declared.shape_key.AskedSet.{AskedSet}
use Rattle.rbound_history.specs.declared.table.Entry.{Entry}
use Rattle.rbound_history.proofs.ShapeRequests.{request_of, requests_at, tasks_at}

-- ---- asks

asks_more : (needs : Needs) (task : ℕ) (parts : List Set) (part : Set) → with_asks needs task (parts ++ part ∷ []) ≡ with_ask (with_asks needs task parts) task part
asks_more needs task [] part = refl
asks_more needs task (p ∷ ps) part = asks_more (with_ask needs task p) task ps part

ask_long : (needs : Needs) (task : ℕ) (part : Set) → length (with_ask needs task part) ≡ length needs
ask_long [] task part = refl
ask_long (ns ∷ rest) zero part = refl
ask_long (ns ∷ rest) (suc task) part = ap suc (ask_long rest task part)

asks_long : (needs : Needs) (task : ℕ) (parts : List Set) → length (with_asks needs task parts) ≡ length needs
asks_long needs task [] = refl
asks_long needs task (p ∷ ps) = asks_long (with_ask needs task p) task ps ∙ ask_long needs task p

last_nested : (ns : List RequestNeeds) (part : Set) → last_is_nested (with_last_ask ns part) ≡ last_is_nested ns
last_nested [] part = refl
last_nested (n ∷ []) part = refl
last_nested (n ∷ m ∷ ns) part = step (m ∷ ns) ∙ last_nested (m ∷ ns) part
  where
    step : (xs : List RequestNeeds) → last_is_nested (n ∷ with_last_ask (m ∷ ns) part) ≡ last_is_nested (with_last_ask (m ∷ ns) part)
    step xs = at ns
      where
        at : (ks : List RequestNeeds) → last_is_nested (n ∷ with_last_ask (m ∷ ks) part) ≡ last_is_nested (with_last_ask (m ∷ ks) part)
        at [] = refl
        at (k ∷ ks) = refl

ask_nested : (needs : Needs) (task : ℕ) (part : Set) → last_is_nested (requests_of (with_ask needs task part) task) ≡ last_is_nested (requests_of needs task)
ask_nested [] task part = refl
ask_nested (ns ∷ rest) zero part = last_nested ns part
ask_nested (ns ∷ rest) (suc task) part = ask_nested rest task part

asks_nested : (needs : Needs) (task : ℕ) (parts : List Set) → last_is_nested (requests_of (with_asks needs task parts) task) ≡ last_is_nested (requests_of needs task)
asks_nested needs task [] = refl
asks_nested needs task (p ∷ ps) = asks_nested (with_ask needs task p) task ps ∙ ask_nested needs task p

-- the sets of these asks
abbrev pub sets_in : List AskedSet → List Set
sets_in asks = map (λ a. a.set) asks

-- the last request has asked for the first sets
pub record HasAsked (first now : TaskNeeds) (task : ℕ) (asks : List AskedSet) (i : ℕ) : Type 0 where
  pub is : now ≡ record first { tasks = with_asks first.tasks task (sets_in (take i asks)) }

pub asked_more : (first now then : TaskNeeds) (task : ℕ) (asks : List AskedSet) (i : ℕ) (x : AskedSet) → i < length asks → x ≡ get_or asks i x → HasAsked first now task asks i → then ≡ record now { tasks = with_ask now.tasks task x.set }
    → HasAsked first then task asks (i + 1)
asked_more first now then task asks i x less at so is = record {
  is =
      is ∙ ap (λ (n : TaskNeeds). record n { tasks = with_ask n.tasks task x.set }) so.is
      ∙ ap (λ (ts : Needs). record first { tasks = ts })
      (sym (asks_more first.tasks task (sets_in (take i asks)) x.set)
      ∙ ap (with_asks first.tasks task) (sym (map_push (λ (a : AskedSet). a.set) (take i asks) x) ∙ ap sets_in (ap (λ y. take i asks ++ y ∷ []) at ∙ sym (take_more asks i x less))));
}

pub asked_all : (first now : TaskNeeds) (task : ℕ) (asks : List AskedSet) (i : ℕ) → length asks ≤ i → HasAsked first now task asks i → now ≡ record first { tasks = with_asks first.tasks task (sets_in asks) }
asked_all first now task asks i all so = so.is ∙ ap (λ xs. record first { tasks = with_asks first.tasks task (sets_in xs) }) (take_all i asks all)

pub asked_within : (first now : TaskNeeds) (task : ℕ) (asks : List AskedSet) (i : ℕ) → task < length first.tasks → HasAsked first now task asks i → task < length now.tasks
asked_within first now task asks i within so = subst (λ (n : TaskNeeds). task < length n.tasks) (sym so.is) (omega (arith, within, asks_long first.tasks task (sets_in (take i asks))))

pub asked_nested : (first now : TaskNeeds) (task : ℕ) (asks : List AskedSet) (i : ℕ) → last_is_nested (requests_of first.tasks task) ≡ true → HasAsked first now task asks i → last_is_nested (requests_of now.tasks task) ≡ true
asked_nested first now task asks i nested so = ap (λ (n : TaskNeeds). last_is_nested (requests_of n.tasks task)) so.is ∙ asks_nested first.tasks task (sets_in (take i asks)) ∙ nested

-- ---- one shape

request_is : (needs : Needs) (task : ℕ) (r : RequestFields) → with_request needs task r ≡ with_requests needs task (record { request = r; asks = [] } ∷ [])
request_is [] task r = refl
request_is (ns ∷ rest) zero r = refl
request_is (ns ∷ rest) (suc task) r = ap (λ xs. ns ∷ xs) (request_is rest task r)

last_put : (ns : List RequestNeeds) (r : RequestFields) (asks : List Set) (part : Set) → with_last_ask (ns ++ record { request = r; asks = asks } ∷ []) part ≡ ns ++ record { request = r; asks = asks ++ part ∷ [] } ∷ []
last_put [] r asks part = refl
last_put (n ∷ []) r asks part = refl
last_put (n ∷ m ∷ ns) r asks part = ap (λ xs. n ∷ xs) (last_put (m ∷ ns) r asks part)

ask_put : (needs : Needs) (task : ℕ) (r : RequestFields) (asks : List Set) (part : Set)
    → with_ask (with_requests needs task (record { request = r; asks = asks } ∷ [])) task part ≡ with_requests needs task (record { request = r; asks = asks ++ part ∷ [] } ∷ [])
ask_put [] task r asks part = refl
ask_put (ns ∷ rest) zero r asks part = ap (λ xs. xs ∷ rest) (last_put ns r asks part)
ask_put (ns ∷ rest) (suc task) r asks part = ap (λ xs. ns ∷ xs) (ask_put rest task r asks part)

asks_put : (needs : Needs) (task : ℕ) (r : RequestFields) (asks parts : List Set)
    → with_asks (with_requests needs task (record { request = r; asks = asks } ∷ [])) task parts ≡ with_requests needs task (record { request = r; asks = asks ++ parts } ∷ [])
asks_put needs task r asks [] = ap (λ xs. with_requests needs task (record { request = r; asks = xs } ∷ [])) (sym (append-nil asks))
asks_put needs task r asks (p ∷ ps) =
    ap (λ ns. with_asks ns task ps) (ask_put needs task r asks p) ∙ asks_put needs task r (asks ++ p ∷ []) ps
    ∙ ap (λ xs. with_requests needs task (record { request = r; asks = xs } ∷ [])) (append_assoc asks (p ∷ []) ps)

-- a request with its asks
pub shape_put : (needs : Needs) (task : ℕ) (r : RequestFields) (parts : List Set) → with_asks (with_request needs task r) task parts ≡ with_requests needs task (record { request = r; asks = parts } ∷ [])
shape_put needs task r parts = ap (λ ns. with_asks ns task parts) (request_is needs task r) ∙ asks_put needs task r [] parts

pub one_of_task : (s : Shape) → requests_of_shapes (s ∷ []) s.task ≡ request_of s ∷ []
one_of_task s = ap (λ b. cond b (request_of s ∷ []) []) (eq-eqb s.task s.task refl)

pub request_nested : (needs : Needs) (task : ℕ) (r : RequestFields) → task < length needs → last_is_nested (requests_of (with_request needs task r) task) ≡ is_nested r.kind
request_nested [] task r h = absurd (omega arith)
request_nested (ns ∷ rest) zero r h = last ns
  where
    last : (xs : List RequestNeeds) → last_is_nested (xs ++ record { request = r; asks = [] } ∷ []) ≡ is_nested r.kind
    last [] = refl
    last (x ∷ []) = refl
    last (x ∷ y ∷ xs) = last (y ∷ xs)
request_nested (ns ∷ rest) (suc task) r h = request_nested rest task r (omega arith)

-- a shape that is not nested asks for nothing
asks_none : (s : Shape) → may_ask s ≡ true → is_nested s.request.kind ≡ false → s.asks ≡ []
asks_none s may plain = at s.asks (ap (λ b. b || is_none s.asks) (sym plain) ∙ may)
  where
    at : (xs : List Set) → (false || is_none xs) ≡ true → xs ≡ []
    at [] h = refl
    at (x ∷ xs) h = contrary false h refl

-- what is added for a shape, whether or not it is nested
pub nested_put : (first : TaskNeeds) (s : Shape) (parts : List Set) → parts ≡ s.asks
    → record first { tasks = with_asks (with_request first.tasks s.task s.request) s.task parts } ≡ record first { tasks = with_requests first.tasks s.task (requests_of_shapes (s ∷ []) s.task) }
nested_put first s parts is =
    ap (λ (ts : Needs). record first { tasks = ts })
    (shape_put first.tasks s.task s.request parts ∙ ap (λ xs. with_requests first.tasks s.task (record { request = s.request; asks = xs } ∷ [])) is ∙ ap (with_requests first.tasks s.task) (sym (one_of_task s)))

pub plain_put : (first : TaskNeeds) (s : Shape) → may_ask s ≡ true → is_nested s.request.kind ≡ false
    → record first { tasks = with_request first.tasks s.task s.request } ≡ record first { tasks = with_requests first.tasks s.task (requests_of_shapes (s ∷ []) s.task) }
plain_put first s may plain = nested_put first s [] (sym (asks_none s may plain))

pub on_ok_weaker : {T E P Q : Type 0} (r : Result T E) → (P → Q) → OnOk r P → OnOk r Q
on_ok_weaker (Ok x) w p = w p
on_ok_weaker (Err e) w p = tt

-- ---- the shapes of a task

put_more : (needs : Needs) (task : ℕ) (xs ys : List RequestNeeds) → with_requests (with_requests needs task xs) task ys ≡ with_requests needs task (xs ++ ys)
put_more [] task xs ys = refl
put_more (ns ∷ rest) zero xs ys = ap (λ zs. zs ∷ rest) (append_assoc ns xs ys)
put_more (ns ∷ rest) (suc task) xs ys = ap (λ zs. ns ∷ zs) (put_more rest task xs ys)

put_long : (needs : Needs) (task : ℕ) (xs : List RequestNeeds) → length (with_requests needs task xs) ≡ length needs
put_long [] task xs = refl
put_long (ns ∷ rest) zero xs = refl
put_long (ns ∷ rest) (suc task) xs = ap suc (put_long rest task xs)

-- the first of these requests were added to what a task needs
pub record HasPut (first now : TaskNeeds) (task : ℕ) (rs : List RequestNeeds) (i : ℕ) : Type 0 where
  pub is : now ≡ record first { tasks = with_requests first.tasks task (take i rs) }

nothing_put : (needs : Needs) (task : ℕ) → with_requests needs task [] ≡ needs
nothing_put [] task = refl
nothing_put (ns ∷ rest) zero = ap (λ xs. xs ∷ rest) (append-nil ns)
nothing_put (ns ∷ rest) (suc task) = ap (λ xs. ns ∷ xs) (nothing_put rest task)

pub puts_none : (first : TaskNeeds) (task : ℕ) (rs : List RequestNeeds) → HasPut first first task rs 0
puts_none first task rs = record { is = λ k. record first { tasks = sym (nothing_put first.tasks task) k } }

pub puts_more : (first now then : TaskNeeds) (task : ℕ) (rs : List RequestNeeds) (i : ℕ) (x : RequestNeeds) → i < length rs → slice_get rs i ≡ Some x → HasPut first now task rs i
    → then ≡ record now { tasks = with_requests now.tasks task (x ∷ []) } → HasPut first then task rs (i + 1)
puts_more first now then task rs i x less at so is = record {
  is =
      is ∙ ap (λ (n : TaskNeeds). record n { tasks = with_requests n.tasks task (x ∷ []) }) so.is
      ∙ ap (λ (ts : Needs). record first { tasks = ts })
      (put_more first.tasks task (take i rs) (x ∷ [])
      ∙ ap (with_requests first.tasks task) (ap (λ y. take i rs ++ y ∷ []) (sym (get_or_from_slice_get rs i x x at)) ∙ sym (take_more rs i x less)));
}

-- what is added for an entry is what is added for its shape
pub shape_is : (now : TaskNeeds) (task : ℕ) (x s : Shape) → x ≡ s → s.task ≡ task
    → record now { tasks = with_requests now.tasks x.task (requests_of_shapes (x ∷ []) x.task) } ≡ record now { tasks = with_requests now.tasks task (request_of s ∷ []) }
shape_is now task x s is of =
    ap (λ (y : Shape). record now { tasks = with_requests now.tasks y.task (requests_of_shapes (y ∷ []) y.task) }) is
    ∙ (λ i. record now { tasks = with_requests now.tasks (of i) (one_of_task s i) })

pub puts_all : (first now : TaskNeeds) (task : ℕ) (rs : List RequestNeeds) (i : ℕ) → length rs ≤ i → HasPut first now task rs i → now ≡ record first { tasks = with_requests first.tasks task rs }
puts_all first now task rs i all so = so.is ∙ ap (λ xs. record first { tasks = with_requests first.tasks task xs }) (take_all i rs all)

pub puts_within : (first now : TaskNeeds) (task : ℕ) (rs : List RequestNeeds) (i : ℕ) → task < length first.tasks → HasPut first now task rs i → task < length now.tasks
puts_within first now task rs i within so = subst (λ (n : TaskNeeds). task < length n.tasks) (sym so.is) (omega (arith, within, put_long first.tasks task (take i rs)))

-- what holds for each shape holds for the shape of an entry
pub of_entry : (P : Shape → Type 0) (es : List Entry) (i : ℕ) (x : Entry) → AllByRecursion P (shapes_in es) → i < length es → x ≡ get_or es i x → P (shape_in x)
of_entry P [] i x all less at = absurd (omega arith)
of_entry P (e ∷ es) zero x all less at = subst (λ (y : Entry). P (shape_in y)) (sym at) all.0
of_entry P (e ∷ es) (suc i) x all less at = of_entry P es i x all.1 (omega arith) at

pub below_entry : (first now : TaskNeeds) (task : ℕ) (rs : List RequestNeeds) (i : ℕ) (es : List Entry) (p : ℕ) (x : Entry) → AreBelow first.groups.q (shapes_in es) → p < length es → x ≡ get_or es p x → HasPut first now task rs i
    → IsTrue (all_below now.groups.q x.request.reads) × IsTrue (all_below now.groups.q x.request.writes)
below_entry first now task rs i es p x below less at so =
    subst (λ (n : TaskNeeds). IsTrue (all_below n.groups.q x.request.reads) × IsTrue (all_below n.groups.q x.request.writes)) (sym so.is)
    (of_entry (λ s. IsTrue (all_below first.groups.q s.request.reads) × IsTrue (all_below first.groups.q s.request.writes)) es p x below less at)

-- ---- all tasks

put_behind : (xs : Needs) (m : ℕ) (ns : List RequestNeeds) → with_requests (xs ++ replicate (suc m) []) (length xs) ns ≡ (xs ++ ns ∷ []) ++ replicate m []
put_behind [] m ns = refl
put_behind (x ∷ xs) m ns = ap (λ zs. x ∷ zs) (put_behind xs m ns)

length_taken : {X : Type 0} (xs : List X) (i : ℕ) → i ≤ length xs → length (take i xs) ≡ i
length_taken xs zero h = refl
length_taken [] (suc i) h = absurd (omega arith)
length_taken (x ∷ xs) (suc i) h = let rest = length_taken xs i (omega arith) in omega (arith, rest)

pub gathered_none : (shapes : List Shape) (tasks : ℕ) → gathered shapes tasks 0 ≡ none_needed tasks
gathered_none shapes tasks = let all : tasks - 0 ≡ tasks = omega arith in ap (λ n. replicate n []) all

pub gathered_more : (shapes : List Shape) (tasks task : ℕ) → task < tasks → with_requests (gathered shapes tasks task) task (requests_of_shapes shapes task) ≡ gathered shapes tasks (task + 1)
gathered_more shapes tasks task less =
    let ns = needs_of_shapes tasks shapes in
    let some : task < length ns = omega (arith, less, tasks_at tasks shapes) in
    let left : tasks - task ≡ suc (tasks - (task + 1)) = omega arith in
    let long = length_taken ns task (omega (arith, some)) in
    ap (λ m. with_requests (take task ns ++ replicate m []) task (requests_of_shapes shapes task)) left
    ∙ ap (λ k. with_requests (take task ns ++ replicate (suc (tasks - (task + 1))) []) k (requests_of_shapes shapes task)) (sym long)
    ∙ put_behind (take task ns) (tasks - (task + 1)) (requests_of_shapes shapes task)
    ∙ ap (λ x. (take task ns ++ x ∷ []) ++ replicate (tasks - (task + 1)) []) (sym (requests_at tasks shapes task less))
    ∙ ap (λ xs. xs ++ replicate (tasks - (task + 1)) []) (sym (take_more ns task [] some))

pub gathered_all : (shapes : List Shape) (tasks : ℕ) → gathered shapes tasks tasks ≡ needs_of_shapes tasks shapes
gathered_all shapes tasks =
    let none : tasks - tasks ≡ 0 = omega arith in
    let all : length (needs_of_shapes tasks shapes) ≤ tasks = omega (arith, tasks_at tasks shapes) in
    ap (λ m. take tasks (needs_of_shapes tasks shapes) ++ replicate m []) none ∙ append-nil (take tasks (needs_of_shapes tasks shapes)) ∙ take_all tasks (needs_of_shapes tasks shapes) all

pub gathered_long : (shapes : List Shape) (tasks task : ℕ) → task ≤ tasks → length (gathered shapes tasks task) ≡ tasks
gathered_long shapes tasks task h =
    let long = length_taken (needs_of_shapes tasks shapes) task (omega (arith, h, tasks_at tasks shapes)) in
    length-append (take task (needs_of_shapes tasks shapes)) (replicate (tasks - task) []) ∙ omega (arith, long, length-replicate {A = List RequestNeeds} (tasks - task) [])
