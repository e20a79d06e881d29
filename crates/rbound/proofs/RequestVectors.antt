-- The requests of tasks as they are kept: how a change of one vector changes what is needed.
use Rattle.std.proofs.Common.{◌≡◌, ◌<◌, ◌+◌, ℕ, zero, suc, List, [], ◌∷◌, ◌++◌, length, map, slice_index_or, slice_set, Result, Ok, Err, OnErr, refl, sym, ap, ◌∙◌, arith}
use Rattle.std.specs.declared.vec.Vec.{Vec}
use Rattle.std.specs.declared.alloc.Global.{Global}
use Rattle.rset.specs.Sets.{Set}
use Rattle.rbound.specs.declared.requests.RequestAsks.{RequestAsks}
use Rattle.rbound.specs.Needs.{RequestNeeds}
use Rattle.rbound.specs.TaskNeeds.{with_request, with_ask, with_last_ask, requests_of}
use Rattle.rbound.specs.Kept.{needs_in, tasks_in}

abbrev Kept : Type 0
Kept = Vec RequestAsks Global

pub map_push : {X Y : Type 0} (f : X → Y) (xs : List X) (x : X) → map f (xs ++ x ∷ []) ≡ map f xs ++ f x ∷ []
map_push f [] x = refl
map_push f (y ∷ ys) x = ap (λ us. f y ∷ us) (map_push f ys x)

pub one_pushed : (ts : List Kept) (i : ℕ) (v w : Kept) (x : RequestAsks) → i < length ts → v ≡ slice_index_or ts i v → w.items ≡ v.items ++ x ∷ [] → x.asks.items ≡ []
    → tasks_in (slice_set ts i w) ≡ with_request (tasks_in ts) i x.request
one_pushed [] i v w x h is pushed none = absurd (omega arith)
one_pushed (t ∷ ts) zero v w x h is pushed none =
    ap (λ ns. ns ∷ tasks_in ts)
    (ap (map needs_in) pushed ∙ map_push needs_in v.items x
    ∙ ap (λ asks. map needs_in v.items ++ record { request = x.request; asks = asks } ∷ []) none
    ∙ ap (λ (u : Kept). map needs_in u.items ++ record { request = x.request; asks = [] } ∷ []) is)
one_pushed (t ∷ ts) (suc i) v w x h is pushed none = ap (λ rest. map needs_in t.items ∷ rest) (one_pushed ts i v w x (omega arith) is pushed none)

pub one_kept : (ts : List Kept) (i : ℕ) (v w : Kept) → v ≡ slice_index_or ts i v → map needs_in w.items ≡ map needs_in v.items → tasks_in (slice_set ts i w) ≡ tasks_in ts
one_kept [] i v w is same = refl
one_kept (t ∷ ts) zero v w is same = ap (λ ns. ns ∷ tasks_in ts) (same ∙ ap (λ (u : Kept). map needs_in u.items) is)
one_kept (t ∷ ts) (suc i) v w is same = ap (λ rest. map needs_in t.items ∷ rest) (one_kept ts i v w is same)

pub one_asked : (ts : List Kept) (i : ℕ) (v w : Kept) (part : Set) → v ≡ slice_index_or ts i v → i < length ts → map needs_in w.items ≡ with_last_ask (map needs_in v.items) part
    → tasks_in (slice_set ts i w) ≡ with_ask (tasks_in ts) i part
one_asked [] i v w part is h asked = absurd (omega arith)
one_asked (t ∷ ts) zero v w part is h asked = ap (λ ns. ns ∷ tasks_in ts) (asked ∙ ap (λ (u : Kept). with_last_ask (map needs_in u.items) part) is)
one_asked (t ∷ ts) (suc i) v w part is h asked = ap (λ rest. map needs_in t.items ∷ rest) (one_asked ts i v w part is (omega arith) asked)

pub requests_at : (ts : List Kept) (i : ℕ) (v : Kept) → i < length ts → v ≡ slice_index_or ts i v → requests_of (tasks_in ts) i ≡ map needs_in v.items
requests_at [] i v h is = absurd (omega arith)
requests_at (t ∷ ts) zero v h is = ap (λ (u : Kept). map needs_in u.items) (sym is)
requests_at (t ∷ ts) (suc i) v h is = requests_at ts i v (omega arith) is

pub length_map : {X Y : Type 0} (f : X → Y) (xs : List X) → length (map f xs) ≡ length xs
length_map f [] = refl
length_map f (x ∷ xs) = let rest : length (map f xs) ≡ length xs = length_map f xs in omega arith

pub last_pushed : (xs : List RequestAsks) (i : ℕ) (x y : RequestAsks) (part : Set) → i + 1 ≡ length xs → x ≡ slice_index_or xs i x → y.request ≡ x.request → y.asks.items ≡ x.asks.items ++ part ∷ []
    → map needs_in (slice_set xs i y) ≡ with_last_ask (map needs_in xs) part
last_pushed [] i x y part h is same pushed = absurd (omega arith)
last_pushed (z ∷ []) zero x y part h is same pushed =
    ap (λ (n : RequestNeeds). n ∷ [])
    ((λ k. record { request = same k; asks = pushed k }) ∙ ap (λ (u : RequestAsks). record { request = u.request; asks = u.asks.items ++ part ∷ [] }) is)
last_pushed (z ∷ []) (suc i) x y part h is same pushed = absurd (omega arith)
last_pushed (z ∷ u ∷ us) zero x y part h is same pushed = absurd (omega arith)
last_pushed (z ∷ u ∷ us) (suc i) x y part h is same pushed = ap (λ ns. needs_in z ∷ ns) (last_pushed (u ∷ us) i x y part (omega arith) is same pushed) ∙ shown (map needs_in us)
  where
    shown : (ns : List RequestNeeds) → needs_in z ∷ with_last_ask (needs_in u ∷ ns) part ≡ with_last_ask (needs_in z ∷ needs_in u ∷ ns) part
    shown ns = refl

pub one_same : (xs : List RequestAsks) (i : ℕ) (x y : RequestAsks) → x ≡ slice_index_or xs i x → y.request ≡ x.request → y.asks.items ≡ x.asks.items → map needs_in (slice_set xs i y) ≡ map needs_in xs
one_same [] i x y is same kept = refl
one_same (z ∷ zs) zero x y is same kept =
    ap (λ (n : RequestNeeds). n ∷ map needs_in zs) ((λ k. record { request = same k; asks = kept k }) ∙ ap (λ (u : RequestAsks). needs_in u) is)
one_same (z ∷ zs) (suc i) x y is same kept = ap (λ ns. needs_in z ∷ ns) (one_same zs i x y is same kept)

pub on_err : {T E P : Type 0} (r : Result T E) → P → OnErr r P
on_err (Ok x) p = tt
on_err (Err e) p = p

pub on_err_weaker : {T E P Q : Type 0} (r : Result T E) → (P → Q) → OnErr r P → OnErr r Q
on_err_weaker (Ok x) w p = tt
on_err_weaker (Err e) w p = w p
