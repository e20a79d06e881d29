-- What a caller knows of shapes after they have grown.
use Rattle.std.proofs.Common.{◌≡◌, ◌<◌, ◌≤◌, ◌+◌, not, ℕ, zero, suc, Bool, true, false, cond, List, [], ◌∷◌, length, IsTrue, refl, sym, ap, ◌∙◌, arith}
use Rattle.rset.specs.Sets.{Set, all_below}
use Rattle.rmodel.specs.Claims.{is_nested}
use Rattle.rmodel.proofs.ListFacts.{contrary}
use Rattle.rbound.specs.Needs.{RequestNeeds}
use Rattle.rbound_history.specs.Shapes.{Shape, has_shape, joined, with_needed, shape_index, with_shape_ask, is_nested_at}
use Rattle.rbound_history.specs.ShapeNeeds.{AreBelow}
use Rattle.rbound_history.proofs.SameShapes.{is_of}

-- ---- sets that are below q

-- with one more request whose sets are below q
pub below_more : (q : ℕ) (shapes : List Shape) (t : ℕ) (n : RequestNeeds) → AreBelow q shapes → IsTrue (all_below q n.request.reads) → IsTrue (all_below q n.request.writes) → AreBelow q (with_needed shapes t n)
below_more q [] t n below reads writes = ((reads, writes), tt)
below_more q (s ∷ ss) t n below reads writes = at (has_shape t n.request s) (below_more q ss t n below.1 reads writes)
  where
    at : (b : Bool) → AreBelow q (with_needed ss t n) → AreBelow q (cond b (joined s n ∷ ss) (s ∷ with_needed ss t n))
    at true rest = (below.0, below.1)
    at false rest = (below.0, rest)

-- with one more ask
pub below_asked : (q : ℕ) (shapes : List Shape) (place : ℕ) (part : Set) → AreBelow q shapes → AreBelow q (with_shape_ask shapes place part)
below_asked q [] place part below = tt
below_asked q (s ∷ ss) zero part below = (below.0, below.1)
below_asked q (s ∷ ss) (suc place) part below = (below.0, below_asked q ss place part below.1)

-- ---- nested requests

-- the shape of a request is nested where the request is
pub nested_new : (shapes : List Shape) (t : ℕ) (n : RequestNeeds) → is_nested_at (with_needed shapes t n) (shape_index shapes t n.request) ≡ is_nested n.request.kind
nested_new [] t n = refl
nested_new (s ∷ ss) t n = at (has_shape t n.request s) refl (nested_new ss t n)
  where
    next : (p : ℕ) → 1 + p ≡ suc p
    next p = omega arith

    at : (b : Bool) → has_shape t n.request s ≡ b → is_nested_at (with_needed ss t n) (shape_index ss t n.request) ≡ is_nested n.request.kind
        → is_nested_at (cond b (joined s n ∷ ss) (s ∷ with_needed ss t n)) (cond (not b) (1 + shape_index ss t n.request) 0) ≡ is_nested n.request.kind
    at true has rest = ap is_nested (sym (is_of t n.request s has).alike.kind)
    at false apart rest = ap (is_nested_at (s ∷ with_needed ss t n)) (next (shape_index ss t n.request)) ∙ rest

-- and it stays nested
pub nested_stays : (shapes : List Shape) (t : ℕ) (n : RequestNeeds) (place : ℕ) → is_nested_at shapes place ≡ true → is_nested_at (with_needed shapes t n) place ≡ true
nested_stays [] t n place nested = contrary false nested refl
nested_stays (s ∷ ss) t n zero nested = at (has_shape t n.request s)
  where
    at : (b : Bool) → is_nested_at (cond b (joined s n ∷ ss) (s ∷ with_needed ss t n)) 0 ≡ true
    at true = nested
    at false = nested
nested_stays (s ∷ ss) t n (suc place) nested = at (has_shape t n.request s) (nested_stays ss t n place nested)
  where
    at : (b : Bool) → is_nested_at (with_needed ss t n) place ≡ true → is_nested_at (cond b (joined s n ∷ ss) (s ∷ with_needed ss t n)) (suc place) ≡ true
    at true rest = nested
    at false rest = rest

pub nested_asked : (shapes : List Shape) (at : ℕ) (part : Set) (place : ℕ) → is_nested_at (with_shape_ask shapes at part) place ≡ is_nested_at shapes place
nested_asked [] at part place = refl
nested_asked (s ∷ ss) zero part zero = refl
nested_asked (s ∷ ss) zero part (suc place) = refl
nested_asked (s ∷ ss) (suc at) part zero = refl
nested_asked (s ∷ ss) (suc at) part (suc place) = nested_asked ss at part place

-- ---- places

-- the shape of a request has a place
pub place_within : (shapes : List Shape) (t : ℕ) (n : RequestNeeds) → shape_index shapes t n.request < length (with_needed shapes t n)
place_within [] t n = omega arith
place_within (s ∷ ss) t n = at (has_shape t n.request s) (place_within ss t n)
  where
    at : (b : Bool) → shape_index ss t n.request < length (with_needed ss t n) → cond (not b) (1 + shape_index ss t n.request) 0 < length (cond b (joined s n ∷ ss) (s ∷ with_needed ss t n))
    at true rest = omega arith
    at false rest = omega arith

-- no place is lost
pub no_fewer : (shapes : List Shape) (t : ℕ) (n : RequestNeeds) → length shapes ≤ length (with_needed shapes t n)
no_fewer [] t n = omega arith
no_fewer (s ∷ ss) t n = at (has_shape t n.request s) (no_fewer ss t n)
  where
    at : (b : Bool) → length ss ≤ length (with_needed ss t n) → suc (length ss) ≤ length (cond b (joined s n ∷ ss) (s ∷ with_needed ss t n))
    at true rest = omega arith
    at false rest = omega arith

pub as_many_asked : (shapes : List Shape) (place : ℕ) (part : Set) → length (with_shape_ask shapes place part) ≡ length shapes
as_many_asked [] place part = refl
as_many_asked (s ∷ ss) zero part = refl
as_many_asked (s ∷ ss) (suc place) part = ap suc (as_many_asked ss place part)
