-- The place of the shape of a request, and the sets that it asks for, after one more request or ask.
use Rattle.std.proofs.Common.{◌≡◌, ◌+◌, ◌==◌, ◌&&◌, ◌||◌, ℕ, zero, suc, Bool, true, false, cond, not, eqb, List, [], ◌∷◌, ◌++◌, length, refl, sym, ap, subst, ◌∙◌, arith}
use Rattle.std.specs.List.{list_any, position_or_len}
use Rattle.std.proofs.lemmas.Bool.{eq-eqb, eqb-true}
use Rattle.std.proofs.lemmas.List.Folds.{position_or_len_push}
use Rattle.std.proofs.lemmas.List.Sums.{fold_push}
use Rattle.rset.specs.Sets.{Set, equals}
use Rattle.rset.specs.SetFacts.{equals_itself}
use Rattle.rclaim.specs.Requests.{RequestFields}
use Rattle.rmodel.proofs.ListFacts.{contrary}
use Rattle.rbound.specs.Needs.{RequestNeeds}
use Rattle.rbound_history.specs.Shapes.{Shape, same_shape, has_shape, with_part, shape_of, joined, with_needed, with_shape, with_shape_ask, shape_index, parts_of}
use Rattle.rbound_history.proofs.SameShapes.{is_of, of_shape}

-- some shape is that of this request of a task
abbrev pub is_known : List Shape → ℕ → RequestFields → Bool
is_known shapes t r = list_any (has_shape t r) shapes

next : (p : ℕ) → 1 + p ≡ suc p
next p = omega arith

-- ---- one more request

itself : (t : ℕ) (n : RequestNeeds) → has_shape t n.request (shape_of t n) ≡ true
itself t n = of_shape t n.request (shape_of t n) (record { task = refl; alike = record { kind = refl; reads = refl; writes = refl; first = refl } })

-- then it is known
pub known_now : (shapes : List Shape) (t : ℕ) (n : RequestNeeds) → is_known (with_needed shapes t n) t n.request ≡ true
known_now [] t n = ap (λ b. b || false) (itself t n)
known_now (y ∷ ss) t n = at (has_shape t n.request y) refl (known_now ss t n)
  where
    at : (b : Bool) → has_shape t n.request y ≡ b → is_known (with_needed ss t n) t n.request ≡ true → is_known (cond b (joined y n ∷ ss) (y ∷ with_needed ss t n)) t n.request ≡ true
    at true has rest = ap (λ b. b || is_known ss t n.request) has
    at false apart rest = ap (λ b. b || is_known (with_needed ss t n) t n.request) apart ∙ rest

-- what was known stays known
pub known_still : (shapes : List Shape) (t : ℕ) (r : RequestFields) (u : ℕ) (m : RequestNeeds) → is_known shapes t r ≡ true → is_known (with_needed shapes u m) t r ≡ true
known_still [] t r u m known = contrary false known refl
known_still (y ∷ ss) t r u m known = at (has_shape u m.request y) (known_still ss t r u m)
  where
    tail : (b : Bool) → (is_known ss t r ≡ true → is_known (with_needed ss u m) t r ≡ true) → (b || is_known ss t r) ≡ true → (b || is_known (with_needed ss u m) t r) ≡ true
    tail true rest is = refl
    tail false rest is = rest is

    at : (b : Bool) → (is_known ss t r ≡ true → is_known (with_needed ss u m) t r ≡ true) → is_known (cond b (joined y m ∷ ss) (y ∷ with_needed ss u m)) t r ≡ true
    at true rest = known
    at false rest = tail (has_shape t r y) rest known

-- the place of its shape is the one that it gets
pub place_now : (shapes : List Shape) (t : ℕ) (n : RequestNeeds) → shape_index (with_needed shapes t n) t n.request ≡ shape_index shapes t n.request
place_now [] t n = ap (λ b. cond (not b) (1 + 0) 0) (itself t n)
place_now (y ∷ ss) t n = at (has_shape t n.request y) (place_now ss t n)
  where
    at : (b : Bool) → shape_index (with_needed ss t n) t n.request ≡ shape_index ss t n.request
        → shape_index (cond b (joined y n ∷ ss) (y ∷ with_needed ss t n)) t n.request ≡ cond (not (has_shape t n.request y)) (1 + shape_index ss t n.request) 0
    at true rest = refl
    at false rest = ap (λ p. cond (not (has_shape t n.request y)) (1 + p) 0) rest

-- the place of a known shape stays
pub place_still : (shapes : List Shape) (t : ℕ) (r : RequestFields) (u : ℕ) (m : RequestNeeds) → is_known shapes t r ≡ true → shape_index (with_needed shapes u m) t r ≡ shape_index shapes t r
place_still [] t r u m known = contrary false known refl
place_still (y ∷ ss) t r u m known = at (has_shape u m.request y) (place_still ss t r u m)
  where
    tail : (b : Bool) → (is_known ss t r ≡ true → shape_index (with_needed ss u m) t r ≡ shape_index ss t r) → (b || is_known ss t r) ≡ true → cond (not b) (1 + shape_index (with_needed ss u m) t r) 0 ≡ cond (not b) (1 + shape_index ss t r) 0
    tail true rest is = refl
    tail false rest is = ap (λ p. 1 + p) (rest is)

    at : (b : Bool) → (is_known ss t r ≡ true → shape_index (with_needed ss u m) t r ≡ shape_index ss t r) → shape_index (cond b (joined y m ∷ ss) (y ∷ with_needed ss u m)) t r ≡ cond (not (has_shape t r y)) (1 + shape_index ss t r) 0
    at true rest = refl
    at false rest = tail (has_shape t r y) rest known

-- a request without asks adds none
pub parts_still : (shapes : List Shape) (u : ℕ) (r : RequestFields) (place : ℕ) → parts_of (with_shape shapes u r) place ≡ parts_of shapes place
parts_still [] u r zero = refl
parts_still [] u r (suc place) = refl
parts_still (y ∷ ss) u r place = at (has_shape u r y) place (parts_still ss u r)
  where
    at : (b : Bool) (place : ℕ) → ((p : ℕ) → parts_of (with_shape ss u r) p ≡ parts_of ss p) → parts_of (cond b (joined y (record { request = r; asks = [] }) ∷ ss) (y ∷ with_shape ss u r)) place ≡ parts_of (y ∷ ss) place
    at true zero rest = refl
    at true (suc place) rest = refl
    at false zero rest = refl
    at false (suc place) rest = rest place

-- ---- one more ask

pub ask_place : (shapes : List Shape) (place : ℕ) (part : Set) (t : ℕ) (r : RequestFields) → shape_index (with_shape_ask shapes place part) t r ≡ shape_index shapes t r
ask_place [] place part t r = refl
ask_place (y ∷ ss) zero part t r = refl
ask_place (y ∷ ss) (suc place) part t r = ap (λ p. cond (not (has_shape t r y)) (1 + p) 0) (ask_place ss place part t r)

-- the number of a set is the one that it gets
pub number_now : (asks : List Set) (part : Set) → position_or_len (equals part) (with_part asks part) ≡ position_or_len (equals part) asks
number_now asks part = at (list_any (equals part) asks)
  where
    behind : (b : Bool) → cond b (length asks + 0) (position_or_len (equals part) asks) ≡ cond b (length asks) (position_or_len (equals part) asks)
    behind true = omega arith
    behind false = refl

    seam : (n k : ℕ) → cond (eqb n k) k n ≡ n
    seam n k = by (eqb n k) refl
      where
        by : (b : Bool) → eqb n k ≡ b → cond b k n ≡ n
        by true e = sym (eqb-true n k e)
        by false e = refl

    at : (b : Bool) → position_or_len (equals part) (cond b asks (asks ++ part ∷ [])) ≡ position_or_len (equals part) asks
    at true = refl
    at false =
        position_or_len_push (equals part) asks part
        ∙ ap (λ b. cond (eqb (position_or_len (equals part) asks) (length asks)) (length asks + cond b 0 1) (position_or_len (equals part) asks)) (equals_itself part)
        ∙ behind (eqb (position_or_len (equals part) asks) (length asks))
        ∙ seam (position_or_len (equals part) asks) (length asks)

-- there is a shape at this place, and it is not that of this request
abbrev pub IsApartAt : List Shape → ℕ → ℕ → RequestFields → Type 0
IsApartAt [] place u r = ⊥
IsApartAt (s ∷ ss) zero u r = has_shape u r s ≡ false
IsApartAt (s ∷ ss) (suc place) u r = IsApartAt ss place u r

-- at the place of one task's shape there is no shape of another task
pub apart_at : (shapes : List Shape) (t : ℕ) (r : RequestFields) (u : ℕ) (q : RequestFields) → (u == t) ≡ false → is_known shapes t r ≡ true → IsApartAt shapes (shape_index shapes t r) u q
apart_at [] t r u q other known = contrary false known refl
apart_at (y ∷ ss) t r u q other known = at (has_shape t r y) refl known (apart_at ss t r u q other)
  where
    at : (b : Bool) → has_shape t r y ≡ b → (b || is_known ss t r) ≡ true → (is_known ss t r ≡ true → IsApartAt ss (shape_index ss t r) u q) → IsApartAt (y ∷ ss) (cond (not b) (1 + shape_index ss t r) 0) u q
    at true has is rest = ap (λ s. (u == s) && same_shape q y.request) (sym (is_of t r y has).task) ∙ ap (λ b. b && same_shape q y.request) other
    at false apart is rest = subst (λ p. IsApartAt (y ∷ ss) p u q) (sym (next (shape_index ss t r))) (rest is)

-- an ask of one shape and a request of another may be taken in any order
pub ask_apart : (shapes : List Shape) (place : ℕ) (part : Set) (u : ℕ) (m : RequestNeeds) → IsApartAt shapes place u m.request → with_needed (with_shape_ask shapes place part) u m ≡ with_shape_ask (with_needed shapes u m) place part
ask_apart [] place part u m apart = absurd apart
ask_apart (y ∷ ss) zero part u m apart =
    ap (λ b. cond b (joined (record y { asks = with_part y.asks part }) m ∷ ss) (record y { asks = with_part y.asks part } ∷ with_needed ss u m)) apart
    ∙ ap (λ b. with_shape_ask (cond b (joined y m ∷ ss) (y ∷ with_needed ss u m)) 0 part) (sym apart)
ask_apart (y ∷ ss) (suc place) part u m apart = at (has_shape u m.request y) (ask_apart ss place part u m apart)
  where
    at : (b : Bool) → with_needed (with_shape_ask ss place part) u m ≡ with_shape_ask (with_needed ss u m) place part → cond b (joined y m ∷ with_shape_ask ss place part) (y ∷ with_needed (with_shape_ask ss place part) u m) ≡ with_shape_ask (cond b (joined y m ∷ ss) (y ∷ with_needed ss u m)) (suc place) part
    at true rest = refl
    at false rest = ap (λ xs. y ∷ xs) rest

-- a request with one more ask is the same as the request, and then the ask of its shape
pub ask_behind : (shapes : List Shape) (t : ℕ) (r : RequestFields) (asks : List Set) (part : Set)
    → with_needed shapes t (record { request = r; asks = asks ++ part ∷ [] }) ≡ with_shape_ask (with_needed shapes t (record { request = r; asks = asks })) (shape_index shapes t r) part
ask_behind [] t r asks part = ap (λ (parts : List Set). record { task = t; request = r; asks = parts } ∷ []) (fold_push with_part [] asks part)
ask_behind (y ∷ ss) t r asks part = at (has_shape t r y) (ask_behind ss t r asks part)
  where
    at : (b : Bool) → with_needed ss t (record { request = r; asks = asks ++ part ∷ [] }) ≡ with_shape_ask (with_needed ss t (record { request = r; asks = asks })) (shape_index ss t r) part
        → cond b (joined y (record { request = r; asks = asks ++ part ∷ [] }) ∷ ss) (y ∷ with_needed ss t (record { request = r; asks = asks ++ part ∷ [] }))
        ≡ with_shape_ask (cond b (joined y (record { request = r; asks = asks }) ∷ ss) (y ∷ with_needed ss t (record { request = r; asks = asks }))) (cond (not b) (1 + shape_index ss t r) 0) part
    at true rest = ap (λ (parts : List Set). record (joined y (record { request = r; asks = asks })) { asks = parts } ∷ ss) (fold_push with_part y.asks asks part)
    at false rest =
        ap (λ (xs : List Shape). y ∷ xs) rest
        ∙ ap (λ p. with_shape_ask (y ∷ with_needed ss t (record { request = r; asks = asks })) p part) (sym (next (shape_index ss t r)))

-- the sets that a known shape asks for, after it asked for one more
pub parts_asked : (shapes : List Shape) (t : ℕ) (r : RequestFields) (part : Set) → is_known shapes t r ≡ true
    → parts_of (with_shape_ask shapes (shape_index shapes t r) part) (shape_index shapes t r) ≡ with_part (parts_of shapes (shape_index shapes t r)) part
parts_asked [] t r part known = contrary false known refl
parts_asked (y ∷ ss) t r part known = at (has_shape t r y) known (parts_asked ss t r part)
  where
    at : (b : Bool) → (b || is_known ss t r) ≡ true
        → (is_known ss t r ≡ true → parts_of (with_shape_ask ss (shape_index ss t r) part) (shape_index ss t r) ≡ with_part (parts_of ss (shape_index ss t r)) part)
        → parts_of (with_shape_ask (y ∷ ss) (cond (not b) (1 + shape_index ss t r) 0) part) (cond (not b) (1 + shape_index ss t r) 0) ≡ with_part (parts_of (y ∷ ss) (cond (not b) (1 + shape_index ss t r) 0)) part
    at true is rest = refl
    at false is rest =
        subst (λ p. parts_of (with_shape_ask (y ∷ ss) p part) p ≡ with_part (parts_of (y ∷ ss) p) part) (sym (next (shape_index ss t r))) (rest is)

-- the sets of another task's shape stay
pub parts_apart : (shapes : List Shape) (t : ℕ) (r : RequestFields) (u : ℕ) (q : RequestFields) (part : Set) → (t == u) ≡ false → is_known shapes t r ≡ true → is_known shapes u q ≡ true
    → parts_of (with_shape_ask shapes (shape_index shapes t r) part) (shape_index shapes u q) ≡ parts_of shapes (shape_index shapes u q)
parts_apart [] t r u q part other known there = contrary false known refl
parts_apart (y ∷ ss) t r u q part other known there = at (has_shape t r y) (has_shape u q y) refl refl known there (parts_apart ss t r u q part other)
  where
    at : (a b : Bool) → has_shape t r y ≡ a → has_shape u q y ≡ b → (a || is_known ss t r) ≡ true → (b || is_known ss u q) ≡ true
        → (is_known ss t r ≡ true → is_known ss u q ≡ true → parts_of (with_shape_ask ss (shape_index ss t r) part) (shape_index ss u q) ≡ parts_of ss (shape_index ss u q))
        → parts_of (with_shape_ask (y ∷ ss) (cond (not a) (1 + shape_index ss t r) 0) part) (cond (not b) (1 + shape_index ss u q) 0) ≡ parts_of (y ∷ ss) (cond (not b) (1 + shape_index ss u q) 0)
    at true true has_t has_u is there rest = contrary (t == u) (eq-eqb t u ((is_of t r y has_t).task ∙ sym (is_of u q y has_u).task)) other
    at true false has_t has_u is there rest = ap (parts_of (record y { asks = with_part y.asks part } ∷ ss)) (next (shape_index ss u q)) ∙ ap (parts_of (y ∷ ss)) (sym (next (shape_index ss u q)))
    at false true has_t has_u is there rest = ap (λ p. parts_of (with_shape_ask (y ∷ ss) p part) 0) (next (shape_index ss t r))
    at false false has_t has_u is there rest =
        subst (λ (p : ℕ × ℕ). parts_of (with_shape_ask (y ∷ ss) p.0 part) p.1 ≡ parts_of (y ∷ ss) p.1) (λ i. (sym (next (shape_index ss t r)) i, sym (next (shape_index ss u q)) i)) (rest is there)
