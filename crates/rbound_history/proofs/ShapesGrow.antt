-- How shapes grow with the requests and asks that they represent.
use Rattle.std.proofs.Common.{◌≡◌, ◌≤◌, ◌+◌, ◌||◌, ◌⊎◌, not, ltb, ℕ, zero, suc, Bool, true, false, cond, max, List, [], ◌∷◌, ◌++◌, slice_get, Some, refl, sym, ap, subst, ◌∙◌, inl, inr, arith, ltb-true, ltb-false}
use Rattle.std.specs.List.{list_any}
use Rattle.rset.specs.Sets.{Set, equals}
use Rattle.rset.specs.SetFacts.{equals-true}
use Rattle.rclaim.specs.Requests.{RequestFields}
use Rattle.rmodel.specs.WellFormed.{Among}
use Rattle.rmodel.proofs.ListFacts.{none_among, none_from, passing, contrary, false_from, among_append, among_behind}
use Rattle.rmodel.proofs.reaching.Came.{in_append}
use Rattle.rmodel.proofs.settling.OneSettlement.{both_cases}
use Rattle.rbound.specs.Needs.{RequestNeeds}
use Rattle.rbound.proofs.ClaimFacts.{some_is}
use Rattle.rbound_history.specs.Shapes.{Shape, has_shape, with_part, with_parts, shape_of, joined, with_needed, shape_index}
use Rattle.rbound_history.specs.Histories.{IsTold, SomeRequest, IsMade, AreDifferent, TellAll}
use Rattle.rbound_history.proofs.SameShapes.{Alike, alike_back, alike_on, is_of, of_shape}
use Rattle.rbound_history.proofs.ShapeRequests.{some_none, at_among}

-- ---- one shape

-- two shapes of one request are of one task and alike
pub both_of : (t : ℕ) (r : RequestFields) (s x : Shape) → has_shape t r s ≡ true → has_shape t r x ≡ true → has_shape s.task s.request x ≡ true
both_of t r s x a b =
    let of_s = is_of t r s a in
    let of_x = is_of t r x b in
    of_shape s.task s.request x (record { task = sym of_s.task ∙ of_x.task; alike = alike_on s.request r x.request (alike_back r s.request of_s.alike) of_x.alike })

pub one_only : (shapes : List Shape) (t : ℕ) (r : RequestFields) (s x : Shape) → AreDifferent shapes → Among s shapes → Among x shapes → has_shape t r s ≡ true → has_shape t r x ≡ true → s ≡ x
one_only [] t r s x different a b has_s has_x = absurd a
one_only (y ∷ ss) t r s x different (inl a) (inl b) has_s has_x = a ∙ sym b
one_only (y ∷ ss) t r s x different (inl a) (inr b) has_s has_x =
    contrary (has_shape y.task y.request x) (ap (λ (z : Shape). has_shape z.task z.request x) (sym a) ∙ both_of t r s x has_s has_x) (none_among (has_shape y.task y.request) ss x different.0 b)
one_only (y ∷ ss) t r s x different (inr a) (inl b) has_s has_x =
    contrary (has_shape y.task y.request s) (ap (λ (z : Shape). has_shape z.task z.request s) (sym b) ∙ both_of t r x s has_x has_s) (none_among (has_shape y.task y.request) ss s different.0 a)
one_only (y ∷ ss) t r s x different (inr a) (inr b) has_s has_x = one_only ss t r s x different.1 a b has_s has_x

-- ---- what a shape becomes

-- a shape grew: no length is smaller, and no ask is lost
pub record HasGrown (s x : Shape) : Type 0 where
  pub task : s.task ≡ x.task
  pub alike : Alike s.request x.request
  pub len : s.request.len ≤ x.request.len
  pub later : s.request.later ≤ x.request.later
  pub asks : (part : Set) → Among part s.asks → Among part x.asks

pub grown_itself : (s : Shape) → HasGrown s s
grown_itself s = record { task = refl; alike = record { kind = refl; reads = refl; writes = refl; first = refl }; len = omega arith; later = omega arith; asks = λ part there. there }

-- it still has the requests that it had
pub still_has : (t : ℕ) (r : RequestFields) (s x : Shape) → HasGrown s x → has_shape t r s ≡ true → has_shape t r x ≡ true
still_has t r s x grown h =
    let of = is_of t r s h in
    of_shape t r x (record { task = of.task ∙ grown.task; alike = alike_on r s.request x.request of.alike grown.alike })

pub still_told : (t : ℕ) (n : RequestNeeds) (s x : Shape) → HasGrown s x → IsTold t n s → IsTold t n x
still_told t n s x grown told = record {
  same = still_has t n.request s x grown told.same;
  len = omega (arith, told.len, grown.len);
  later = omega (arith, told.later, grown.later);
  asks = λ part there. grown.asks part (told.asks part there);
}

-- ---- different sets

pub part_kept : (asks : List Set) (part x : Set) → Among x asks → Among x (with_part asks part)
part_kept asks part x there = at (list_any (equals part) asks)
  where
    at : (b : Bool) → Among x (cond b asks (asks ++ part ∷ []))
    at true = there
    at false = in_append asks (part ∷ []) x there

pub part_taken : (asks : List Set) (part : Set) → Among part (with_part asks part)
part_taken asks part = at (list_any (equals part) asks) refl
  where
    at : (b : Bool) → list_any (equals part) asks ≡ b → Among part (cond b asks (asks ++ part ∷ []))
    at true some = let found = passing (equals part) asks some in subst (λ (x : Set). Among x asks) (sym (equals-true part found.0 found.2)) found.1
    at false none = among_behind asks (part ∷ []) part (inl refl)

pub part_from : (asks : List Set) (part x : Set) → Among x (with_part asks part) → Among x asks ⊎ (x ≡ part)
part_from asks part x there = at (list_any (equals part) asks) there
  where
    at : (b : Bool) → Among x (cond b asks (asks ++ part ∷ [])) → Among x asks ⊎ (x ≡ part)
    at true there = inl there
    at false there = elim (among_append asks (part ∷ []) x there) [
      | inl before ↦ inl before
      | inr behind ↦ last behind
    ]
      where
        last : Among x (part ∷ []) → Among x asks ⊎ (x ≡ part)
        last (inl same) = inr same
        last (inr later) = absurd later

parts_kept : (parts asks : List Set) (x : Set) → Among x asks → Among x (with_parts asks parts)
parts_kept [] asks x there = there
parts_kept (p ∷ ps) asks x there = parts_kept ps (with_part asks p) x (part_kept asks p x there)

parts_taken : (parts asks : List Set) (x : Set) → Among x parts → Among x (with_parts asks parts)
parts_taken [] asks x there = absurd there
parts_taken (p ∷ ps) asks x (inl same) = parts_kept ps (with_part asks p) x (subst (λ (y : Set). Among y (with_part asks p)) (sym same) (part_taken asks p))
parts_taken (p ∷ ps) asks x (inr later) = parts_taken ps (with_part asks p) x later

parts_from : (parts asks : List Set) (x : Set) → Among x (with_parts asks parts) → Among x asks ⊎ Among x parts
parts_from [] asks x there = inl there
parts_from (p ∷ ps) asks x there =
    elim (parts_from ps (with_part asks p) x there) [
      | inl before ↦ first before
      | inr later ↦ inr (inr later)
    ]
  where
    first : Among x (with_part asks p) → Among x asks ⊎ Among x (p ∷ ps)
    first before = elim (part_from asks p x before) [ inl old ↦ inl old | inr same ↦ inr (inl same) ]

-- ---- one more request

grown_joined : (s : Shape) (n : RequestNeeds) → HasGrown s (joined s n)
grown_joined s n = record {
  task = refl;
  alike = record { kind = refl; reads = refl; writes = refl; first = refl };
  len = omega arith;
  later = omega arith;
  asks = λ part there. parts_kept n.asks s.asks part there;
}

-- a shape stays, except for what it takes over
pub stays : (shapes : List Shape) (t : ℕ) (n : RequestNeeds) (place : ℕ) (s : Shape) → slice_get shapes place ≡ Some s → (x : Shape) × (slice_get (with_needed shapes t n) place ≡ Some x) × HasGrown s x
stays [] t n place s at = some_none (sym at)
stays (y ∷ ss) t n zero s at = by (has_shape t n.request y)
  where
    by : (b : Bool) → (x : Shape) × (slice_get (cond b (joined y n ∷ ss) (y ∷ with_needed ss t n)) 0 ≡ Some x) × HasGrown s x
    by true = (joined y n, refl, subst (λ (z : Shape). HasGrown z (joined y n)) (some_is at) (grown_joined y n))
    by false = (y, refl, subst (λ (z : Shape). HasGrown z y) (some_is at) (grown_itself y))
stays (y ∷ ss) t n (suc place) s at = by (has_shape t n.request y) (stays ss t n place s at)
  where
    by : (b : Bool) → (x : Shape) × (slice_get (with_needed ss t n) place ≡ Some x) × HasGrown s x → (x : Shape) × (slice_get (cond b (joined y n ∷ ss) (y ∷ with_needed ss t n)) (suc place) ≡ Some x) × HasGrown s x
    by true rest = (s, at, grown_itself s)
    by false rest = rest

kept : (shapes : List Shape) (t : ℕ) (n : RequestNeeds) (s : Shape) → Among s shapes → (x : Shape) × Among x (with_needed shapes t n) × HasGrown s x
kept [] t n s there = absurd there
kept (y ∷ ss) t n s (inl same) = by (has_shape t n.request y)
  where
    by : (b : Bool) → (x : Shape) × Among x (cond b (joined y n ∷ ss) (y ∷ with_needed ss t n)) × HasGrown s x
    by true = (joined y n, inl refl, subst (λ (z : Shape). HasGrown z (joined y n)) (sym same) (grown_joined y n))
    by false = (y, inl refl, subst (λ (z : Shape). HasGrown z y) (sym same) (grown_itself y))
kept (y ∷ ss) t n s (inr later) = by (has_shape t n.request y) (kept ss t n s later)
  where
    by : (b : Bool) → (x : Shape) × Among x (with_needed ss t n) × HasGrown s x → (x : Shape) × Among x (cond b (joined y n ∷ ss) (y ∷ with_needed ss t n)) × HasGrown s x
    by true rest = (s, inr later, grown_itself s)
    by false rest = (rest.0, inr rest.1, rest.2)

itself : (t : ℕ) (n : RequestNeeds) → has_shape t n.request (shape_of t n) ≡ true
itself t n = of_shape t n.request (shape_of t n) (record { task = refl; alike = record { kind = refl; reads = refl; writes = refl; first = refl } })

told_new : (t : ℕ) (n : RequestNeeds) → IsTold t n (shape_of t n)
told_new t n = record { same = itself t n; len = omega arith; later = omega arith; asks = λ part there. parts_taken n.asks [] part there }

told_joined : (t : ℕ) (n : RequestNeeds) (s : Shape) → has_shape t n.request s ≡ true → IsTold t n (joined s n)
told_joined t n s has = record { same = has; len = omega arith; later = omega arith; asks = λ part there. parts_taken n.asks s.asks part there }

-- *The shape at the place of a request represents it*
pub told_there : (shapes : List Shape) (t : ℕ) (n : RequestNeeds) → (s : Shape) × (slice_get (with_needed shapes t n) (shape_index shapes t n.request) ≡ Some s) × IsTold t n s
told_there [] t n = (shape_of t n, refl, told_new t n)
told_there (y ∷ ss) t n = by (has_shape t n.request y) refl (told_there ss t n)
  where
    next : (p : ℕ) → 1 + p ≡ suc p
    next p = omega arith

    by : (b : Bool) → has_shape t n.request y ≡ b → (s : Shape) × (slice_get (with_needed ss t n) (shape_index ss t n.request) ≡ Some s) × IsTold t n s
        → (s : Shape) × (slice_get (cond b (joined y n ∷ ss) (y ∷ with_needed ss t n)) (cond (not b) (1 + shape_index ss t n.request) 0) ≡ Some s) × IsTold t n s
    by true has rest = (joined y n, refl, told_joined t n y has)
    by false apart rest = (rest.0, ap (slice_get (y ∷ with_needed ss t n)) (next (shape_index ss t n.request)) ∙ rest.1, rest.2)

-- where a shape comes from: it was there, or it is new, or it took over the request
abbrev pub ComesFrom : List Shape → ℕ → RequestNeeds → Shape → Type 0
ComesFrom shapes t n x = Among x shapes ⊎ (((list_any (has_shape t n.request) shapes ≡ false) × (x ≡ shape_of t n)) ⊎ ((s : Shape) × Among s shapes × (has_shape t n.request s ≡ true) × (x ≡ joined s n)))

from : (shapes : List Shape) (t : ℕ) (n : RequestNeeds) (x : Shape) → Among x (with_needed shapes t n) → ComesFrom shapes t n x
from [] t n x (inl same) = inr (inl (refl, same))
from [] t n x (inr later) = absurd later
from (y ∷ ss) t n x there = by (has_shape t n.request y) refl there (from ss t n x)
  where
    onward : has_shape t n.request y ≡ false → ComesFrom ss t n x → ComesFrom (y ∷ ss) t n x
    onward apart (inl old) = inl (inr old)
    onward apart (inr (inl new)) = inr (inl ((λ i. apart i || new.0 i), new.1))
    onward apart (inr (inr taken)) = inr (inr (taken.0, inr taken.1, taken.2, taken.3))

    by : (b : Bool) → has_shape t n.request y ≡ b → Among x (cond b (joined y n ∷ ss) (y ∷ with_needed ss t n)) → (Among x (with_needed ss t n) → ComesFrom ss t n x) → ComesFrom (y ∷ ss) t n x
    by true has (inl same) rest = inr (inr (y, inl refl, has, same))
    by true has (inr later) rest = inl (inr later)
    by false apart (inl same) rest = inl (inl same)
    by false apart (inr later) rest = onward apart (rest later)

-- shapes of other requests stay so
still_apart : (shapes : List Shape) (t : ℕ) (n : RequestNeeds) (y : Shape) → has_shape t n.request y ≡ false → list_any (has_shape y.task y.request) shapes ≡ false → list_any (has_shape y.task y.request) (with_needed shapes t n) ≡ false
still_apart shapes t n y apart none =
    none_from (has_shape y.task y.request) (with_needed shapes t n) (λ x there. by x (from shapes t n x there))
  where
    by : (x : Shape) → ComesFrom shapes t n x → has_shape y.task y.request x ≡ false
    by x (inl old) = none_among (has_shape y.task y.request) shapes x none old
    by x (inr (inl new)) =
        false_from (has_shape y.task y.request x)
        (λ h.
        let of = is_of y.task y.request (shape_of t n) (ap (has_shape y.task y.request) (sym new.1) ∙ h) in
        contrary (has_shape t n.request y) (of_shape t n.request y (record { task = sym of.task; alike = alike_back y.request n.request of.alike })) apart)
    by x (inr (inr taken)) = ap (has_shape y.task y.request) taken.3 ∙ none_among (has_shape y.task y.request) shapes taken.0 none taken.1

pub still_different : (shapes : List Shape) (t : ℕ) (n : RequestNeeds) → AreDifferent shapes → AreDifferent (with_needed shapes t n)
still_different [] t n different = (refl, tt)
still_different (y ∷ ss) t n different = by (has_shape t n.request y) refl (still_different ss t n different.1)
  where
    by : (b : Bool) → has_shape t n.request y ≡ b → AreDifferent (with_needed ss t n) → AreDifferent (cond b (joined y n ∷ ss) (y ∷ with_needed ss t n))
    by true has rest = (different.0, different.1)
    by false apart rest = (still_apart ss t n y apart different.0, rest)

-- ---- what they represent

module _ (is_one other : ℕ → RequestNeeds → Type 0) where
  -- a request of the one sort is one of the other
  request_carried : (s x : Shape) (is_so is_such : RequestNeeds → Type 0) → HasGrown s x → ((n : RequestNeeds) → is_one s.task n → other s.task n) → ((n : RequestNeeds) → is_so n → is_such n) → SomeRequest is_one s is_so → SomeRequest other x is_such
  request_carried s x is_so is_such grown carry gives some = record {
    request = some.request;
    there = subst (λ (t : ℕ). other t some.request) grown.task (carry some.request some.there);
    same = subst (λ (t : ℕ). has_shape t some.request.request x ≡ true) grown.task (still_has s.task some.request.request s x grown some.same);
    so = gives some.request some.so;
  }

  pub made_carried : (s : Shape) → ((n : RequestNeeds) → is_one s.task n → other s.task n) → IsMade is_one s → IsMade other s
  made_carried s carry made = record {
    len = request_carried s s _ _ (grown_itself s) carry (λ n h. h) made.len;
    later = request_carried s s _ _ (grown_itself s) carry (λ n h. h) made.later;
    asks = λ part there. request_carried s s _ _ (grown_itself s) carry (λ n h. h) (made.asks part there);
  }

  -- the same requests, described in another way
  pub told_alike : (shapes : List Shape) → ((t : ℕ) (n : RequestNeeds) → is_one t n → other t n) → ((t : ℕ) (n : RequestNeeds) → other t n → is_one t n) → TellAll is_one shapes → TellAll other shapes
  told_alike shapes carry back tell = record {
    told = λ t n one. tell.told t n (back t n one);
    made = λ s there. made_carried s (carry s.task) (tell.made s there);
    different = tell.different;
  }

max_one : (a b : ℕ) → (b ≤ a) × (max a b ≡ a) ⊎ (max a b ≡ b)
max_one a b =
    both_cases (ltb a b)
    (λ less. let lt = ltb-true a b less in inr (omega (arith, lt)))
    (λ more. let ge = ltb-false a b more in inl (omega (arith, ge), omega (arith, ge)))

-- one of the requests in question, or this one
abbrev pub WithOne : (ℕ → RequestNeeds → Type 0) → ℕ → RequestNeeds → ℕ → RequestNeeds → Type 0
WithOne is_one task n t m = is_one t m ⊎ ((t ≡ task) × (m ≡ n))

module _ (is_one : ℕ → RequestNeeds → Type 0) (task : ℕ) (n : RequestNeeds) where
  -- the new request, for its own shape
  own : (x : Shape) (is_so : RequestNeeds → Type 0) → has_shape task n.request x ≡ true → is_so n → SomeRequest (WithOne is_one task n) x is_so
  own x is_so has so =
      let of = is_of task n.request x has in
      record {
        request = n;
        there = inr (sym of.task, refl);
        same = subst (λ (t : ℕ). has_shape t n.request x ≡ true) of.task has;
        so = so;
      }

  made_new : IsMade (WithOne is_one task n) (shape_of task n)
  made_new = record {
    len = own (shape_of task n) _ (itself task n) refl;
    later = own (shape_of task n) _ (itself task n) refl;
    asks = λ part there. own (shape_of task n) (λ m. Among part m.asks) (itself task n) (by part (parts_from n.asks [] part there));
  }
    where
      by : (part : Set) → Among part [] ⊎ Among part n.asks → Among part n.asks
      by part (inl none) = absurd none
      by part (inr there) = there

  made_joined : (s : Shape) → has_shape task n.request s ≡ true → IsMade is_one s → IsMade (WithOne is_one task n) (joined s n)
  made_joined s has made = record {
    len = len (max_one s.request.len n.request.len);
    later = later (max_one s.request.later n.request.later);
    asks = λ part there. asks part (parts_from n.asks s.asks part there);
  }
    where
      of_old : (is_so is_such : RequestNeeds → Type 0) → ((m : RequestNeeds) → is_so m → is_such m) → SomeRequest is_one s is_so → SomeRequest (WithOne is_one task n) (joined s n) is_such
      of_old is_so is_such gives some = request_carried is_one (WithOne is_one task n) s (joined s n) is_so is_such (grown_joined s n) (λ m one. inl one) gives some

      len : (n.request.len ≤ s.request.len) × (max s.request.len n.request.len ≡ s.request.len) ⊎ (max s.request.len n.request.len ≡ n.request.len) → SomeRequest (WithOne is_one task n) (joined s n) (λ m. m.request.len ≡ max s.request.len n.request.len)
      len (inl old) = of_old (λ m. m.request.len ≡ s.request.len) (λ m. m.request.len ≡ max s.request.len n.request.len) (λ m same. same ∙ sym old.1) made.len
      len (inr new) = own (joined s n) (λ m. m.request.len ≡ max s.request.len n.request.len) has (sym new)

      later : (n.request.later ≤ s.request.later) × (max s.request.later n.request.later ≡ s.request.later) ⊎ (max s.request.later n.request.later ≡ n.request.later) → SomeRequest (WithOne is_one task n) (joined s n) (λ m. m.request.later ≡ max s.request.later n.request.later)
      later (inl old) = of_old (λ m. m.request.later ≡ s.request.later) (λ m. m.request.later ≡ max s.request.later n.request.later) (λ m same. same ∙ sym old.1) made.later
      later (inr new) = own (joined s n) (λ m. m.request.later ≡ max s.request.later n.request.later) has (sym new)

      asks : (part : Set) → Among part s.asks ⊎ Among part n.asks → SomeRequest (WithOne is_one task n) (joined s n) (λ m. Among part m.asks)
      asks part (inl old) = of_old (λ m. Among part m.asks) (λ m. Among part m.asks) (λ m there. there) (made.asks part old)
      asks part (inr new) = own (joined s n) (λ m. Among part m.asks) has new

  -- *The shapes with one more request represent it*
  pub told_more : (shapes : List Shape) → TellAll is_one shapes → TellAll (WithOne is_one task n) (with_needed shapes task n)
  told_more shapes tell = record {
    told = λ t m one. told t m one;
    made = λ x there. made x (from shapes task n x there);
    different = still_different shapes task n tell.different;
  }
    where
      told : (t : ℕ) (m : RequestNeeds) → WithOne is_one task n t m → (s : Shape) × Among s (with_needed shapes task n) × IsTold t m s
      told t m (inl old) =
          let before = tell.told t m old in
          let now = kept shapes task n before.0 before.1 in
          (now.0, now.1, still_told t m before.0 now.0 now.2 before.2)
      told t m (inr new) =
          let now = told_there shapes task n in
          let there = at_among (with_needed shapes task n) (shape_index shapes task n.request) now.0 now.1 in
          (now.0, there, subst (λ (k : ℕ). IsTold k m now.0) (sym new.0) (subst (λ (x : RequestNeeds). IsTold task x now.0) (sym new.1) now.2))

      made : (x : Shape) → ComesFrom shapes task n x → IsMade (WithOne is_one task n) x
      made x (inl old) = made_carried is_one (WithOne is_one task n) x (λ m one. inl one) (tell.made x old)
      made x (inr (inl new)) = subst (λ (y : Shape). IsMade (WithOne is_one task n) y) (sym new.1) made_new
      made x (inr (inr taken)) = subst (λ (y : Shape). IsMade (WithOne is_one task n) y) (sym taken.3) (made_joined taken.0 taken.2 (tell.made taken.0 taken.1))
