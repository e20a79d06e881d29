-- How shapes grow with one more ask.
use Rattle.std.proofs.Common.{◌≡◌, ◌||◌, ◌⊎◌, ℕ, zero, suc, true, List, [], ◌∷◌, ◌++◌, slice_get, Some, refl, sym, ap, subst, ◌∙◌, inl, inr, arith}
use Rattle.std.specs.List.{list_any}
use Rattle.rset.specs.Sets.{Set}
use Rattle.rmodel.specs.WellFormed.{Among}
use Rattle.rmodel.proofs.ListFacts.{among_append, among_behind}
use Rattle.rmodel.proofs.reaching.Came.{in_append}
use Rattle.rbound.specs.Needs.{RequestNeeds}
use Rattle.rbound.proofs.ClaimFacts.{some_is}
use Rattle.rbound_history.specs.Shapes.{Shape, has_shape, with_part, with_shape_ask}
use Rattle.rbound_history.specs.Histories.{IsTold, SomeRequest, IsMade, AreDifferent, TellAll}
use Rattle.rbound_history.proofs.SameShapes.{is_of}
use Rattle.rbound_history.proofs.ShapeRequests.{some_none, at_among}
use Rattle.rbound_history.proofs.ShapesGrow.{one_only, HasGrown, grown_itself, still_has, still_told, part_kept, part_taken, part_from}

-- a shape with one more ask
abbrev pub asked : Shape → Set → Shape
asked s part = record s { asks = with_part s.asks part }

pub grown_asked : (s : Shape) (part : Set) → HasGrown s (asked s part)
grown_asked s part = record {
  task = refl;
  alike = record { kind = refl; reads = refl; writes = refl; first = refl };
  len = omega arith;
  later = omega arith;
  asks = λ x there. part_kept s.asks part x there;
}

-- *A shape stays*, except for the ask that it takes
pub ask_stays : (shapes : List Shape) (place : ℕ) (part : Set) (i : ℕ) (s : Shape) → slice_get shapes i ≡ Some s → (x : Shape) × (slice_get (with_shape_ask shapes place part) i ≡ Some x) × HasGrown s x
ask_stays [] place part i s at = some_none (sym at)
ask_stays (y ∷ ss) zero part zero s at = (asked y part, refl, subst (λ (z : Shape). HasGrown z (asked y part)) (some_is at) (grown_asked y part))
ask_stays (y ∷ ss) zero part (suc i) s at = (s, at, grown_itself s)
ask_stays (y ∷ ss) (suc place) part zero s at = (y, refl, subst (λ (z : Shape). HasGrown z y) (some_is at) (grown_itself y))
ask_stays (y ∷ ss) (suc place) part (suc i) s at = ask_stays ss place part i s at

ask_kept : (shapes : List Shape) (place : ℕ) (part : Set) (s : Shape) → Among s shapes → (x : Shape) × Among x (with_shape_ask shapes place part) × HasGrown s x
ask_kept [] place part s there = absurd there
ask_kept (y ∷ ss) zero part s (inl same) = (asked y part, inl refl, subst (λ (z : Shape). HasGrown z (asked y part)) (sym same) (grown_asked y part))
ask_kept (y ∷ ss) zero part s (inr later) = (s, inr later, grown_itself s)
ask_kept (y ∷ ss) (suc place) part s (inl same) = (y, inl refl, subst (λ (z : Shape). HasGrown z y) (sym same) (grown_itself y))
ask_kept (y ∷ ss) (suc place) part s (inr later) = let rest = ask_kept ss place part s later in (rest.0, inr rest.1, rest.2)

ask_there : (shapes : List Shape) (place : ℕ) (part : Set) (s : Shape) → slice_get shapes place ≡ Some s → Among (asked s part) (with_shape_ask shapes place part)
ask_there [] place part s at = some_none (sym at)
ask_there (y ∷ ss) zero part s at = inl (ap (λ z. asked z part) (sym (some_is at)))
ask_there (y ∷ ss) (suc place) part s at = inr (ask_there ss place part s at)

ask_from : (shapes : List Shape) (place : ℕ) (part : Set) (s x : Shape) → slice_get shapes place ≡ Some s → Among x (with_shape_ask shapes place part) → Among x shapes ⊎ (x ≡ asked s part)
ask_from [] place part s x at there = some_none (sym at)
ask_from (y ∷ ss) zero part s x at (inl same) = inr (same ∙ ap (λ z. asked z part) (some_is at))
ask_from (y ∷ ss) zero part s x at (inr later) = inl (inr later)
ask_from (y ∷ ss) (suc place) part s x at (inl same) = inl (inl same)
ask_from (y ∷ ss) (suc place) part s x at (inr later) = elim (ask_from ss place part s x at later) [ inl old ↦ inl (inr old) | inr new ↦ inr new ]

same_tests : (shapes : List Shape) (place : ℕ) (part : Set) (y : Shape) → list_any (has_shape y.task y.request) (with_shape_ask shapes place part) ≡ list_any (has_shape y.task y.request) shapes
same_tests [] place part y = refl
same_tests (x ∷ ss) zero part y = refl
same_tests (x ∷ ss) (suc place) part y = ap (λ b. has_shape y.task y.request x || b) (same_tests ss place part y)

pub ask_different : (shapes : List Shape) (place : ℕ) (part : Set) → AreDifferent shapes → AreDifferent (with_shape_ask shapes place part)
ask_different [] place part different = tt
ask_different (x ∷ ss) zero part different = (different.0, different.1)
ask_different (x ∷ ss) (suc place) part different = (same_tests ss place part x ∙ different.0, ask_different ss place part different.1)

-- a request with one more ask
abbrev pub with_one_ask : RequestNeeds → Set → RequestNeeds
with_one_ask n part = record { request = n.request; asks = n.asks ++ part ∷ [] }

-- the requests in question before and after one more ask of a request
pub record OneAsk (is_one other : ℕ → RequestNeeds → Type 0) (task : ℕ) (n : RequestNeeds) (part : Set) : Type 0 where
  pub old : is_one task n
  pub new : other task (with_one_ask n part)
  pub kept : (t : ℕ) (m : RequestNeeds) → is_one t m → other t m ⊎ ((t ≡ task) × (m ≡ n))
  pub came : (t : ℕ) (m : RequestNeeds) → other t m → is_one t m ⊎ ((t ≡ task) × (m ≡ with_one_ask n part))

module _ (is_one other : ℕ → RequestNeeds → Type 0) (task : ℕ) (n : RequestNeeds) (part : Set) (one_more : OneAsk is_one other task n part) where
  -- a request that is in question before is so after, with or without the ask
  ask_carried : (s x : Shape) (is_so is_such : RequestNeeds → Type 0) → HasGrown s x → ((m : RequestNeeds) → is_so m → is_such m) → (is_so n → is_such (with_one_ask n part)) → SomeRequest is_one s is_so → SomeRequest other x is_such
  ask_carried s x is_so is_such grown gives with_ask some =
      elim (one_more.kept s.task some.request some.there) [
        | inl still ↦ of_other still
        | inr this ↦ of_this this.0 this.1
      ]
    where
      has : has_shape x.task some.request.request x ≡ true
      has = subst (λ (t : ℕ). has_shape t some.request.request x ≡ true) grown.task (still_has s.task some.request.request s x grown some.same)

      of_other : other s.task some.request → SomeRequest other x is_such
      of_other still = record { request = some.request; there = subst (λ (t : ℕ). other t some.request) grown.task still; same = has; so = gives some.request some.so }

      of_this : s.task ≡ task → some.request ≡ n → SomeRequest other x is_such
      of_this at is = record {
        request = with_one_ask n part;
        there = subst (λ (t : ℕ). other t (with_one_ask n part)) (sym at ∙ grown.task) one_more.new;
        same = ap (λ (m : RequestNeeds). has_shape x.task m.request x) (sym is) ∙ has;
        so = with_ask (subst is_so is some.so);
      }

  made_asked : (s x : Shape) → HasGrown s x → s.request.len ≡ x.request.len → s.request.later ≡ x.request.later → ((p : Set) → Among p x.asks → Among p s.asks ⊎ SomeRequest other x (λ m. Among p m.asks)) → IsMade is_one s → IsMade other x
  made_asked s x grown len later asks made = record {
    len = ask_carried s x _ _ grown (λ m so. so ∙ len) (λ so. so ∙ len) made.len;
    later = ask_carried s x _ _ grown (λ m so. so ∙ later) (λ so. so ∙ later) made.later;
    asks = λ p there. elim (asks p there) [
      | inl old ↦ ask_carried s x _ _ grown (λ m so. so) (λ so. in_append n.asks (part ∷ []) p so) (made.asks p old)
      | inr new ↦ new
    ];
  }

  -- *The shapes with one more ask represent it*
  pub told_asked : (shapes : List Shape) (place : ℕ) (s : Shape) → slice_get shapes place ≡ Some s → has_shape task n.request s ≡ true → TellAll is_one shapes → TellAll other (with_shape_ask shapes place part)
  told_asked shapes place s at has tell = record {
    told = λ t m one. told t m (one_more.came t m one);
    made = λ x there. made x (ask_from shapes place part s x at there);
    different = ask_different shapes place part tell.different;
  }
    where
      told : (t : ℕ) (m : RequestNeeds) → is_one t m ⊎ ((t ≡ task) × (m ≡ with_one_ask n part)) → (x : Shape) × Among x (with_shape_ask shapes place part) × IsTold t m x
      told t m (inl old) =
          let before = tell.told t m old in
          let now = ask_kept shapes place part before.0 before.1 in
          (now.0, now.1, still_told t m before.0 now.0 now.2 before.2)
      told t m (inr new) =
          let before = tell.told task n one_more.old in
          let same = one_only shapes task n.request before.0 s tell.different before.1 (at_among shapes place s at) before.2.same has in
          let is = subst (λ (x : Shape). IsTold task n x) same before.2 in (
            asked s part,
            ask_there shapes place part s at,
            subst (λ (k : ℕ). IsTold k m (asked s part)) (sym new.0)
                (subst (λ (y : RequestNeeds). IsTold task y (asked s part)) (sym new.1)
                (record { same = has; len = is.len; later = is.later; asks = λ p there. taken p is (among_append n.asks (part ∷ []) p there) })),
          )
        where
          taken : (p : Set) → IsTold task n s → Among p n.asks ⊎ Among p (part ∷ []) → Among p (with_part s.asks part)
          taken p is (inl old) = part_kept s.asks part p (is.asks p old)
          taken p is (inr (inl same)) = subst (λ (q : Set). Among q (with_part s.asks part)) (sym same) (part_taken s.asks part)
          taken p is (inr (inr later)) = absurd later

      own : (p : Set) → p ≡ part → SomeRequest other (asked s part) (λ m. Among p m.asks)
      own p same =
          let of = is_of task n.request s has in
          record {
            request = with_one_ask n part;
            there = subst (λ (t : ℕ). other t (with_one_ask n part)) of.task one_more.new;
            same = subst (λ (t : ℕ). has_shape t n.request s ≡ true) of.task has;
            so = subst (λ (q : Set). Among q (n.asks ++ part ∷ [])) (sym same) (among_behind n.asks (part ∷ []) part (inl refl));
          }

      made : (x : Shape) → Among x shapes ⊎ (x ≡ asked s part) → IsMade other x
      made x (inl old) = made_asked x x (grown_itself x) refl refl (λ p there. inl there) (tell.made x old)
      made x (inr new) =
          subst (λ (y : Shape). IsMade other y) (sym new)
          (made_asked s (asked s part) (grown_asked s part) refl refl
          (λ p there. elim (part_from s.asks part p there) [ inl old ↦ inl old | inr same ↦ inr (own p same) ])
          (tell.made s (at_among shapes place s at)))
