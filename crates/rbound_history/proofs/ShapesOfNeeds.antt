-- The shapes of needs, as the needs grow by a request or an ask, and of needs as a whole.
use Rattle.std.proofs.Common.{◌≡◌, ◌<◌, ◌+◌, ◌⊎◌, ℕ, zero, suc, List, [], ◌∷◌, length, slice_get, Some, refl, sym, ap, subst, ◌∙◌, inl, inr, arith, true}
use Rattle.rset.specs.Sets.{Set}
use Rattle.rclaim.specs.Requests.{RequestFields}
use Rattle.rmodel.specs.WellFormed.{Among}
use Rattle.rmodel.proofs.ListFacts.{among_append, among_behind}
use Rattle.rmodel.proofs.reaching.Came.{in_append}
use Rattle.rbound.specs.Needs.{RequestNeeds, Needs}
use Rattle.rbound.specs.TaskNeeds.{requests_of, none_needed, with_request, with_ask, with_last_ask}
use Rattle.rbound.proofs.ClaimFacts.{some_is}
use Rattle.rbound_history.specs.Shapes.{Shape, has_shape, with_needed, with_shape, with_shape_ask}
use Rattle.rbound_history.specs.ShapeNeeds.{shapes_of_task, shapes_from, shapes_of}
use Rattle.rbound_history.specs.Histories.{TellAll, IsNeededBy, HaveShapes, last_request}
use Rattle.rbound_history.specs.Promises.{BoundsAreOfCompactNeeds}
use Rattle.rbound_history.proofs.ShapeRequests.{some_none}
use Rattle.rbound_history.proofs.SameBounds.{bounds_are_of_shapes}
use Rattle.rbound_history.proofs.ShapesGrow.{WithOne, told_alike, told_more}
use Rattle.rbound_history.proofs.ShapesAsk.{OneAsk, with_one_ask, told_asked}

-- ---- nothing

none_there : (tasks t : ℕ) (m : RequestNeeds) → Among m (requests_of (none_needed tasks) t) → ⊥
none_there zero t m there = there
none_there (suc tasks) zero m there = there
none_there (suc tasks) (suc t) m there = none_there tasks t m there

-- *No needs have no shapes*
pub no_shapes : (tasks : ℕ) → HaveShapes (none_needed tasks) []
no_shapes tasks = record { told = λ t m there. absurd (none_there tasks t m there); made = λ s there. absurd there; different = tt }

-- ---- one more request

-- a request that asks for nothing yet
abbrev new_request : RequestFields → RequestNeeds
new_request r = record { request = r; asks = [] }

request_came : (needs : Needs) (task : ℕ) (r : RequestFields) (t : ℕ) (m : RequestNeeds) → Among m (requests_of (with_request needs task r) t) → WithOne (IsNeededBy needs) task (new_request r) t m
request_came [] task r t m there = absurd there
request_came (ns ∷ rest) zero r zero m there = elim (among_append ns (new_request r ∷ []) m there) [ inl old ↦ inl old | inr new ↦ last new ]
  where
    last : Among m (new_request r ∷ []) → Among m ns ⊎ ((zero ≡ zero) × (m ≡ new_request r))
    last (inl same) = inr (refl, same)
    last (inr later) = absurd later
request_came (ns ∷ rest) zero r (suc t) m there = inl there
request_came (ns ∷ rest) (suc task) r zero m there = inl there
request_came (ns ∷ rest) (suc task) r (suc t) m there = elim (request_came rest task r t m there) [ inl old ↦ inl old | inr new ↦ inr (ap suc new.0, new.1) ]

request_kept : (needs : Needs) (task : ℕ) (r : RequestFields) (t : ℕ) (m : RequestNeeds) → Among m (requests_of needs t) → Among m (requests_of (with_request needs task r) t)
request_kept [] task r t m there = absurd there
request_kept (ns ∷ rest) zero r zero m there = in_append ns (new_request r ∷ []) m there
request_kept (ns ∷ rest) zero r (suc t) m there = there
request_kept (ns ∷ rest) (suc task) r zero m there = there
request_kept (ns ∷ rest) (suc task) r (suc t) m there = request_kept rest task r t m there

request_new : (needs : Needs) (task : ℕ) (r : RequestFields) → task < length needs → Among (new_request r) (requests_of (with_request needs task r) task)
request_new [] task r some = absurd (omega arith)
request_new (ns ∷ rest) zero r some = among_behind ns (new_request r ∷ []) (new_request r) (inl refl)
request_new (ns ∷ rest) (suc task) r some = request_new rest task r (omega arith)

-- *The shapes of needs with one more request*
pub shapes_with_request : (needs : Needs) (shapes : List Shape) (task : ℕ) (r : RequestFields) → task < length needs → HaveShapes needs shapes → HaveShapes (with_request needs task r) (with_shape shapes task r)
shapes_with_request needs shapes task r some have =
    told_alike (WithOne (IsNeededBy needs) task (new_request r)) (IsNeededBy (with_request needs task r)) (with_shape shapes task r)
    (λ t m one. by t m one) (λ t m there. request_came needs task r t m there) (told_more (IsNeededBy needs) task (new_request r) shapes have)
  where
    by : (t : ℕ) (m : RequestNeeds) → WithOne (IsNeededBy needs) task (new_request r) t m → Among m (requests_of (with_request needs task r) t)
    by t m (inl old) = request_kept needs task r t m old
    by t m (inr new) = subst (λ (k : ℕ). Among m (requests_of (with_request needs task r) k)) (sym new.0) (subst (λ (x : RequestNeeds). Among x (requests_of (with_request needs task r) task)) (sym new.1) (request_new needs task r some))

-- ---- one more ask

last_there : (ns : List RequestNeeds) (n : RequestNeeds) → last_request ns ≡ Some n → Among n ns
last_there [] n last = some_none (sym last)
last_there (x ∷ []) n last = inl (sym (some_is last))
last_there (x ∷ y ∷ ns) n last = inr (last_there (y ∷ ns) n last)

last_new : (ns : List RequestNeeds) (n : RequestNeeds) (part : Set) → last_request ns ≡ Some n → Among (with_one_ask n part) (with_last_ask ns part)
last_new [] n part last = some_none (sym last)
last_new (x ∷ []) n part last = inl (ap (λ (y : RequestNeeds). with_one_ask y part) (sym (some_is last)))
last_new (x ∷ y ∷ ns) n part last = inr (last_new (y ∷ ns) n part last)

last_kept : (ns : List RequestNeeds) (n : RequestNeeds) (part : Set) (m : RequestNeeds) → last_request ns ≡ Some n → Among m ns → Among m (with_last_ask ns part) ⊎ (m ≡ n)
last_kept [] n part m last there = absurd there
last_kept (x ∷ []) n part m last (inl same) = inr (same ∙ some_is last)
last_kept (x ∷ []) n part m last (inr later) = absurd later
last_kept (x ∷ y ∷ ns) n part m last (inl same) = inl (inl same)
last_kept (x ∷ y ∷ ns) n part m last (inr later) = elim (last_kept (y ∷ ns) n part m last later) [ inl still ↦ inl (inr still) | inr this ↦ inr this ]

last_came : (ns : List RequestNeeds) (n : RequestNeeds) (part : Set) (m : RequestNeeds) → last_request ns ≡ Some n → Among m (with_last_ask ns part) → Among m ns ⊎ (m ≡ with_one_ask n part)
last_came [] n part m last there = absurd there
last_came (x ∷ []) n part m last (inl same) = inr (same ∙ ap (λ (y : RequestNeeds). with_one_ask y part) (some_is last))
last_came (x ∷ []) n part m last (inr later) = absurd later
last_came (x ∷ y ∷ ns) n part m last (inl same) = inl (inl same)
last_came (x ∷ y ∷ ns) n part m last (inr later) = elim (last_came (y ∷ ns) n part m last later) [ inl old ↦ inl (inr old) | inr new ↦ inr new ]

ask_is_more : (needs : Needs) (task : ℕ) (n : RequestNeeds) (part : Set) → last_request (requests_of needs task) ≡ Some n → OneAsk (IsNeededBy needs) (IsNeededBy (with_ask needs task part)) task n part
ask_is_more [] task n part last = some_none (sym last)
ask_is_more (ns ∷ rest) zero n part last = record {
  old = last_there ns n last;
  new = last_new ns n part last;
  kept = λ t m there. kept t m there;
  came = λ t m there. came t m there;
}
  where
    kept : (t : ℕ) (m : RequestNeeds) → IsNeededBy (ns ∷ rest) t m → IsNeededBy (with_last_ask ns part ∷ rest) t m ⊎ ((t ≡ zero) × (m ≡ n))
    kept zero m there = elim (last_kept ns n part m last there) [ inl still ↦ inl still | inr this ↦ inr (refl, this) ]
    kept (suc t) m there = inl there

    came : (t : ℕ) (m : RequestNeeds) → IsNeededBy (with_last_ask ns part ∷ rest) t m → IsNeededBy (ns ∷ rest) t m ⊎ ((t ≡ zero) × (m ≡ with_one_ask n part))
    came zero m there = elim (last_came ns n part m last there) [ inl old ↦ inl old | inr new ↦ inr (refl, new) ]
    came (suc t) m there = inl there
ask_is_more (ns ∷ rest) (suc task) n part last = next (ask_is_more rest task n part last)
  where
    next : OneAsk (IsNeededBy rest) (IsNeededBy (with_ask rest task part)) task n part → OneAsk (IsNeededBy (ns ∷ rest)) (IsNeededBy (ns ∷ with_ask rest task part)) (suc task) n part
    next one = record { old = one.old; new = one.new; kept = λ t m there. kept t m there; came = λ t m there. came t m there }
      where
        kept : (t : ℕ) (m : RequestNeeds) → IsNeededBy (ns ∷ rest) t m → IsNeededBy (ns ∷ with_ask rest task part) t m ⊎ ((t ≡ suc task) × (m ≡ n))
        kept zero m there = inl there
        kept (suc t) m there = elim (one.kept t m there) [ inl still ↦ inl still | inr this ↦ inr (ap suc this.0, this.1) ]

        came : (t : ℕ) (m : RequestNeeds) → IsNeededBy (ns ∷ with_ask rest task part) t m → IsNeededBy (ns ∷ rest) t m ⊎ ((t ≡ suc task) × (m ≡ with_one_ask n part))
        came zero m there = inl there
        came (suc t) m there = elim (one.came t m there) [ inl old ↦ inl old | inr new ↦ inr (ap suc new.0, new.1) ]

-- *The shapes of needs with one more ask*
pub shapes_with_ask : (needs : Needs) (shapes : List Shape) (task place : ℕ) (part : Set) (n : RequestNeeds) (s : Shape)
    → last_request (requests_of needs task) ≡ Some n → slice_get shapes place ≡ Some s → has_shape task n.request s ≡ true → HaveShapes needs shapes → HaveShapes (with_ask needs task part) (with_shape_ask shapes place part)
shapes_with_ask needs shapes task place part n s last at has have =
    told_asked (IsNeededBy needs) (IsNeededBy (with_ask needs task part)) task n part (ask_is_more needs task n part last) shapes place s at has have

-- ---- all needs

-- the requests in question, or one of these of a task
abbrev WithTask : (ℕ → RequestNeeds → Type 0) → ℕ → List RequestNeeds → ℕ → RequestNeeds → Type 0
WithTask is_one task ns t m = is_one t m ⊎ ((t ≡ task) × Among m ns)

told_task : (ns : List RequestNeeds) (task : ℕ) (is_one : ℕ → RequestNeeds → Type 0) (shapes : List Shape) → TellAll is_one shapes → TellAll (WithTask is_one task ns) (shapes_of_task shapes task ns)
told_task [] task is_one shapes tell = told_alike is_one (WithTask is_one task []) shapes (λ t m one. inl one) (λ t m one. by t m one) tell
  where
    by : (t : ℕ) (m : RequestNeeds) → WithTask is_one task [] t m → is_one t m
    by t m (inl one) = one
    by t m (inr other) = absurd other.1
told_task (n ∷ ns) task is_one shapes tell =
    told_alike (WithTask (WithOne is_one task n) task ns) (WithTask is_one task (n ∷ ns)) (shapes_of_task (with_needed shapes task n) task ns)
    (λ t m one. to t m one) (λ t m one. back t m one) (told_task ns task (WithOne is_one task n) (with_needed shapes task n) (told_more is_one task n shapes tell))
  where
    to : (t : ℕ) (m : RequestNeeds) → WithTask (WithOne is_one task n) task ns t m → WithTask is_one task (n ∷ ns) t m
    to t m (inl (inl one)) = inl one
    to t m (inl (inr this)) = inr (this.0, inl this.1)
    to t m (inr later) = inr (later.0, inr later.1)

    back : (t : ℕ) (m : RequestNeeds) → WithTask is_one task (n ∷ ns) t m → WithTask (WithOne is_one task n) task ns t m
    back t m (inl one) = inl (inl one)
    back t m (inr is) = elim is.1 [ inl this ↦ inl (inr (is.0, this)) | inr later ↦ inr (is.0, later) ]

-- the requests in question, or one of these needs, whose tasks are numbered from this number on
abbrev WithNeeds : (ℕ → RequestNeeds → Type 0) → ℕ → Needs → ℕ → RequestNeeds → Type 0
WithNeeds is_one low needs t m = is_one t m ⊎ ((j : ℕ) × (t ≡ low + j) × Among m (requests_of needs j))

told_from : (needs : Needs) (low : ℕ) (is_one : ℕ → RequestNeeds → Type 0) (shapes : List Shape) → TellAll is_one shapes → TellAll (WithNeeds is_one low needs) (shapes_from shapes low needs)
told_from [] low is_one shapes tell = told_alike is_one (WithNeeds is_one low []) shapes (λ t m one. inl one) (λ t m one. by t m one) tell
  where
    by : (t : ℕ) (m : RequestNeeds) → WithNeeds is_one low [] t m → is_one t m
    by t m (inl one) = one
    by t m (inr other) = absurd other.2
told_from (ns ∷ rest) low is_one shapes tell =
    told_alike (WithNeeds (WithTask is_one low ns) (suc low) rest) (WithNeeds is_one low (ns ∷ rest)) (shapes_from (shapes_of_task shapes low ns) (suc low) rest)
    (λ t m one. to t m one) (λ t m one. back t m one) (told_from rest (suc low) (WithTask is_one low ns) (shapes_of_task shapes low ns) (told_task ns low is_one shapes tell))
  where
    to : (t : ℕ) (m : RequestNeeds) → WithNeeds (WithTask is_one low ns) (suc low) rest t m → WithNeeds is_one low (ns ∷ rest) t m
    to t m (inl (inl one)) = inl one
    to t m (inl (inr this)) = let at : t ≡ low + 0 = omega (arith, this.0) in inr (0, at, this.1)
    to t m (inr later) = let at : t ≡ low + suc later.0 = omega (arith, later.1) in inr (suc later.0, at, later.2)

    split : (t : ℕ) (m : RequestNeeds) (j : ℕ) → t ≡ low + j → Among m (requests_of (ns ∷ rest) j) → WithNeeds (WithTask is_one low ns) (suc low) rest t m
    split t m zero at there = let here : t ≡ low = omega (arith, at) in inl (inr (here, there))
    split t m (suc j) at there = let later : t ≡ suc low + j = omega (arith, at) in inr (j, later, there)

    back : (t : ℕ) (m : RequestNeeds) → WithNeeds is_one low (ns ∷ rest) t m → WithNeeds (WithTask is_one low ns) (suc low) rest t m
    back t m (inl one) = inl (inl one)
    back t m (inr is) = split t m is.0 is.1 is.2

-- *Needs have the shapes that are found for them*
pub shapes_of_needs : (needs : Needs) → HaveShapes needs (shapes_of needs)
shapes_of_needs needs =
    told_alike (WithNeeds (λ t m. ⊥) 0 needs) (IsNeededBy needs) (shapes_of needs) (λ t m one. to t m one) (λ t m there. inr (t, same t, there))
    (told_from needs 0 (λ t m. ⊥) [] (record { told = λ t m one. absurd one; made = λ s there. absurd there; different = tt }))
  where
    same : (t : ℕ) → t ≡ 0 + t
    same t = omega arith

    to : (t : ℕ) (m : RequestNeeds) → WithNeeds (λ t m. ⊥) 0 needs t m → IsNeededBy needs t m
    to t m (inl one) = absurd one
    to t m (inr is) = let at : is.0 ≡ t = omega (arith, is.1) in subst (λ (k : ℕ). Among m (requests_of needs k)) at is.2

-- *Each bound is the same from needs and from compact needs*
pub bounds_are_of_compact_needs : BoundsAreOfCompactNeeds
bounds_are_of_compact_needs groups needs fine = bounds_are_of_shapes groups needs (shapes_of needs) fine (shapes_of_needs needs)
