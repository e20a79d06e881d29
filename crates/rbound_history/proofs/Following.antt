-- What is known of each seat's last request after one more event.
use Rattle.std.proofs.Common.{◌≡◌, ◌<◌, ◌⊎◌, inl, inr, ℕ, zero, suc, ◌==◌, Bool, true, false, cond, List, [], ◌∷◌, ◌++◌, length, slice_get, slice_set, Option, Some, None, refl, sym, ap, subst, ◌∙◌, arith, length-set}
use Rattle.std.specs.List.{position_or_len}
use Rattle.std.proofs.lemmas.Bool.{eq-eqb, eqb-true}
use Rattle.std.proofs.lemmas.List.Sums.{fold_push}
use Rattle.rset.specs.Sets.{Set, equals}
use Rattle.rclaim.specs.Requests.{RequestFields}
use Rattle.rclaim.specs.declared.event.Event.{Event}
use Rattle.rclaim.specs.declared.event.Event.TheVariants.{Issue, Finish, Rise, Ask}
use Rattle.rmodel.proofs.ListFacts.{contrary, false_from}
use Rattle.rbound_history.specs.Shapes.{Shape, with_shape, with_shape_ask, shape_index, parts_of, ask_index}
use Rattle.rbound_history.specs.History.{shapes_told, later_issue, last_issue, later_set, last_set}
use Rattle.rbound_history.specs.Keys.{place_among, ask_among, place_of, ask_of}
use Rattle.rbound_history.specs.Knows.{Knows}
use Rattle.rbound_history.specs.declared.growing.GrowingNeeds.{GrowingNeeds}
use Rattle.rbound_history.specs.declared.growing.Last.{Last}
use Rattle.rbound_history.proofs.OneMore.{last_known, shapes_issue, shapes_finish, shapes_rise, shapes_ask}
use Rattle.rbound_history.proofs.RequestPlaces.{is_known, place_now, place_still, parts_still, ask_place, number_now, parts_asked, parts_apart}

-- ---- lists

pub set_there : {X : Type 0} (xs : List X) (i : ℕ) (x : X) → i < length xs → slice_get (slice_set xs i x) i ≡ Some x
set_there [] i x h = absurd (omega arith)
set_there (y ∷ ys) zero x h = refl
set_there (y ∷ ys) (suc i) x h = set_there ys i x (omega arith)

pub set_elsewhere : {X : Type 0} (xs : List X) (i j : ℕ) (x : X) → (i == j) ≡ false → slice_get (slice_set xs i x) j ≡ slice_get xs j
set_elsewhere [] i j x other = refl
set_elsewhere (y ∷ ys) zero zero x other = contrary (zero == zero) (eq-eqb zero zero refl) other
set_elsewhere (y ∷ ys) zero (suc j) x other = refl
set_elsewhere (y ∷ ys) (suc i) zero x other = refl
set_elsewhere (y ∷ ys) (suc i) (suc j) x other = set_elsewhere ys i j x (false_from (i == j) (λ h. contrary (suc i == suc j) (eq-eqb (suc i) (suc j) (ap suc (eqb-true i j h))) other))

-- ---- the last request and its last ask

pub issue_push : (t : ℕ) (es : List Event) (e : Event) → last_issue t (es ++ e ∷ []) ≡ later_issue t (last_issue t es) e
issue_push t es e = fold_push (later_issue t) None es e

pub set_push : (t : ℕ) (es : List Event) (e : Event) → last_set t (es ++ e ∷ []) ≡ later_set t (last_set t es) e
set_push t es e = fold_push (later_set t) None es e

-- what is kept of a seat
abbrev pub last_by : List Event → ℕ → Last
last_by es seat = record { place = place_of es seat; ask = ask_of es seat }

-- the same from shapes, a request and a set
abbrev last_in : List Shape → ℕ → Option RequestFields → Option Set → Last
last_in shapes seat r part = record { place = place_among shapes seat r; ask = ask_among shapes seat r part }

last_parts : (ds : List Event) (seat : ℕ) (shapes : List Shape) (r : Option RequestFields) (part : Option Set) → shapes_told ds ≡ shapes → last_issue seat ds ≡ r → last_set seat ds ≡ part → last_by ds seat ≡ last_in shapes seat r part
last_parts ds seat shapes r part told issue set i = last_in (told i) seat (issue i) (set i)

-- ---- one more request

-- at its seat
issue_here : (es : List Event) (seat : ℕ) (r : RequestFields) → last_by (es ++ Issue seat r ∷ []) seat ≡ record { place = shape_index (shapes_told es) seat r; ask = 0 }
issue_here es seat r =
    let ds = es ++ Issue seat r ∷ [] in
    let here = eq-eqb seat seat refl in
    last_parts ds seat (with_shape (shapes_told es) seat r) (Some r) None (shapes_issue es seat r) (issue_push seat es (Issue seat r) ∙ ap (λ b. cond b (Some r) (last_issue seat es)) here)
    (set_push seat es (Issue seat r) ∙ ap (λ b. cond b None (last_set seat es)) here)
    ∙ ap (λ p. let l : Last = record { place = p; ask = 0 } in l) (place_now (shapes_told es) seat (record { request = r; asks = [] }))

-- shapes with one more request keep what is known of a seat
issue_keeps : (shapes : List Shape) (seat : ℕ) (q : RequestFields) (t : ℕ) (r : Option RequestFields) (part : Option Set) → ((p : RequestFields) → r ≡ Some p → is_known shapes t p ≡ true) → last_in (with_shape shapes seat q) t r part ≡ last_in shapes t r part
issue_keeps shapes seat q t None part known = refl
issue_keeps shapes seat q t (Some p) None known = ap (λ k. let l : Last = record { place = k; ask = 0 } in l) (place_still shapes t p seat (record { request = q; asks = [] }) (known p refl))
issue_keeps shapes seat q t (Some p) (Some part) known =
    let place = place_still shapes t p seat (record { request = q; asks = [] }) (known p refl) in
    let asks = (λ i. position_or_len (equals part) (parts_of (with_shape shapes seat q) (place i))) ∙ ap (position_or_len (equals part)) (parts_still shapes seat q (shape_index shapes t p)) in
    λ i. record { place = place i; ask = asks i }

-- at another seat
issue_elsewhere : (es : List Event) (seat : ℕ) (r : RequestFields) (t : ℕ) → (seat == t) ≡ false → last_by (es ++ Issue seat r ∷ []) t ≡ last_by es t
issue_elsewhere es seat r t other =
    last_parts (es ++ Issue seat r ∷ []) t (with_shape (shapes_told es) seat r) (last_issue t es) (last_set t es) (shapes_issue es seat r)
    (issue_push t es (Issue seat r) ∙ ap (λ b. cond b (Some r) (last_issue t es)) other) (set_push t es (Issue seat r) ∙ ap (λ b. cond b None (last_set t es)) other)
    ∙ issue_keeps (shapes_told es) seat r t (last_issue t es) (last_set t es) (λ p is. last_known t es p is)

pub knows_issue : (old new : GrowingNeeds) (seats : ℕ) (es : List Event) (seat : ℕ) (r : RequestFields) → seat < seats → Knows old seats es
    → new.shapes ≡ record old.shapes { shapes = with_shape old.shapes.shapes seat r } → new.last.items ≡ slice_set old.last.items seat (record { place = shape_index old.shapes.shapes seat r; ask = 0 })
    → Knows new seats (es ++ Issue seat r ∷ [])
knows_issue old new seats es seat r below known shapes last = record {
  shapes = shapes ∙ (λ i. record { tasks = (known.shapes i).tasks; shapes = with_shape (known.shapes i).shapes seat r }) ∙ (λ i. record { tasks = seats; shapes = sym (shapes_issue es seat r) i });
  seated = ap length last ∙ length-set old.last.items seat _ ∙ known.seated;
  last = λ t there. ap (λ ls. slice_get ls t) last ∙ at t there (seat == t) refl;
}
  where
    at : (t : ℕ) → t < seats → (b : Bool) → (seat == t) ≡ b → slice_get (slice_set old.last.items seat (record { place = shape_index old.shapes.shapes seat r; ask = 0 })) t ≡ Some (last_by (es ++ Issue seat r ∷ []) t)
    at t there true here =
        let same = eqb-true seat t here in
        ap (slice_get (slice_set old.last.items seat (record { place = shape_index old.shapes.shapes seat r; ask = 0 }))) (sym same)
        ∙ set_there old.last.items seat _ (omega (arith, below, known.seated))
        ∙ (λ i. Some (record { place = shape_index (known.shapes i).shapes seat r; ask = 0 }))
        ∙ ap (λ l. Some l) (sym (issue_here es seat r))
        ∙ ap (λ k. Some (last_by (es ++ Issue seat r ∷ []) k)) same
    at t there false other = set_elsewhere old.last.items seat t _ other ∙ known.last t there ∙ ap (λ l. Some l) (sym (issue_elsewhere es seat r t other))

-- ---- one more ask

ask_here : (es : List Event) (seat : ℕ) (part : Set) (r : RequestFields) → last_issue seat es ≡ Some r
    → last_by (es ++ Ask seat part ∷ []) seat ≡ record { place = shape_index (shapes_told es) seat r; ask = ask_index (shapes_told es) (shape_index (shapes_told es) seat r) part }
ask_here es seat part r is =
    let shapes = shapes_told es in
    let p = shape_index shapes seat r in
    let place = ask_place shapes p part seat r in
    last_parts (es ++ Ask seat part ∷ []) seat (with_shape_ask shapes p part) (Some r) (Some part) (shapes_ask es seat part r is) (issue_push seat es (Ask seat part) ∙ is)
    (set_push seat es (Ask seat part) ∙ ap (λ b. cond b (Some part) (last_set seat es)) (eq-eqb seat seat refl))
    ∙ (λ i. record { place = place i; ask = ((λ j. position_or_len (equals part) (parts_of (with_shape_ask shapes p part) (place j))) ∙ ap (position_or_len (equals part)) (parts_asked shapes seat r part (last_known seat es r is)) ∙ number_now (parts_of shapes p) part) i })

ask_keeps : (shapes : List Shape) (seat : ℕ) (q : RequestFields) (part : Set) (t : ℕ) (r : Option RequestFields) (set : Option Set) → (seat == t) ≡ false → is_known shapes seat q ≡ true
    → ((p : RequestFields) → r ≡ Some p → is_known shapes t p ≡ true) → last_in (with_shape_ask shapes (shape_index shapes seat q) part) t r set ≡ last_in shapes t r set
ask_keeps shapes seat q part t None set other here known = refl
ask_keeps shapes seat q part t (Some p) None other here known = ap (λ k. let l : Last = record { place = k; ask = 0 } in l) (ask_place shapes (shape_index shapes seat q) part t p)
ask_keeps shapes seat q part t (Some p) (Some other_part) other here known =
    let place = ask_place shapes (shape_index shapes seat q) part t p in
    let asks = (λ i. position_or_len (equals other_part) (parts_of (with_shape_ask shapes (shape_index shapes seat q) part) (place i))) ∙ ap (position_or_len (equals other_part)) (parts_apart shapes seat q t p part other here (known p refl)) in
    λ i. record { place = place i; ask = asks i }

ask_elsewhere : (es : List Event) (seat : ℕ) (part : Set) (r : RequestFields) (t : ℕ) → last_issue seat es ≡ Some r → (seat == t) ≡ false → last_by (es ++ Ask seat part ∷ []) t ≡ last_by es t
ask_elsewhere es seat part r t is other =
    last_parts (es ++ Ask seat part ∷ []) t (with_shape_ask (shapes_told es) (shape_index (shapes_told es) seat r) part) (last_issue t es) (last_set t es) (shapes_ask es seat part r is)
    (issue_push t es (Ask seat part)) (set_push t es (Ask seat part) ∙ ap (λ b. cond b (Some part) (last_set t es)) other)
    ∙ ask_keeps (shapes_told es) seat r part t (last_issue t es) (last_set t es) other (last_known seat es r is) (λ p there. last_known t es p there)

pub knows_ask : (old new : GrowingNeeds) (seats : ℕ) (es : List Event) (seat : ℕ) (part : Set) (r : RequestFields) → seat < seats → last_issue seat es ≡ Some r → Knows old seats es
    → ((last : Last) → slice_get old.last.items seat ≡ Some last → new.shapes ≡ record old.shapes { shapes = with_shape_ask old.shapes.shapes last.place part })
    → ((last : Last) → slice_get old.last.items seat ≡ Some last → new.last.items ≡ slice_set old.last.items seat (record { place = last.place; ask = ask_index old.shapes.shapes last.place part }))
    → Knows new seats (es ++ Ask seat part ∷ [])
knows_ask old new seats es seat part r below is known with_shapes with_last =
    record {
      shapes =
          shapes
          ∙ (λ i. record { tasks = (known.shapes i).tasks; shapes = with_shape_ask (known.shapes i).shapes (place_of es seat) part })
          ∙ (λ i. record { tasks = seats; shapes = with_shape_ask (shapes_told es) (here i) part })
          ∙ (λ i. record { tasks = seats; shapes = sym (shapes_ask es seat part r is) i });
      seated = ap length last ∙ length-set old.last.items seat _ ∙ known.seated;
      last = λ t there. ap (λ ls. slice_get ls t) last ∙ at t there (seat == t) refl;
    }
  where
    here : place_of es seat ≡ shape_index (shapes_told es) seat r
    here = ap (place_among (shapes_told es) seat) is

    shapes : new.shapes ≡ record old.shapes { shapes = with_shape_ask old.shapes.shapes (place_of es seat) part }
    shapes = with_shapes (last_by es seat) (known.last seat below)

    last : new.last.items ≡ slice_set old.last.items seat (record { place = place_of es seat; ask = ask_index old.shapes.shapes (place_of es seat) part })
    last = with_last (last_by es seat) (known.last seat below)

    at : (t : ℕ) → t < seats → (b : Bool) → (seat == t) ≡ b
        → slice_get (slice_set old.last.items seat (record { place = place_of es seat; ask = ask_index old.shapes.shapes (place_of es seat) part })) t ≡ Some (last_by (es ++ Ask seat part ∷ []) t)
    at t there true same_seat =
        let same = eqb-true seat t same_seat in
        ap (slice_get (slice_set old.last.items seat (record { place = place_of es seat; ask = ask_index old.shapes.shapes (place_of es seat) part }))) (sym same)
        ∙ set_there old.last.items seat _ (omega (arith, below, known.seated))
        ∙ (λ i. Some (record { place = here i; ask = ask_index (known.shapes i).shapes (here i) part }))
        ∙ ap (λ l. Some l) (sym (ask_here es seat part r is))
        ∙ ap (λ k. Some (last_by (es ++ Ask seat part ∷ []) k)) same
    at t there false other = set_elsewhere old.last.items seat t _ other ∙ known.last t there ∙ ap (λ l. Some l) (sym (ask_elsewhere es seat part r t is other))

-- ---- events that change nothing

knows_finish : (needs : GrowingNeeds) (seats : ℕ) (es : List Event) (seat : ℕ) → Knows needs seats es → Knows needs seats (es ++ Finish seat ∷ [])
knows_finish needs seats es seat known = record {
  shapes = known.shapes ∙ (λ i. record { tasks = seats; shapes = sym (shapes_finish es seat) i });
  seated = known.seated;
  last = λ t there. known.last t there ∙ ap (λ l. Some l) (sym (last_parts (es ++ Finish seat ∷ []) t (shapes_told es) (last_issue t es) (last_set t es) (shapes_finish es seat) (issue_push t es (Finish seat)) (set_push t es (Finish seat))));
}

knows_rise : (needs : GrowingNeeds) (seats : ℕ) (es : List Event) (seat : ℕ) → Knows needs seats es → Knows needs seats (es ++ Rise seat ∷ [])
knows_rise needs seats es seat known = record {
  shapes = known.shapes ∙ (λ i. record { tasks = seats; shapes = sym (shapes_rise es seat) i });
  seated = known.seated;
  last = λ t there. known.last t there ∙ ap (λ l. Some l) (sym (last_parts (es ++ Rise seat ∷ []) t (shapes_told es) (last_issue t es) (last_set t es) (shapes_rise es seat) (issue_push t es (Rise seat)) (set_push t es (Rise seat))));
}

pub knows_other : (needs : GrowingNeeds) (seats : ℕ) (es : List Event) (e : Event) → ((seat : ℕ) × (e ≡ Finish seat)) ⊎ ((seat : ℕ) × (e ≡ Rise seat)) → Knows needs seats es → Knows needs seats (es ++ e ∷ [])
knows_other needs seats es e (inl is) known = subst (λ (d : Event). Knows needs seats (es ++ d ∷ [])) (sym is.1) (knows_finish needs seats es is.0 known)
knows_other needs seats es e (inr is) known = subst (λ (d : Event). Knows needs seats (es ++ d ∷ [])) (sym is.1) (knows_rise needs seats es is.0 known)
