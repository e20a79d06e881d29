-- The requests that a history issues, and their shapes, after one more event.
use Rattle.std.proofs.Common.{◌≡◌, ℕ, ◌==◌, Bool, true, false, cond, ◌⊎◌, inl, inr, List, [], ◌∷◌, ◌++◌, fold, Option, Some, None, refl, sym, ap, subst, ◌∙◌}
use Rattle.std.proofs.lemmas.Bool.{eq-eqb, eqb-true}
use Rattle.std.proofs.lemmas.List.{append-nil}
use Rattle.std.proofs.lemmas.List.Sums.{fold_push}
use Rattle.rset.specs.Sets.{Set}
use Rattle.rclaim.specs.Requests.{RequestFields}
use Rattle.rclaim.specs.declared.event.Event.{Event}
use Rattle.rclaim.specs.declared.event.Event.TheVariants.{Issue, Finish, Rise, Ask}
use Rattle.rmodel.proofs.ListFacts.{contrary, false_from}
use Rattle.rmodel.proofs.settling.OneSettlement.{both_cases}
use Rattle.rbound.proofs.ClaimFacts.{some_is}
use Rattle.rcover_laws.specs.History.{asks_of}
use Rattle.rbound_history.specs.Shapes.{Shape, with_needed, with_shape, with_shape_ask, shape_index}
use Rattle.rbound_history.proofs.ShapeRequests.{some_none}
use Rattle.rbound_history.specs.History.{Issued, issued_in, with_issued, shapes_told, later_issue, last_issue}
use Rattle.rbound_history.proofs.RequestPlaces.{is_known, known_now, known_still, place_now, place_still, apart_at, ask_apart, ask_behind}

pub other_way : (a b : ℕ) → (a == b) ≡ false → (b == a) ≡ false
other_way a b off = false_from (b == a) (λ h. contrary (a == b) (eq-eqb a b (sym (eqb-true b a h))) off)

-- a seat issues some request
abbrev pub has_issue : ℕ → List Event → Bool
has_issue task [] = false
has_issue task (Issue seat r ∷ es) = cond (seat == task) true (has_issue task es)
has_issue task (Finish seat ∷ es) = has_issue task es
has_issue task (Rise seat ∷ es) = has_issue task es
has_issue task (Ask seat part ∷ es) = has_issue task es

-- ---- asks until the next issue

pub asks_append : (t : ℕ) (es ds : List Event) → asks_of t (es ++ ds) ≡ cond (has_issue t es) (asks_of t es) (asks_of t es ++ asks_of t ds)
asks_append t [] ds = refl
asks_append t (Issue seat r ∷ es) ds = at (seat == t) (asks_append t es ds)
  where
    at : (b : Bool) → asks_of t (es ++ ds) ≡ cond (has_issue t es) (asks_of t es) (asks_of t es ++ asks_of t ds)
        → cond b [] (asks_of t (es ++ ds)) ≡ cond (cond b true (has_issue t es)) (cond b [] (asks_of t es)) (cond b [] (asks_of t es) ++ asks_of t ds)
    at true rest = refl
    at false rest = rest
asks_append t (Finish seat ∷ es) ds = asks_append t es ds
asks_append t (Rise seat ∷ es) ds = asks_append t es ds
asks_append t (Ask seat part ∷ es) ds = at (seat == t) (asks_append t es ds)
  where
    pushed : (h : Bool) → part ∷ cond h (asks_of t es) (asks_of t es ++ asks_of t ds) ≡ cond h (part ∷ asks_of t es) ((part ∷ asks_of t es) ++ asks_of t ds)
    pushed true = refl
    pushed false = refl

    at : (b : Bool) → asks_of t (es ++ ds) ≡ cond (has_issue t es) (asks_of t es) (asks_of t es ++ asks_of t ds)
        → cond b (part ∷ asks_of t (es ++ ds)) (asks_of t (es ++ ds)) ≡ cond (has_issue t es) (cond b (part ∷ asks_of t es) (asks_of t es)) (cond b (part ∷ asks_of t es) (asks_of t es) ++ asks_of t ds)
    at true rest = ap (λ (parts : List Set). part ∷ parts) rest ∙ pushed (has_issue t es)
    at false rest = rest

pub asks_same : (t : ℕ) (es ds : List Event) → asks_of t ds ≡ [] → asks_of t (es ++ ds) ≡ asks_of t es
asks_same t es ds none = asks_append t es ds ∙ at (has_issue t es)
  where
    at : (h : Bool) → cond h (asks_of t es) (asks_of t es ++ asks_of t ds) ≡ asks_of t es
    at true = refl
    at false = ap (λ (parts : List Set). asks_of t es ++ parts) none ∙ append-nil (asks_of t es)

-- ---- an event that is not an ask

issued_append : (es ds : List Event) → ((t : ℕ) → asks_of t ds ≡ []) → issued_in (es ++ ds) ≡ issued_in es ++ issued_in ds
issued_append [] ds none = refl
issued_append (Issue seat r ∷ es) ds none = λ i. record { seat = seat; needs = record { request = r; asks = asks_same seat es ds (none seat) i } } ∷ issued_append es ds none i
issued_append (Finish seat ∷ es) ds none = issued_append es ds none
issued_append (Rise seat ∷ es) ds none = issued_append es ds none
issued_append (Ask seat part ∷ es) ds none = issued_append es ds none

none_else : (b : Bool) (parts : List Set) → parts ≡ [] → cond b [] parts ≡ []
none_else true parts none = refl
none_else false parts none = none

pub shapes_issue : (es : List Event) (seat : ℕ) (r : RequestFields) → shapes_told (es ++ Issue seat r ∷ []) ≡ with_shape (shapes_told es) seat r
shapes_issue es seat r =
    ap (λ xs. fold with_issued [] xs) (issued_append es (Issue seat r ∷ []) (λ t. none_else (seat == t) [] refl))
    ∙ fold_push with_issued [] (issued_in es) (record { seat = seat; needs = record { request = r; asks = [] } })

pub shapes_finish : (es : List Event) (seat : ℕ) → shapes_told (es ++ Finish seat ∷ []) ≡ shapes_told es
shapes_finish es seat = ap (λ xs. fold with_issued [] xs) (issued_append es (Finish seat ∷ []) (λ t. refl) ∙ append-nil (issued_in es))

pub shapes_rise : (es : List Event) (seat : ℕ) → shapes_told (es ++ Rise seat ∷ []) ≡ shapes_told es
shapes_rise es seat = ap (λ xs. fold with_issued [] xs) (issued_append es (Rise seat ∷ []) (λ t. refl) ∙ append-nil (issued_in es))

-- ---- the last request of a seat

pub last_none : (t : ℕ) (last : Option RequestFields) (es : List Event) → has_issue t es ≡ false → fold (later_issue t) last es ≡ last
last_none t last [] none = refl
last_none t last (Issue seat r ∷ es) none = at (seat == t) none (last_none t last es)
  where
    at : (b : Bool) → cond b true (has_issue t es) ≡ false → (has_issue t es ≡ false → fold (later_issue t) last es ≡ last) → fold (later_issue t) (cond b (Some r) last) es ≡ last
    at true none rest = contrary true refl none
    at false none rest = rest none
last_none t last (Finish seat ∷ es) none = last_none t last es none
last_none t last (Rise seat ∷ es) none = last_none t last es none
last_none t last (Ask seat part ∷ es) none = last_none t last es none

-- ---- shapes over requests

known_over : (xs : List Issued) (shapes : List Shape) (t : ℕ) (r : RequestFields) → is_known shapes t r ≡ true → is_known (fold with_issued shapes xs) t r ≡ true
known_over [] shapes t r known = known
known_over (x ∷ xs) shapes t r known = known_over xs (with_issued shapes x) t r (known_still shapes t r x.seat x.needs known)

place_over : (xs : List Issued) (shapes : List Shape) (t : ℕ) (r : RequestFields) → is_known shapes t r ≡ true → shape_index (fold with_issued shapes xs) t r ≡ shape_index shapes t r
place_over [] shapes t r known = refl
place_over (x ∷ xs) shapes t r known =
    place_over xs (with_issued shapes x) t r (known_still shapes t r x.seat x.needs known) ∙ place_still shapes t r x.seat x.needs known

-- the shapes with a request that a seat issues before these events
abbrev request_came : List Shape → ℕ → RequestFields → List Event → List Shape
request_came shapes seat q es = with_needed shapes seat (record { request = q; asks = asks_of seat es })

-- the last request of a seat is known
known_from : (t : ℕ) (es : List Event) (shapes : List Shape) (last : Option RequestFields) (r : RequestFields) → has_issue t es ≡ true → fold (later_issue t) last es ≡ Some r → is_known (fold with_issued shapes (issued_in es)) t r ≡ true
known_from t [] shapes last r some is = contrary false some refl
known_from t (Issue seat q ∷ es) shapes last r some is = at (seat == t) refl some is (known_from t es (request_came shapes seat q es))
  where
    at : (b : Bool) → (seat == t) ≡ b → cond b true (has_issue t es) ≡ true → fold (later_issue t) (cond b (Some q) last) es ≡ Some r
        → ((last : Option RequestFields) (r : RequestFields) → has_issue t es ≡ true → fold (later_issue t) last es ≡ Some r → is_known (fold with_issued (request_came shapes seat q es) (issued_in es)) t r ≡ true)
        → is_known (fold with_issued (request_came shapes seat q es) (issued_in es)) t r ≡ true
    at true here some is rest =
        both_cases (has_issue t es)
        (λ more. rest (Some q) r more is)
        (λ none.
        let same : q ≡ r = some_is (sym (last_none t (Some q) es none) ∙ is) in
        known_over (issued_in es) (request_came shapes seat q es) t r (subst (λ (p : ℕ × RequestFields). is_known (request_came shapes seat q es) p.0 p.1 ≡ true) (λ i. (eqb-true seat t here i, same i)) (known_now shapes seat (record { request = q; asks = asks_of seat es }))))
    at false off some is rest = rest last r some is
known_from t (Finish seat ∷ es) shapes last r some is = known_from t es shapes last r some is
known_from t (Rise seat ∷ es) shapes last r some is = known_from t es shapes last r some is
known_from t (Ask seat part ∷ es) shapes last r some is = known_from t es shapes last r some is

pub some_issue : (t : ℕ) (es : List Event) (r : RequestFields) → last_issue t es ≡ Some r → has_issue t es ≡ true
some_issue t es r is = both_cases (has_issue t es) (λ h. h) (λ none. some_none (sym is ∙ last_none t None es none))

pub last_known : (t : ℕ) (es : List Event) (r : RequestFields) → last_issue t es ≡ Some r → is_known (shapes_told es) t r ≡ true
last_known t es r is = known_from t es [] None r (some_issue t es r is) is

-- ---- an ask

-- an ask of a seat that issued nothing
ask_none : (es : List Event) (seat : ℕ) (part : Set) → has_issue seat es ≡ false → issued_in (es ++ Ask seat part ∷ []) ≡ issued_in es
ask_none [] seat part none = refl
ask_none (Issue t q ∷ es) seat part none = at (t == seat) refl none (ask_none es seat part)
  where
    at : (b : Bool) → (t == seat) ≡ b → cond b true (has_issue seat es) ≡ false → (has_issue seat es ≡ false → issued_in (es ++ Ask seat part ∷ []) ≡ issued_in es)
        → issued_in (Issue t q ∷ (es ++ Ask seat part ∷ [])) ≡ issued_in (Issue t q ∷ es)
    at true here none rest = contrary true refl none
    at false off none rest =
        let asks = asks_same t es (Ask seat part ∷ []) (ap (λ b. cond b (part ∷ []) []) (other_way t seat off)) in
        λ i. record { seat = t; needs = record { request = q; asks = asks i } } ∷ rest none i
ask_none (Finish t ∷ es) seat part none = ask_none es seat part none
ask_none (Rise t ∷ es) seat part none = ask_none es seat part none
ask_none (Ask t p ∷ es) seat part none = ask_none es seat part none

-- an ask does not depend on requests of others
ask_through : (es : List Event) (shapes : List Shape) (t : ℕ) (r : RequestFields) (part : Set) → has_issue t es ≡ false → is_known shapes t r ≡ true
    → fold with_issued (with_shape_ask shapes (shape_index shapes t r) part) (issued_in es) ≡ with_shape_ask (fold with_issued shapes (issued_in es)) (shape_index shapes t r) part
ask_through [] shapes t r part none known = refl
ask_through (Issue u q ∷ es) shapes t r part none known = at (u == t) refl none (ask_through es (request_came shapes u q es) t r part)
  where
    at : (b : Bool) → (u == t) ≡ b → cond b true (has_issue t es) ≡ false
        → (has_issue t es ≡ false → is_known (request_came shapes u q es) t r ≡ true → fold with_issued (with_shape_ask (request_came shapes u q es) (shape_index (request_came shapes u q es) t r) part) (issued_in es) ≡ with_shape_ask (fold with_issued (request_came shapes u q es) (issued_in es)) (shape_index (request_came shapes u q es) t r) part)
        → fold with_issued (with_needed (with_shape_ask shapes (shape_index shapes t r) part) u (record { request = q; asks = asks_of u es })) (issued_in es) ≡ with_shape_ask (fold with_issued (request_came shapes u q es) (issued_in es)) (shape_index shapes t r) part
    at true here none rest = contrary true refl none
    at false off none rest =
        let stays = place_still shapes t r u (record { request = q; asks = asks_of u es }) known in
        ap (λ xs. fold with_issued xs (issued_in es)) (ask_apart shapes (shape_index shapes t r) part u (record { request = q; asks = asks_of u es }) (apart_at shapes t r u q off known) ∙ ap (λ p. with_shape_ask (request_came shapes u q es) p part) (sym stays))
        ∙ rest none (known_still shapes t r u (record { request = q; asks = asks_of u es }) known)
        ∙ ap (λ p. with_shape_ask (fold with_issued (request_came shapes u q es) (issued_in es)) p part) stays
ask_through (Finish u ∷ es) shapes t r part none known = ask_through es shapes t r part none known
ask_through (Rise u ∷ es) shapes t r part none known = ask_through es shapes t r part none known
ask_through (Ask u p ∷ es) shapes t r part none known = ask_through es shapes t r part none known

-- what an ask after some events does to any shapes
abbrev AskRest : List Event → ℕ → RequestFields → Set → Type 0
AskRest es t r part =
    (ss : List Shape) (l : Option RequestFields) → has_issue t es ≡ true → fold (later_issue t) l es ≡ Some r
    → fold with_issued ss (issued_in (es ++ Ask t part ∷ [])) ≡ with_shape_ask (fold with_issued ss (issued_in es)) (shape_index (fold with_issued ss (issued_in es)) t r) part

-- an ask of the last request of a seat
ask_last : (es : List Event) (shapes : List Shape) (t : ℕ) (last : Option RequestFields) (r : RequestFields) (part : Set) → has_issue t es ≡ true → fold (later_issue t) last es ≡ Some r
    → fold with_issued shapes (issued_in (es ++ Ask t part ∷ [])) ≡ with_shape_ask (fold with_issued shapes (issued_in es)) (shape_index (fold with_issued shapes (issued_in es)) t r) part
ask_last [] shapes t last r part some is = contrary false some refl
ask_last (Issue u q ∷ es) shapes t last r part some is = at (u == t) refl some is (λ ss l. ask_last es ss t l r part)
  where
    -- the request keeps its asks
    kept : asks_of u (es ++ Ask t part ∷ []) ≡ asks_of u es → (l : Option RequestFields) → has_issue t es ≡ true → fold (later_issue t) l es ≡ Some r → AskRest es t r part
        → fold with_issued (with_needed shapes u (record { request = q; asks = asks_of u (es ++ Ask t part ∷ []) })) (issued_in (es ++ Ask t part ∷ [])) ≡ with_shape_ask (fold with_issued (request_came shapes u q es) (issued_in es)) (shape_index (fold with_issued (request_came shapes u q es) (issued_in es)) t r) part
    kept same l some is rest = ap (λ (asks : List Set). fold with_issued (with_needed shapes u (record { request = q; asks = asks })) (issued_in (es ++ Ask t part ∷ []))) same ∙ rest (request_came shapes u q es) l some is

    -- the request asks for one more set, because its seat issues no other request
    longer : (u == t) ≡ true → has_issue t es ≡ false → q ≡ r
        → fold with_issued (with_needed shapes u (record { request = q; asks = asks_of u (es ++ Ask t part ∷ []) })) (issued_in (es ++ Ask t part ∷ [])) ≡ with_shape_ask (fold with_issued (request_came shapes u q es) (issued_in es)) (shape_index (fold with_issued (request_came shapes u q es) (issued_in es)) t r) part
    longer here none same =
        let is_u : u ≡ t = eqb-true u t here in
        let known : is_known (request_came shapes u q es) t r ≡ true = subst (λ (p : ℕ × RequestFields). is_known (request_came shapes u q es) p.0 p.1 ≡ true) (λ i. (is_u i, same i)) (known_now shapes u (record { request = q; asks = asks_of u es })) in
        let first : shape_index shapes u q ≡ shape_index (request_came shapes u q es) t r =
        sym (place_now shapes u (record { request = q; asks = asks_of u es })) ∙ (λ i. shape_index (request_came shapes u q es) (is_u i) (same i)) in
        let asks : asks_of u (es ++ Ask t part ∷ []) ≡ asks_of u es ++ part ∷ [] =
        asks_append u es (Ask t part ∷ [])
        ∙ ap (λ h. cond h (asks_of u es) (asks_of u es ++ asks_of u (Ask t part ∷ []))) (ap (λ k. has_issue k es) is_u ∙ none)
        ∙ ap (λ b. asks_of u es ++ cond b (part ∷ []) []) (eq-eqb t u (sym is_u)) in
        ap (λ (xs : List Issued). fold with_issued (with_needed shapes u (record { request = q; asks = asks_of u (es ++ Ask t part ∷ []) })) xs) (ask_none es t part none)
        ∙ ap (λ (parts : List Set). fold with_issued (with_needed shapes u (record { request = q; asks = parts })) (issued_in es)) asks
        ∙ ap (λ ss. fold with_issued ss (issued_in es)) (ask_behind shapes u q (asks_of u es) part ∙ ap (λ p. with_shape_ask (request_came shapes u q es) p part) first)
        ∙ ask_through es (request_came shapes u q es) t r part none known
        ∙ ap (λ p. with_shape_ask (fold with_issued (request_came shapes u q es) (issued_in es)) p part) (sym (place_over (issued_in es) (request_came shapes u q es) t r known))

    at : (b : Bool) → (u == t) ≡ b → cond b true (has_issue t es) ≡ true → fold (later_issue t) (cond b (Some q) last) es ≡ Some r → AskRest es t r part
        → fold with_issued (with_needed shapes u (record { request = q; asks = asks_of u (es ++ Ask t part ∷ []) })) (issued_in (es ++ Ask t part ∷ [])) ≡ with_shape_ask (fold with_issued (request_came shapes u q es) (issued_in es)) (shape_index (fold with_issued (request_came shapes u q es) (issued_in es)) t r) part
    at true here some is rest =
        both_cases (has_issue t es)
        (λ more_come.
        let same : asks_of u (es ++ Ask t part ∷ []) ≡ asks_of u es =
        asks_append u es (Ask t part ∷ []) ∙ ap (λ h. cond h (asks_of u es) (asks_of u es ++ asks_of u (Ask t part ∷ []))) (ap (λ k. has_issue k es) (eqb-true u t here) ∙ more_come) in
        kept same (Some q) more_come is rest)
        (λ none. longer here none (some_is (sym (last_none t (Some q) es none) ∙ is)))
    at false off some is rest = kept (asks_same u es (Ask t part ∷ []) (ap (λ b. cond b (part ∷ []) []) (other_way u t off))) last some is rest
ask_last (Finish u ∷ es) shapes t last r part some is = ask_last es shapes t last r part some is
ask_last (Rise u ∷ es) shapes t last r part some is = ask_last es shapes t last r part some is
ask_last (Ask u p ∷ es) shapes t last r part some is = ask_last es shapes t last r part some is

pub shapes_ask : (es : List Event) (seat : ℕ) (part : Set) (r : RequestFields) → last_issue seat es ≡ Some r → shapes_told (es ++ Ask seat part ∷ []) ≡ with_shape_ask (shapes_told es) (shape_index (shapes_told es) seat r) part
shapes_ask es seat part r is = ask_last es [] seat None r part (some_issue seat es r is) is

pub shapes_ask_none : (es : List Event) (seat : ℕ) (part : Set) → has_issue seat es ≡ false → shapes_told (es ++ Ask seat part ∷ []) ≡ shapes_told es
shapes_ask_none es seat part none = ap (λ xs. fold with_issued [] xs) (ask_none es seat part none)

-- a seat has a last request, or it issued no request
pub issue_or_none : (t : ℕ) (es : List Event) → ((r : RequestFields) × (last_issue t es ≡ Some r)) ⊎ (has_issue t es ≡ false)
issue_or_none t es = both_cases (has_issue t es) (λ some. inl (found es None some)) (λ none. inr none)
  where
    kept : (ds : List Event) (q : RequestFields) → (r : RequestFields) × (fold (later_issue t) (Some q) ds ≡ Some r)
    kept [] q = (q, refl)
    kept (Issue seat p ∷ ds) q = at (seat == t) (kept ds p) (kept ds q)
      where
        at : (b : Bool) → (r : RequestFields) × (fold (later_issue t) (Some p) ds ≡ Some r) → (r : RequestFields) × (fold (later_issue t) (Some q) ds ≡ Some r)
            → (r : RequestFields) × (fold (later_issue t) (cond b (Some p) (Some q)) ds ≡ Some r)
        at true here rest = here
        at false here rest = rest
    kept (Finish seat ∷ ds) q = kept ds q
    kept (Rise seat ∷ ds) q = kept ds q
    kept (Ask seat part ∷ ds) q = kept ds q

    found : (ds : List Event) (last : Option RequestFields) → has_issue t ds ≡ true → (r : RequestFields) × (fold (later_issue t) last ds ≡ Some r)
    found [] last some = contrary false some refl
    found (Issue seat p ∷ ds) last some = at (seat == t) some (found ds last)
      where
        at : (b : Bool) → cond b true (has_issue t ds) ≡ true → (has_issue t ds ≡ true → (r : RequestFields) × (fold (later_issue t) last ds ≡ Some r)) → (r : RequestFields) × (fold (later_issue t) (cond b (Some p) last) ds ≡ Some r)
        at true some rest = kept ds p
        at false some rest = rest some
    found (Finish seat ∷ ds) last some = found ds last some
    found (Rise seat ∷ ds) last some = found ds last some
    found (Ask seat part ∷ ds) last some = found ds last some
