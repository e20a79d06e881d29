-- The shapes of a history are those of what it needs, and what accepted events need is in normal form and within the resources.
use Rattle.std.proofs.Common.{◌≡◌, ◌<◌, ◌==◌, ◌⊎◌, ℕ, Bool, true, false, cond, List, [], ◌∷◌, length, fold, refl, sym, ap, subst, ◌∙◌, inl, inr, arith}
use Rattle.std.specs.List.{AllByRecursion, range_with_len}
use Rattle.std.proofs.lemmas.Bool.{eq-eqb, eqb-true}
use Rattle.std.proofs.lemmas.List.FromFn.{get_or-map-range_with_len, length-map-range_with_len}
use Rattle.rclaim.specs.declared.event.Event.{Event}
use Rattle.rclaim.specs.declared.event.Event.TheVariants.{Issue, Finish, Rise, Ask}
use Rattle.rmodel.specs.State.{LockState}
use Rattle.rmodel.specs.Steps.{next, AreAccepted}
use Rattle.rmodel.proofs.ListFacts.{Among, contrary, all_at, all_from, all_map}
use Rattle.rbound.specs.Kept.{IsFine, AreFine}
use Rattle.rbound.specs.Needs.{RequestNeeds}
use Rattle.rbound.specs.TaskNeeds.{requests_of}
use Rattle.rcover_laws.specs.History as history
use Rattle.rcover_laws.specs.History.{asks_of, history_needs}
use Rattle.rbound_history.specs.Shapes.{Shape, has_shape, joined, with_needed}
use Rattle.rbound_history.specs.ShapeNeeds.{AreBelow}
use Rattle.rbound_history.specs.Histories.{TellAll, IsNeededBy, HaveShapes}
use Rattle.rbound_history.proofs.ShapeRequests.{task_there}
use Rattle.rbound_history.proofs.ShapesGrow.{WithOne, told_alike, told_more}
use Rattle.rbound_history.specs.History.{Issued, issued_in, with_issued, shapes_told}

-- a request of a seat is among these
abbrev IsAmong : List Issued → ℕ → RequestNeeds → Type 0
IsAmong xs t m = Among (record { seat = t; needs = m }) xs

-- ---- shapes of requests in order

tell_over : (xs : List Issued) (is_one : ℕ → RequestNeeds → Type 0) (shapes : List Shape) → TellAll is_one shapes → TellAll (λ t m. is_one t m ⊎ IsAmong xs t m) (fold with_issued shapes xs)
tell_over [] is_one shapes tell = told_alike is_one (λ t m. is_one t m ⊎ IsAmong [] t m) shapes (λ t m one. inl one) (λ t m one. back t m one) tell
  where
    back : (t : ℕ) (m : RequestNeeds) → is_one t m ⊎ IsAmong [] t m → is_one t m
    back t m (inl one) = one
    back t m (inr none) = absurd none
tell_over (x ∷ xs) is_one shapes tell =
    told_alike (λ t m. WithOne is_one x.seat x.needs t m ⊎ IsAmong xs t m) (λ t m. is_one t m ⊎ IsAmong (x ∷ xs) t m) (fold with_issued (with_issued shapes x) xs) (λ t m one. to t m one) (λ t m one. back t m one)
    (tell_over xs (WithOne is_one x.seat x.needs) (with_issued shapes x) (told_more is_one x.seat x.needs shapes tell))
  where
    to : (t : ℕ) (m : RequestNeeds) → WithOne is_one x.seat x.needs t m ⊎ IsAmong xs t m → is_one t m ⊎ IsAmong (x ∷ xs) t m
    to t m (inl (inl one)) = inl one
    to t m (inl (inr this)) = inr (inl (λ i. record { seat = this.0 i; needs = this.1 i }))
    to t m (inr later) = inr (inr later)

    back : (t : ℕ) (m : RequestNeeds) → is_one t m ⊎ IsAmong (x ∷ xs) t m → WithOne is_one x.seat x.needs t m ⊎ IsAmong xs t m
    back t m (inl one) = inl (inl one)
    back t m (inr (inl this)) = inl (inr (ap (λ (y : Issued). y.seat) this, ap (λ (y : Issued). y.needs) this))
    back t m (inr (inr later)) = inr later

-- ---- the requests of a seat are those that are issued there

issued_of : (es : List Event) (t : ℕ) (m : RequestNeeds) → IsAmong (issued_in es) t m → Among m (history.requests_of t es)
issued_of [] t m there = there
issued_of (Issue seat r ∷ es) t m there = at (seat == t) refl there (issued_of es t m)
  where
    at : (b : Bool) → (seat == t) ≡ b → IsAmong (issued_in (Issue seat r ∷ es)) t m → (IsAmong (issued_in es) t m → Among m (history.requests_of t es))
        → Among m (cond b (record { request = r; asks = asks_of t es } ∷ history.requests_of t es) (history.requests_of t es))
    at true here (inl same) rest = inl (ap (λ (y : Issued). y.needs) same ∙ ap (λ k. let n : RequestNeeds = record { request = r; asks = asks_of k es } in n) (eqb-true seat t here))
    at true here (inr later) rest = inr (rest later)
    at false other (inl same) rest = contrary (seat == t) (eq-eqb seat t (sym (ap (λ (y : Issued). y.seat) same))) other
    at false other (inr later) rest = rest later
issued_of (Finish seat ∷ es) t m there = issued_of es t m there
issued_of (Rise seat ∷ es) t m there = issued_of es t m there
issued_of (Ask seat part ∷ es) t m there = issued_of es t m there

of_issued : (es : List Event) (t : ℕ) (m : RequestNeeds) → Among m (history.requests_of t es) → IsAmong (issued_in es) t m
of_issued [] t m there = there
of_issued (Issue seat r ∷ es) t m there = at (seat == t) refl there (of_issued es t m)
  where
    at : (b : Bool) → (seat == t) ≡ b → Among m (cond b (record { request = r; asks = asks_of t es } ∷ history.requests_of t es) (history.requests_of t es))
        → (Among m (history.requests_of t es) → IsAmong (issued_in es) t m) → IsAmong (issued_in (Issue seat r ∷ es)) t m
    at true here (inl same) rest =
        let is = eqb-true seat t here in
        inl (λ i. record { seat = sym is i; needs = (same ∙ ap (λ k. let n : RequestNeeds = record { request = r; asks = asks_of k es } in n) (sym is)) i })
    at true here (inr later) rest = inr (rest later)
    at false other there rest = inr (rest there)
of_issued (Finish seat ∷ es) t m there = of_issued es t m there
of_issued (Rise seat ∷ es) t m there = of_issued es t m there
of_issued (Ask seat part ∷ es) t m there = of_issued es t m there

pub requests_by : (seats : ℕ) (es : List Event) (t : ℕ) → t < seats → requests_of (history_needs seats es) t ≡ history.requests_of t es
requests_by seats es t below = get_or-map-range_with_len (λ task. history.requests_of task es) 0 seats t t [] below (omega arith)

pub as_many : (seats : ℕ) (es : List Event) → length (history_needs seats es) ≡ seats
as_many seats es = length-map-range_with_len (λ task. history.requests_of task es) 0 seats

-- ---- accepted events

-- a request is of an existing seat, in normal form and within the resources
record IsGoodIssue (q seats : ℕ) (one : Issued) : Type 0 where
  seated : one.seat < seats
  fine : IsFine q one.needs.request

good_issues : (s : LockState) (es : List Event) → AreAccepted s es → AllByRecursion (IsGoodIssue s.groups.q s.seats) (issued_in es)
good_issues s [] accepted = tt
good_issues s (Issue seat r ∷ es) accepted =
    let comes = accepted.0 in
    (record { seated = comes.fits.seat_there; fine = record { normal = comes.normal; reads = comes.fits.reads; writes = comes.fits.writes } }, good_issues (next s (Issue seat r)) es accepted.1)
good_issues s (Finish seat ∷ es) accepted = good_issues (next s (Finish seat)) es accepted.1
good_issues s (Rise seat ∷ es) accepted = good_issues (next s (Rise seat)) es accepted.1
good_issues s (Ask seat part ∷ es) accepted = good_issues (next s (Ask seat part)) es accepted.1

good_at : (s : LockState) (es : List Event) → AreAccepted s es → (t : ℕ) (m : RequestNeeds) → IsAmong (issued_in es) t m → IsGoodIssue s.groups.q s.seats (record { seat = t; needs = m })
good_at s es accepted t m there = all_at (IsGoodIssue s.groups.q s.seats) (issued_in es) (record { seat = t; needs = m }) (good_issues s es accepted) there

-- *The shapes of a history are those of what it needs*
pub have_shapes : (s : LockState) (es : List Event) → AreAccepted s es → HaveShapes (history_needs s.seats es) (shapes_told es)
have_shapes s es accepted =
    told_alike (λ t m. ⊥ ⊎ IsAmong (issued_in es) t m) (IsNeededBy (history_needs s.seats es)) (shapes_told es) (λ t m one. to t m one) (λ t m there. back t m there)
    (tell_over (issued_in es) (λ t m. ⊥) [] (record { told = λ t m one. absurd one; made = λ x there. absurd there; different = tt }))
  where
    to : (t : ℕ) (m : RequestNeeds) → ⊥ ⊎ IsAmong (issued_in es) t m → Among m (requests_of (history_needs s.seats es) t)
    to t m (inl none) = absurd none
    to t m (inr there) = subst (Among m) (sym (requests_by s.seats es t (good_at s es accepted t m there).seated)) (issued_of es t m there)

    back : (t : ℕ) (m : RequestNeeds) → Among m (requests_of (history_needs s.seats es) t) → ⊥ ⊎ IsAmong (issued_in es) t m
    back t m there =
        let some = task_there (history_needs s.seats es) t m there in
        let below : t < s.seats = omega (arith, some, as_many s.seats es) in
        inr (of_issued es t m (subst (Among m) (requests_by s.seats es t below) there))

-- what it needs is in normal form
pub needs_fine : (s : LockState) (es : List Event) → AreAccepted s es → AreFine s.groups.q (history_needs s.seats es)
needs_fine s es accepted =
    all_map (λ task. history.requests_of task es) (λ (ns : List RequestNeeds). AllByRecursion (λ (n : RequestNeeds). IsFine s.groups.q n.request) ns) (range_with_len 0 s.seats)
    (λ t _. all_from (λ (n : RequestNeeds). IsFine s.groups.q n.request) (history.requests_of t es) (λ n there. (good_at s es accepted t n (of_issued es t n there)).fine))

below_with : (q : ℕ) (shapes : List Shape) (t : ℕ) (n : RequestNeeds) → AreBelow q shapes → IsFine q n.request → AreBelow q (with_needed shapes t n)
below_with q [] t n below fine = ((fine.reads, fine.writes), tt)
below_with q (y ∷ ss) t n below fine = at (has_shape t n.request y) (below_with q ss t n below.1 fine)
  where
    at : (b : Bool) → AreBelow q (with_needed ss t n) → AreBelow q (cond b (joined y n ∷ ss) (y ∷ with_needed ss t n))
    at true rest = (below.0, below.1)
    at false rest = (below.0, rest)

below_over : (q seats : ℕ) (xs : List Issued) (shapes : List Shape) → AreBelow q shapes → AllByRecursion (IsGoodIssue q seats) xs → AreBelow q (fold with_issued shapes xs)
below_over q seats [] shapes below good = below
below_over q seats (x ∷ xs) shapes below good = below_over q seats xs (with_issued shapes x) (below_with q shapes x.seat x.needs below good.0.fine) good.1

-- and its shapes are within the resources
pub shapes_below : (s : LockState) (es : List Event) → AreAccepted s es → AreBelow s.groups.q (shapes_told es)
shapes_below s es accepted = below_over s.groups.q s.seats (issued_in es) [] tt (good_issues s es accepted)

seated_with : (seats : ℕ) (shapes : List Shape) (t : ℕ) (n : RequestNeeds) → AllByRecursion (λ (x : Shape). x.task < seats) shapes → t < seats → AllByRecursion (λ (x : Shape). x.task < seats) (with_needed shapes t n)
seated_with seats [] t n seated below = (below, tt)
seated_with seats (y ∷ ss) t n seated below = at (has_shape t n.request y) (seated_with seats ss t n seated.1 below)
  where
    at : (b : Bool) → AllByRecursion (λ (x : Shape). x.task < seats) (with_needed ss t n) → AllByRecursion (λ (x : Shape). x.task < seats) (cond b (joined y n ∷ ss) (y ∷ with_needed ss t n))
    at true rest = (seated.0, seated.1)
    at false rest = (seated.0, rest)

seated_over : (q seats : ℕ) (xs : List Issued) (shapes : List Shape) → AllByRecursion (λ (x : Shape). x.task < seats) shapes → AllByRecursion (IsGoodIssue q seats) xs → AllByRecursion (λ (x : Shape). x.task < seats) (fold with_issued shapes xs)
seated_over q seats [] shapes seated good = seated
seated_over q seats (x ∷ xs) shapes seated good = seated_over q seats xs (with_issued shapes x) (seated_with seats shapes x.seat x.needs seated good.0.seated) good.1

-- each is of an existing seat
pub shapes_seated : (s : LockState) (es : List Event) → AreAccepted s es → AllByRecursion (λ (x : Shape). x.task < s.seats) (shapes_told es)
shapes_seated s es accepted = seated_over s.groups.q s.seats (issued_in es) [] tt (good_issues s es accepted)
