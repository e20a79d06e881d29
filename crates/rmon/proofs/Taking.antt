-- What the changes of some events make of an image.
use Rattle.std.proofs.Common.{◌≡◌, ℕ, zero, suc, ◌<◌, arith, length, take, drop, get_or, true, ◌&&◌, nat_lt, List, [], ◌∷◌, ◌++◌, map, fold, refl, sym, ap, ◌∙◌, subst}
use Rattle.std.proofs.lemmas.Bool.{lt-ltb, and_from}
use Rattle.std.proofs.lemmas.List.{take-append-drop}
use Rattle.std.specs.Prelude.{Result, Ok, Err, OnErr}
use Rattle.rclaim.specs.declared.event.Event.{Event}
use Rattle.rclaim.specs.declared.event.Event.TheVariants.{Issue, Finish, Rise, Ask}
use Rattle.rmodel.specs.Changes.{changes_between}
use Rattle.rmodel.specs.State.{LockState}
use Rattle.rmodel.specs.Steps.{Fits, Comes, AreAccepted, next, after}
use Rattle.rplain.specs.Machine.{Standing}
use Rattle.rmon.specs.Fitting.{fits, is_accepted, is_no_refusal}
use Rattle.rmon.specs.Fronts.{Reached}
use Rattle.rmon.specs.Known.{Feeding, HasTaken}
use Rattle.rmon.specs.Images.{stepped, absorbed}
use Rattle.rmon.specs.declared.image.Image.{Image}
use Rattle.rmon.specs.declared.image.Change.TheVariants.{Take, Reach}

-- an event that a caller may ask for passes the test
pub fitting : (s : LockState) (e : Event) → Fits s e → fits s e ≡ true
fitting s (Issue seat r) f =
    and_from (nat_lt seat s.seats) _ (lt-ltb seat s.seats f.seat_there) (and_from _ _ f.reads (and_from _ _ f.writes (and_from _ _ f.admitted (lt-ltb s.issued _ f.stamps))))
fitting s (Finish seat) f = and_from (nat_lt seat s.seats) true (lt-ltb seat s.seats f) refl
fitting s (Rise seat) f = and_from (nat_lt seat s.seats) true (lt-ltb seat s.seats f) refl
fitting s (Ask seat part) f = and_from (nat_lt seat s.seats) _ (lt-ltb seat s.seats f.0) f.1

-- an event that comes is taken
pub taken : (m : Standing) (e : Event) → Comes m.state e → stepped m e ≡ record { state = next m.state e; last = changes_between m.state (next m.state e) }
taken m e comes =
    let yes : (fits m.state e && is_accepted m.state e) ≡ true = and_from _ _ (fitting m.state e comes.fits) (ap is_no_refusal comes.accepted) in
    rw yes refl

-- accepted events lead the machine to the state after them, and the last change to its front
pub all_taken : (x : Image) (es : List Event) (front : Reached) → AreAccepted x.machine.state es
    → ((fold absorbed x (map Take es ++ Reach front ∷ [])).machine.state ≡ after x.machine.state es) × ((fold absorbed x (map Take es ++ Reach front ∷ [])).front ≡ front)
all_taken x [] front all = (refl, refl)
all_taken x (e ∷ es) front all =
    let y : Image = absorbed x (Take e) in
    let there : y.machine.state ≡ next x.machine.state e = ap (λ m. m.state) (taken x.machine e all.0) in
    let rest = all_taken y es front (subst (λ s. AreAccepted s es) (sym there) all.1) in
    (rest.0 ∙ ap (λ s. after s es) there, rest.1)

-- accepted events, and then others that are accepted after them
pub accepted_append : (s : LockState) (es ds : List Event) → AreAccepted s es → AreAccepted (after s es) ds → AreAccepted s (es ++ ds)
accepted_append s [] ds all more = more
accepted_append s (e ∷ es) ds all more = (all.0, accepted_append (next s e) es ds all.1 more)

-- an event of an accepted list comes to the state after those before it
pub comes_at : (s : LockState) (es : List Event) (i : ℕ) (e : Event) → AreAccepted s es → i < length es → e ≡ get_or es i e → Comes (after s (take i es)) e
comes_at s [] i e accepted h there = absurd (omega arith)
comes_at s (d ∷ es) zero e accepted h there = subst (Comes s) (sym there) accepted.0
comes_at s (d ∷ es) (suc i) e accepted h there = comes_at (next s d) es i e accepted.1 (omega arith) there

-- a feed that has taken the first i of some events
pub has_taken : (f : Feeding) (es : List Event) (i : ℕ) → HasTaken f es (record f { fed = f.fed ++ take i es })
has_taken f es i = (take i es, (drop i es, take-append-drop i es), refl)

-- what holds anyway holds at an error
pub on_err : {T E : Type 0} (r : Result T E) {P : Type 0} → P → OnErr r P
on_err (Ok x) p = tt
on_err (Err e) p = p

-- what follows from what holds at an error holds there too
pub err_then : {T E : Type 0} (r : Result T E) {P Q : Type 0} → OnErr r P → (P → Q) → OnErr r Q
err_then (Ok x) p f = tt
err_then (Err e) p f = f p
