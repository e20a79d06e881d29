-- The changes of a step are those from the claims that the event leaves to what they settle to.
use Rattle.std.proofs.Common.{◌≡◌, ℕ, ◌==◌, ◌&&◌, ◌||◌, Bool, true, false, not, cond, List, [], ◌∷◌, ◌++◌, map, filter, Option, Some, None, refl, sym, ap, ◌∙◌, inl, inr}
use Rattle.std.proofs.lemmas.Bool.{true≢false, eq-eqb, eqb-true, and_parts}
use Rattle.std.specs.Prelude.{unwrap_or}
use Rattle.std.specs.FinSet.{empty}
use Rattle.std.specs.List.{filter_map, cons_option, AllZip, AllByRecursion}
use Rattle.std.specs.Option.{option_to_list}
use Rattle.rclaim.specs.declared.claim.Status.{Status}
use Rattle.rclaim.specs.declared.event.Event.{Event}
use Rattle.rclaim.specs.declared.event.Event.TheVariants.{Issue, Finish, Rise, Ask}
use Rattle.rmodel.specs.declared.claimed.Claimed.{Claimed}
use Rattle.rmodel.specs.Claims.{claims_of, waiting}
use Rattle.rmodel.specs.Holds.{has_request}
use Rattle.rmodel.specs.Changes.{is_same, is_claim_of, claim_at, was_in, status_change, grant_change, changes_between, status_changes, grant_changes}
use Rattle.rmodel.specs.State.{LockState}
use Rattle.rmodel.specs.Steps.{changed, asking, Comes}
use Rattle.rmodel.specs.WellFormed.{EachPair, Distinct, IsSound}
use Rattle.rmodel.proofs.ListFacts.{Among, among_filter, all_append, all_from, all_at, all_map, false_from}
use Rattle.rmodel.proofs.reaching.NewClaims.{IsNew, new_claims}
use Rattle.rmodel.proofs.reaching.Soundness.{SameClaim, seat_is_idle, read_of_half}

same_as_itself : (b : Bool) → is_same b b ≡ true
same_as_itself true = refl
same_as_itself false = refl

is_claim_of_its_seat : (x : Claimed) → is_claim_of x.claim.seat x.claim.write_half x ≡ true
is_claim_of_its_seat x = (λ i. eq-eqb x.claim.seat x.claim.seat refl i && same_as_itself x.claim.write_half i)

-- the first of two claims of one seat is the read half, and the other the write half
other_claim : (y x : Claimed) → Distinct y x → is_claim_of x.claim.seat x.claim.write_half y ≡ false
other_claim y x distinct = false_from _ (λ h.
    let parts = and_parts (y.claim.seat == x.claim.seat) (is_same y.claim.write_half x.claim.write_half) h in
    let halves = distinct (eqb-true y.claim.seat x.claim.seat parts.0) in
    true≢false (sym parts.1 ∙ (λ i. is_same (read_of_half y.claim halves.reads i) (halves.writes i))))

-- a claim is found by its seat and its half
found : (xs : List Claimed) (x : Claimed) → EachPair Distinct xs → Among x xs → claim_at xs x.claim.seat x.claim.write_half ≡ Some x
found [] x distinct there = absurd there
found (y ∷ ys) x distinct (inl same) =
    ap (λ z. cond (is_claim_of x.claim.seat x.claim.write_half z) (Some z) (claim_at ys x.claim.seat x.claim.write_half)) (sym same)
    ∙ ap (λ b. cond b (Some x) (claim_at ys x.claim.seat x.claim.write_half)) (is_claim_of_its_seat x)
found (y ∷ ys) x distinct (inr later) =
    ap (λ b. cond b (Some y) (claim_at ys x.claim.seat x.claim.write_half)) (other_claim y x (all_at (Distinct y) ys x distinct.0 later))
    ∙ found ys x distinct.1 later

-- a seat with no request has no claim
pub absent : (xs : List Claimed) (seat : ℕ) (half : Bool) → has_request xs seat ≡ false → claim_at xs seat half ≡ None
absent [] seat half idle = refl
absent (y ∷ ys) seat half idle = at (y.claim.seat == seat) refl idle (absent ys seat half)
  where
    at : (b : Bool) → (y.claim.seat == seat) ≡ b → (b || has_request ys seat) ≡ false → (has_request ys seat ≡ false → claim_at ys seat half ≡ None)
        → cond ((y.claim.seat == seat) && is_same y.claim.write_half half) (Some y) (claim_at ys seat half) ≡ None
    at true is idle rest = absurd (true≢false idle)
    at false is idle rest = ap (λ b. cond (b && is_same y.claim.write_half half) (Some y) (claim_at ys seat half)) is ∙ rest idle

-- a claim as it was, except for what it asks for
pub record Since (was x : Claimed) : Type 0 where
  pub claim : was.claim ≡ x.claim
  pub status : was.status ≡ x.status
  pub granted : was.granted ≡ x.granted

since_itself : (w x : Claimed) → w ≡ x → Since w x
since_itself w x e = record { claim = ap (λ z. z.claim) e; status = ap (λ z. z.status) e; granted = ap (λ z. z.granted) e }

pub was_there : (s : LockState) (x : Claimed) → IsSound s → Among x s.claims → was_in s.claims x.claim ≡ x
was_there s x sound there = ap (λ o. unwrap_or o (waiting empty x.claim)) (found s.claims x sound.one_each there)

-- each claim that an event leaves is as it was, or was waiting
pub was_left : (s : LockState) (e : Event) → IsSound s → Comes s e → AllByRecursion (λ x. Since (was_in s.claims x.claim) x) (changed s e).claims
was_left s (Issue seat r) sound comes =
    let ns = map (waiting r.first) (claims_of s.groups.groups s.issued seat r) in
    let new = new_claims s.groups.groups s.issued seat r comes.normal in
    all_append (λ x. Since (was_in s.claims x.claim) x) s.claims ns
    (all_from _ s.claims (λ x there. since_itself _ x (was_there s x sound there)))
    (all_from _ ns (λ n there. at n (all_at (IsNew s.issued seat) ns n new.each there)))
  where
    at : (n : Claimed) → IsNew s.issued seat n → Since (was_in s.claims n.claim) n
    at n new =
        let fresh : was_in s.claims n.claim ≡ waiting empty n.claim
        = ap (λ o. unwrap_or o (waiting empty n.claim)) (absent s.claims n.claim.seat n.claim.write_half (ap (has_request s.claims) new.seated ∙ seat_is_idle s seat r comes.accepted)) in
        record {
          claim = ap (λ z. z.claim) fresh;
          status = ap (λ z. z.status) fresh ∙ sym new.waits;
          granted = ap (λ z. z.granted) fresh ∙ sym new.nothing_granted;
        }
was_left s (Finish seat) sound comes =
    all_from _ (filter (λ x. not (x.claim.seat == seat)) s.claims)
    (λ x there. since_itself _ x (was_there s x sound (among_filter (λ x. not (x.claim.seat == seat)) s.claims x there).0))
was_left s (Rise seat) sound comes =
    all_from _ (filter (λ x. not ((x.claim.seat == seat) && not x.claim.write_half)) s.claims)
    (λ x there. since_itself _ x (was_there s x sound (among_filter (λ x. not ((x.claim.seat == seat) && not x.claim.write_half)) s.claims x there).0))
was_left s (Ask seat part) sound comes =
    all_map (asking seat part) (λ y. Since (was_in s.claims y.claim) y) s.claims (λ x there. at x (was_there s x sound there) (x.claim.seat == seat))
  where
    at : (x : Claimed) → was_in s.claims x.claim ≡ x → (b : Bool) → Since (was_in s.claims (cond b (record x { asked = part }) x).claim) (cond b (record x { asked = part }) x)
    at x was false = since_itself _ x was
    at x was true = record { claim = ap (λ z. z.claim) was; status = ap (λ z. z.status) was; granted = ap (λ z. z.granted) was }

-- the changes from a claim do not depend on what it asks for
status_since : (w x y : Claimed) → Since w x → status_change w y ≡ status_change x y
status_since w x y since = ap (λ (v : Status). status_change (record w { status = v }) y) since.status

grant_since : (w x y : Claimed) → Since w x → grant_change w y ≡ grant_change x y
grant_since w x y since = (λ i. grant_change (record { claim = since.claim i; status = since.status i; asked = w.asked; granted = since.granted i }) y)

cons_is : {X : Type 0} (o : Option X) (rest : List X) → cons_option o rest ≡ option_to_list o ++ rest
cons_is None rest = refl
cons_is (Some x) rest = refl

statuses_told : (before xs ys : List Claimed) → AllByRecursion (λ x. Since (was_in before x.claim) x) xs → AllZip SameClaim xs ys
    → filter_map (λ y. status_change (was_in before y.claim) y) ys ≡ status_changes xs ys
unfolding status_changes
statuses_told before [] [] was same = refl
statuses_told before [] (y ∷ ys) was same = absurd same
statuses_told before (x ∷ xs) [] was same = absurd same
statuses_told before (x ∷ xs) (y ∷ ys) was same =
    cons_is (status_change (was_in before y.claim) y) _
    ∙ (λ i. option_to_list ((ap (λ c. status_change (was_in before c) y) same.0 ∙ status_since (was_in before x.claim) x y was.0) i) ++ statuses_told before xs ys was.1 same.1 i)

grants_told : (before xs ys : List Claimed) → AllByRecursion (λ x. Since (was_in before x.claim) x) xs → AllZip SameClaim xs ys
    → filter_map (λ y. grant_change (was_in before y.claim) y) ys ≡ grant_changes xs ys
unfolding grant_changes
grants_told before [] [] was same = refl
grants_told before [] (y ∷ ys) was same = absurd same
grants_told before (x ∷ xs) [] was same = absurd same
grants_told before (x ∷ xs) (y ∷ ys) was same =
    cons_is (grant_change (was_in before y.claim) y) _
    ∙ (λ i. option_to_list ((ap (λ c. grant_change (was_in before c) y) same.0 ∙ grant_since (was_in before x.claim) x y was.0) i) ++ grants_told before xs ys was.1 same.1 i)

-- the changes between two states, from the claims that the event left
pub changes_told : (s t : LockState) (e : Event) → IsSound s → Comes s e → AllZip SameClaim (changed s e).claims t.claims
    → changes_between s t ≡ record { statuses = status_changes (changed s e).claims t.claims; grants = grant_changes (changed s e).claims t.claims }
unfolding changes_between
changes_told s t e sound comes same =
    let was = was_left s e sound comes in
    (λ i. record {
      statuses = statuses_told s.claims (changed s e).claims t.claims was same i;
      grants = grants_told s.claims (changed s e).claims t.claims was same i;
    })
