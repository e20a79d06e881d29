-- What holds in each lock state that a list of accepted events leads to.
use Rattle.std.proofs.Common.{◌≡◌, ℕ, ◌==◌, Bool, true, false, not, ◌&&◌, ◌||◌, cond, List, [], ◌∷◌, map, refl, sym, ap, subst, ◌∙◌}
use Rattle.std.proofs.lemmas.Bool.{or_parts, and_parts}
use Rattle.std.specs.List.{AllZip, AllByRecursion}
use Rattle.std.specs.FinSet.{empty, union}
use Rattle.rset.specs.Sets.{Set}
use Rattle.rexpand.specs.Groups.{ReadGroups}
use Rattle.rclaim.specs.Requests.{RequestFields}
use Rattle.rclaim.specs.declared.event.Event.{Event}
use Rattle.rclaim.specs.declared.event.Event.TheVariants.{Issue, Finish, Rise, Ask}
use Rattle.rmodel.specs.declared.claimed.Claimed.{Claimed}
use Rattle.rmodel.specs.Claims.{claims_of, conflicts_on, is_satisfied, is_active, satisfied_by, active_by, waiting}
use Rattle.rmodel.specs.Settling.{settled}
use Rattle.rmodel.specs.State.{LockState, opening}
use Rattle.rmodel.specs.Steps.{changed, next, after, asking, is_kept_from, gets_asked, with_asked, given, Comes, AreAccepted}
pub use Rattle.rmodel.specs.Reached.{IsReached, KeptBehind}
use Rattle.rmodel.specs.Claims.{conflicts}
use Rattle.rmodel.proofs.settling.Behind.{behind_settled, behind_standing}
use Rattle.rmodel.proofs.settling.Keeping.{exclusive_settled}
use Rattle.rmodel.specs.WellFormed.{EachPair, Entered, Apart, AreExclusive, TakeTurns, IsFreeOf, AreFree}
use Rattle.rmodel.proofs.ListFacts.{Among, contrary, none_among, all_at, all_map, zip_among, zip_weaker, zip_map_right, zip_same, pairs_append_all, pairs_filter, pairs_from_all, pairs_of_zip}
use Rattle.rmodel.proofs.reaching.NewClaims.{IsNew, new_claims}
use Rattle.rmodel.proofs.settling.Settlement.{settles_settled}
use Rattle.rmodel.proofs.settling.Stable.{stable_settled}
use Rattle.rmodel.proofs.settling.Admitted.{admitted_settled, admitted_changed, admitted_given}
use Rattle.rmodel.proofs.settling.Keeping.{entered_settled, apart_settled, not_false}
use Rattle.rmodel.proofs.settling.Turns.{turns_settled}
use Rattle.rmodel.proofs.settling.EarlyGrants.{free_settled, none_on_both, none_on_nothing}
use Rattle.rmodel.proofs.settling.Giving.{given_again}
use Rattle.rmodel.proofs.settling.Standing.{SameStanding, settles_standing, entered_standing, apart_standing, turns_standing, asking_standing, given_standing}
use Rattle.rmodel.proofs.reaching.Soundness.{sound_changed, sound_next, sound_opening}

-- ---- an event keeps them

-- what holds for each pair of claims also holds with a claim that waits and to which nothing was granted
record IsForNew (R : Claimed → Claimed → Type 0) : Type 0 where
  with_new : (stamp seat : ℕ) (x n : Claimed) → IsNew stamp seat n → R x n

waits_inactive : (n : Claimed) (stamp seat : ℕ) → IsNew stamp seat n → is_active n ≡ false
waits_inactive n stamp seat new = ap active_by new.waits

waits_unsatisfied : (n : Claimed) (stamp seat : ℕ) → IsNew stamp seat n → is_satisfied n ≡ false
waits_unsatisfied n stamp seat new = ap satisfied_by new.waits

pairs_issued : (R : Claimed → Claimed → Type 0) (s : LockState) (seat : ℕ) (r : RequestFields) → IsForNew R → Comes s (Issue seat r) → EachPair R s.claims → EachPair R (changed s (Issue seat r)).claims
pairs_issued R s seat r for_new comes pairs =
    let new = new_claims s.groups.groups s.issued seat r comes.normal in
    let ns = map (waiting r.first) (claims_of s.groups.groups s.issued seat r) in
    pairs_append_all R s.claims ns pairs (pairs_from_all (IsNew s.issued seat) R (λ m n is_m is_n. for_new.with_new s.issued seat m n is_n) ns new.each)
    (λ x n in_s in_new. for_new.with_new s.issued seat x n (all_at (IsNew s.issued seat) ns n new.each in_new))

pub entered_changed : (s : LockState) (e : Event) → Comes s e → EachPair Entered s.claims → EachPair Entered (changed s e).claims
entered_changed s (Issue seat r) comes pairs =
    pairs_issued Entered s seat r (record { with_new = λ stamp at x n new w w' share active. contrary (is_active n) active (waits_inactive n stamp at new) }) comes pairs
entered_changed s (Finish seat) comes pairs = pairs_filter Entered _ s.claims pairs
entered_changed s (Rise seat) comes pairs = pairs_filter Entered _ s.claims pairs
entered_changed s (Ask seat part) comes pairs = entered_standing s.claims _ (asking_standing seat part s.claims) pairs

pub apart_changed : (s : LockState) (e : Event) → Comes s e → EachPair Apart s.claims → EachPair Apart (changed s e).claims
apart_changed s (Issue seat r) comes pairs =
    pairs_issued Apart s seat r (record { with_new = λ stamp at x n new sat sat'. contrary (is_satisfied n) sat' (waits_unsatisfied n stamp at new) }) comes pairs
apart_changed s (Finish seat) comes pairs = pairs_filter Apart _ s.claims pairs
apart_changed s (Rise seat) comes pairs = pairs_filter Apart _ s.claims pairs
apart_changed s (Ask seat part) comes pairs = apart_standing s.claims _ (asking_standing seat part s.claims) pairs

turns_changed : (s : LockState) (e : Event) → Comes s e → EachPair TakeTurns s.claims → EachPair TakeTurns (changed s e).claims
turns_changed s (Issue seat r) comes pairs =
    pairs_issued TakeTurns s seat r (record { with_new = λ stamp at x n new seats active. contrary (is_active n) active (waits_inactive n stamp at new) }) comes pairs
turns_changed s (Finish seat) comes pairs = pairs_filter TakeTurns _ s.claims pairs
turns_changed s (Rise seat) comes pairs = pairs_filter TakeTurns _ s.claims pairs
turns_changed s (Ask seat part) comes pairs = turns_standing s.claims _ (asking_standing seat part s.claims) pairs

behind_changed : (s : LockState) (e : Event) → Comes s e → EachPair KeptBehind s.claims → EachPair KeptBehind (changed s e).claims
behind_changed s (Issue seat r) comes pairs =
    pairs_issued KeptBehind s seat r
    (record {
      with_new = λ stamp at x n new read unsat.
          ap (λ a. n.claim.write_half && a && conflicts n.claim x.claim) (waits_inactive n stamp at new) ∙ never n.claim.write_half (conflicts n.claim x.claim);
    })
    comes pairs
  where
    never : (w c : Bool) → (w && false && c) ≡ false
    never true c = refl
    never false c = refl
behind_changed s (Finish seat) comes pairs = pairs_filter KeptBehind _ s.claims pairs
behind_changed s (Rise seat) comes pairs = pairs_filter KeptBehind _ s.claims pairs
behind_changed s (Ask seat part) comes pairs = behind_standing s.claims _ (asking_standing seat part s.claims) pairs

-- one claim, equally far and with as much granted
record SameGrants (x y : Claimed) : Type 0 where
  standing : SameStanding x y
  granted : y.granted ≡ x.granted

free_same : (v v' x x' : Claimed) → SameStanding v v' → SameGrants x x' → IsFreeOf v x → IsFreeOf v' x'
free_same v v' x x' a b free sat unsat =
    (λ i. conflicts_on (a.claim i) (b.standing.claim i) (b.granted i)) ∙ free (ap satisfied_by (sym a.status) ∙ sat) (ap satisfied_by (sym b.standing.status) ∙ unsat)

asking_grants : (seat : ℕ) (part : Set) (xs : List Claimed) → AllZip SameGrants xs (map (asking seat part) xs)
asking_grants seat part xs =
    zip_map_right (asking seat part) (λ x y. x ≡ y) SameGrants (λ x y e. subst (λ (z : Claimed). SameGrants z (asking seat part y)) (sym e) (at y (y.claim.seat == seat))) xs xs (zip_same (λ x y. x ≡ y) (λ x. refl) xs)
  where
    at : (y : Claimed) (b : Bool) → SameGrants y (cond b (record y { asked = part }) y)
    at y true = record { standing = record { claim = refl; status = refl }; granted = refl }
    at y false = record { standing = record { claim = refl; status = refl }; granted = refl }

free_changed : (s : LockState) (e : Event) → Comes s e → EachPair AreFree s.claims → EachPair AreFree (changed s e).claims
free_changed s (Issue seat r) comes pairs =
    pairs_issued AreFree s seat r
    (record {
      with_new = λ stamp at x n new. (
        (λ sat unsat. ap (conflicts_on x.claim n.claim) new.nothing_granted ∙ none_on_nothing x.claim n.claim),
        (λ sat unsat. contrary (is_satisfied n) sat (waits_unsatisfied n stamp at new)),
      );
    })
    comes pairs
free_changed s (Finish seat) comes pairs = pairs_filter AreFree _ s.claims pairs
free_changed s (Rise seat) comes pairs = pairs_filter AreFree _ s.claims pairs
free_changed s (Ask seat part) comes pairs =
    pairs_of_zip AreFree SameGrants AreFree (λ x x' y y' f a b. (free_same x y x' y' a.standing b f.0, free_same x' y' x y b.standing a f.1)) s.claims _ pairs (asking_grants seat part s.claims)

-- ---- what is granted keeps them

module _ (xs : List Claimed) where
  -- a claim before and after it gets what it asks for
  record Gets (x y : Claimed) : Type 0 where
    there : Among x xs
    is : y ≡ with_asked xs x

  gets : AllZip Gets xs (given xs)
  unfolding given
  gets =
      zip_weaker (λ x y. (y ≡ with_asked xs x) × Among x xs × Among y (map (with_asked xs) xs)) Gets (λ x y h. record { there = h.1; is = h.0 }) xs (map (with_asked xs) xs)
      (zip_among (λ x y. y ≡ with_asked xs x) xs (map (with_asked xs) xs) (zip_map_right (with_asked xs) (λ x y. x ≡ y) (λ x y. y ≡ with_asked xs x) (λ x y e. ap (with_asked xs) (sym e)) xs xs (zip_same (λ x y. x ≡ y) (λ x. refl) xs)))

  -- what an unsatisfied claim gets is free of satisfied claims
  gets_free : (v x : Claimed) → Among v xs → IsFreeOf v x → (b : Bool) → gets_asked xs x ≡ b → is_satisfied v ≡ true → is_satisfied x ≡ false
      → conflicts_on v.claim x.claim (cond b (record x { asked = empty; granted = union x.granted x.asked }) x).granted ≡ false
  gets_free v x there free false is sat unsat = free sat unsat
  gets_free v x there free true is sat unsat =
      let entitled : (is_active x && not (is_kept_from xs x.claim x.asked)) ≡ true = ap (λ b. b || (is_active x && not (is_kept_from xs x.claim x.asked))) (sym unsat) ∙ is in
      let none : is_kept_from xs x.claim x.asked ≡ false = not_false _ (and_parts (is_active x) (not (is_kept_from xs x.claim x.asked)) entitled).1 in
      none_on_both v.claim x.claim x.granted x.asked (free sat unsat)
      (ap (λ b. b && conflicts_on v.claim x.claim x.asked) (sym sat) ∙ none_among (λ v. is_satisfied v && conflicts_on v.claim x.claim x.asked) xs v none there)

  standing_of_gets : (x y : Claimed) → Gets x y → SameStanding x y
  standing_of_gets x y g = subst (λ (z : Claimed). SameStanding x z) (sym g.is) (at (gets_asked xs x))
    where
      at : (b : Bool) → SameStanding x (cond b (record x { asked = empty; granted = union x.granted x.asked }) x)
      at true = record { claim = refl; status = refl }
      at false = record { claim = refl; status = refl }

  free_of_given : (v v' x x' : Claimed) → Gets v v' → Gets x x' → IsFreeOf v x → IsFreeOf v' x'
  free_of_given v v' x x' g h free sat unsat =
      let a = standing_of_gets v v' g in
      let b = standing_of_gets x x' h in
      (λ i. conflicts_on (a.claim i) (b.claim i) (h.is i).granted)
      ∙ gets_free v x g.there free (gets_asked xs x) refl (ap satisfied_by (sym a.status) ∙ sat) (ap satisfied_by (sym b.status) ∙ unsat)

  pub free_given : EachPair AreFree xs → EachPair AreFree (given xs)
  free_given pairs = pairs_of_zip AreFree Gets AreFree (λ x x' y y' f g h. (free_of_given x y x' y' g h f.0, free_of_given x' y' x y h g f.1)) xs (given xs) pairs gets

  pub answered_given : AllByRecursion (λ x. is_satisfied x ≡ true → x.asked ≡ empty) (given xs)
  unfolding given
  answered_given = all_map (with_asked xs) (λ y. is_satisfied y ≡ true → y.asked ≡ empty) xs (λ x there. at x (gets_asked xs x) refl)
    where
      at : (x : Claimed) (b : Bool) → gets_asked xs x ≡ b → is_satisfied (cond b (record x { asked = empty; granted = union x.granted x.asked }) x) ≡ true
          → (cond b (record x { asked = empty; granted = union x.granted x.asked }) x).asked ≡ empty
      at x true is sat = refl
      at x false is sat = contrary (is_satisfied x) sat (or_parts (is_satisfied x) _ is).0

-- ---- a step

-- once an event is settled, what keeps a read waiting comes before it
pub behind_next : (s : LockState) (e : Event) → IsReached s → Comes s e → EachPair KeptBehind (settled (changed s e).claims)
behind_next s e reached comes =
    let mid = sound_changed s e reached.sound comes in
    let xs = (changed s e).claims in
    let t = settled xs in
    let settles = settles_settled xs mid.well_formed in
    let groups = (changed s e).groups.groups in
    let exclusive : AreExclusive xs =
    record { well_formed = mid.well_formed; entered = entered_changed s e comes reached.entered; apart = apart_changed s e comes reached.apart } in
    behind_settled groups xs t settles (exclusive_settled xs t exclusive settles)
    (admitted_settled groups xs t (admitted_changed s e comes.fits reached.admitted) settles) mid.one_each (behind_changed s e comes reached.kept_behind)

pub reached_next : (s : LockState) (e : Event) → IsReached s → Comes s e → IsReached (next s e)
reached_next s e reached comes =
    let mid = sound_changed s e reached.sound comes in
    let xs = (changed s e).claims in
    let t = settled xs in
    let settles = settles_settled xs mid.well_formed in
    let entered = entered_changed s e comes reached.entered in
    let apart = apart_changed s e comes reached.apart in
    let groups = (changed s e).groups.groups in
    let admitted = admitted_changed s e comes.fits reached.admitted in
    let exclusive : AreExclusive xs = record { well_formed = mid.well_formed; entered = entered; apart = apart } in
    let same = given_standing t in
    record {
      sound = sound_next s e reached.sound comes;
      entered = entered_standing t (given t) same (entered_settled xs t settles mid.well_formed entered apart);
      apart = apart_standing t (given t) same (apart_settled xs t settles mid.well_formed entered apart);
      stable = settles_standing t (given t) same (stable_settled xs t settles);
      at_rest = given_again t;
      admitted = admitted_given groups t (admitted_settled groups xs t admitted settles);
      turns = turns_standing t (given t) same (turns_settled groups xs t settles exclusive admitted mid.one_each (turns_changed s e comes reached.turns));
      free = free_given t (free_settled xs t settles mid.well_formed entered apart mid.parts (free_changed s e comes reached.free));
      kept_behind = behind_standing t (given t) same (behind_next s e reached comes);
      answered = answered_given t;
    }

pub reached_after : (s : LockState) (es : List Event) → IsReached s → AreAccepted s es → IsReached (after s es)
reached_after s [] reached accepted = reached
reached_after s (e ∷ es) reached accepted = reached_after (next s e) es (reached_next s e reached accepted.0) accepted.1

pub reached_opening : (groups : ReadGroups) (seats cap : ℕ) → IsReached (opening groups seats cap)
unfolding given
reached_opening groups seats cap = record { sound = sound_opening groups seats cap; entered = tt; apart = tt; stable = tt; at_rest = refl; admitted = tt; turns = tt; free = tt; kept_behind = tt; answered = tt }
