-- A seat gives back what it has taken, with an event that gives back all that it holds.
use Rattle.std.proofs.Common.{◌≡◌, ℕ, suc, ◌-◌, ◌<◌, ◌≤◌, ◌==◌, ◌&&◌, not, Bool, true, false, cond, List, [], ◌∷◌, ◌++◌, map, filter, length, Some, None, refl, sym, ap, subst, ◌∙◌, inl, inr, arith}
use Rattle.std.specs.Prelude.{slice_get, slice_set, is_some}
use Rattle.std.specs.FinSet.{contains}
use Rattle.std.specs.List.{AllZip}
use Rattle.std.proofs.lemmas.Bool.{true≢false, eqb-true, or_parts, and_parts, and_from}
use Rattle.std.proofs.lemmas.List.{length-set}
use Rattle.std.proofs.lemmas.List.Sums.{length-filter}
use Rattle.rclaim.specs.declared.event.Event.{Event}
use Rattle.rmodel.specs.declared.claimed.Claimed.{Claimed}
use Rattle.rmodel.specs.declared.granted.Granted.{Granted}
use Rattle.rmodel.specs.declared.refused.Refused.{Refused}
use Rattle.rmodel.specs.declared.refused.Refused.TheVariants.{NotHolding, NotUpgradeable}
use Rattle.rmodel.specs.Claims.{is_read_half, is_upgrade}
use Rattle.rmodel.specs.Holds.{nothing, holds_of, is_nothing, has_request, has_ask, may_rise, is_within}
use Rattle.rmodel.specs.Reached.{IsReached}
use Rattle.rmodel.specs.Settling.{settled}
use Rattle.rmodel.specs.State.{LockState}
use Rattle.rmodel.specs.StateLaws.{gives_back}
use Rattle.rmodel.specs.Steps.{Accepts, Comes, changed, given, next, is_not_holding, first_cause}
use Rattle.rmodel.proofs.ListFacts.{Among, passing}
use Rattle.rmodel.proofs.reaching.Growing.{held_next}
use Rattle.rmodel.proofs.reaching.HeldBySeat.{is_nothing_of, nothing_within, within_all, idle_holds_nothing}
use Rattle.rmodel.proofs.reaching.Histories.{sizes_after}
use Rattle.rmodel.proofs.reaching.Soundness.{same_claims, given_same, sound_changed}
use Rattle.rmodel.proofs.settling.Settlement.{settles_settled}
use Rattle.rvalue.specs.Entries.{EntryFields}
use Rattle.rvalue.specs.Histories.{value_of}
use Rattle.rstate.specs.Contents.{Contents, AreTaken, IsState, GivesBackAll, ComesHome}
use Rattle.rstate.specs.Histories.{Beginning, first_of, MayFollow}
use Rattle.rstate.specs.Lent.{LentFields}
use Rattle.rstate.specs.Moves.{AreMissed, after_loans, HaveHomes, after_wholes}
use Rattle.rstate.specs.Shares.{ShareFields}
use Rattle.rstate.proofs.histories.Following.{event_of, lock_is_after}
use Rattle.rstate.proofs.homes.Giving.{missed, there_are_homes, homes_back, between_length}
use Rattle.rstate.proofs.homes.Lists.{count_few, get_here, get_else, get_there, same_item}
use Rattle.rstate.proofs.homes.Moved.{wholes_length}
use Rattle.rstate.proofs.homes.Taking.{MayTake}
use Rattle.rstate.proofs.keeping.Pushing.{kept_reached, kept_push, value_push}
use Rattle.rstate.proofs.keeping.Taking.{may_take}

-- ---- fewer claims

zip_length : {X Y : Type 0} (R : X → Y → Type 0) (xs : List X) (ys : List Y) → AllZip R xs ys → length ys ≡ length xs
zip_length R [] [] zip = refl
zip_length R [] (y ∷ ys) zip = elim zip [ ]
zip_length R (x ∷ xs) [] zip = elim zip [ ]
zip_length R (x ∷ xs) (y ∷ ys) zip = ap suc (zip_length R xs ys zip.1)

filter_few : {X : Type 0} (p : X → Bool) (xs : List X) → length (filter p xs) ≤ length xs
filter_few p xs = subst (λ n. n ≤ length xs) (sym (length-filter p xs)) (count_few p xs)

filter_fewer : {X : Type 0} (p : X → Bool) (xs : List X) (x : X) → Among x xs → p x ≡ false → length (filter p xs) < length xs
filter_fewer p [] x among fails = elim among [ ]
filter_fewer p (y ∷ ys) x (inl same) fails =
    let skipped : length (filter p (y ∷ ys)) ≡ length (filter p ys) = ap (λ b. length (cond b (y ∷ filter p ys) (filter p ys))) (ap p (sym same) ∙ fails) in
    let few = filter_few p ys in
    omega (arith, skipped, few)
filter_fewer p (y ∷ ys) x (inr later) fails = put (p y) (filter p ys) (filter_fewer p ys x later fails)
  where
    put : (b : Bool) (zs : List _) → length zs < length ys → length (cond b (y ∷ zs) zs) < length (y ∷ ys)
    put true zs less = omega (arith, less)
    put false zs less = omega (arith, less)

none_first : (b : Bool) (r : Refused) (rest : List (Bool × Refused)) → first_cause ((b, r) ∷ rest) ≡ None → (b ≡ false) × (first_cause rest ≡ None)
none_first true r rest h = absurd (true≢false (ap is_some h))
none_first false r rest h = (refl, h)

true_from : (b : Bool) → (b ≡ false → ⊥) → b ≡ true
true_from true not_false = refl
true_from false not_false = absurd (not_false refl)

not_holding_of : (s : LockState) (seat : ℕ) (e : Event) → GivesBackAll seat e → Accepts s e → is_not_holding s.claims seat ≡ false
not_holding_of s seat e (inl is) accepts = (none_first (is_not_holding s.claims seat) NotHolding [] (subst (Accepts s) is accepts)).0
not_holding_of s seat e (inr is) accepts = (none_first (is_not_holding s.claims seat) NotHolding ((not (may_rise s.claims seat), NotUpgradeable) ∷ []) (subst (Accepts s) is accepts)).0

has_one : (xs : List Claimed) (seat : ℕ) → is_not_holding xs seat ≡ false → has_request xs seat ≡ true
has_one xs seat holding = true_from (has_request xs seat) (λ idle.
    true≢false (sym (is_nothing_of (holds_of xs seat) (idle_holds_nothing xs seat idle)) ∙ (or_parts (is_nothing (holds_of xs seat)) (has_ask xs seat) holding).0))

fewer_changed : (s : LockState) (seat : ℕ) (e : Event) → GivesBackAll seat e → Accepts s e → length (changed s e).claims < length s.claims
fewer_changed s seat e (inl is) accepts =
    let x = passing (λ x. x.claim.seat == seat) s.claims (has_one s.claims seat (not_holding_of s seat e (inl is) accepts)) in
    subst (λ d. length (changed s d).claims < length s.claims) (sym is) (filter_fewer (λ x. not (x.claim.seat == seat)) s.claims x.0 x.1 (ap not x.2))
fewer_changed s seat e (inr is) accepts =
    let causes = none_first (is_not_holding s.claims seat) NotHolding ((not (may_rise s.claims seat), NotUpgradeable) ∷ []) (subst (Accepts s) is accepts) in
    let rises : may_rise s.claims seat ≡ true = true_from (may_rise s.claims seat) (λ h. true≢false (sym (ap not h) ∙ (none_first (not (may_rise s.claims seat)) NotUpgradeable [] causes.1).0)) in
    let x = passing (λ x. (x.claim.seat == seat) && is_read_half x.claim) s.claims rises in
    let parts = and_parts (x.0.claim.seat == seat) (is_read_half x.0.claim) x.2 in
    let half = and_parts (is_upgrade x.0.claim.kind) (not x.0.claim.write_half) parts.1 in
    subst (λ d. length (changed s d).claims < length s.claims) (sym is)
    (filter_fewer (λ x. not ((x.claim.seat == seat) && not x.claim.write_half)) s.claims x.0 x.1 (ap not (and_from (x.0.claim.seat == seat) (not x.0.claim.write_half) parts.0 half.1)))

pub fewer_next : (s : LockState) (seat : ℕ) (e : Event) → IsReached s → Comes s e → GivesBackAll seat e → length (next s e).claims < length s.claims
fewer_next s seat e reached comes gives =
    let settles = settles_settled (changed s e).claims (sound_changed s e reached.sound comes).well_formed in
    let as_many = zip_length _ (settled (changed s e).claims) (given (settled (changed s e).claims)) (given_same (settled (changed s e).claims)) ∙ zip_length _ (changed s e).claims (settled (changed s e).claims) (same_claims (changed s e).claims (settled (changed s e).claims) settles) in
    subst (λ n. n < length s.claims) (sym as_many) (fewer_changed s seat e gives comes.accepted)

-- ---- what is taken

gives_of_others : (seat k : ℕ) (e : Event) → GivesBackAll seat e → (seat == k) ≡ false → gives_back k e ≡ false
gives_of_others seat k e (inl is) differ = ap (gives_back k) is ∙ differ
gives_of_others seat k e (inr is) differ = ap (gives_back k) is ∙ differ

taken_less : (s t : LockState) (e : Event) (seats seat : ℕ) (taken : List Granted) (g : Granted) → IsReached s → Comes s e → t ≡ next s e → GivesBackAll seat e → slice_get taken seat ≡ Some g
    → AreTaken s.claims seats taken → AreTaken t.claims seats (slice_set taken seat nothing)
taken_less s t e seats seat taken g reached comes goes gives there was = record {
  each_seat = length-set taken seat nothing ∙ was.each_seat;
  within = λ k h at_k. by_test k h at_k (seat == k) refl;
}
  where
    by_test : (k : ℕ) (h : Granted) → slice_get (slice_set taken seat nothing) k ≡ Some h → (b : Bool) → (seat == k) ≡ b → is_within h (holds_of t.claims k) ≡ true
    by_test k h at_k true same =
        let none : nothing ≡ h = same_item nothing h (sym (get_here taken seat g nothing there) ∙ ap (slice_get (slice_set taken seat nothing)) (eqb-true seat k same) ∙ at_k) in
        ap (λ (x : Granted). is_within x (holds_of t.claims k)) (sym none) ∙ nothing_within (holds_of t.claims k)
    by_test k h at_k false differ =
        subst (λ (u : LockState). is_within h (holds_of u.claims k) ≡ true) (sym goes)
        (within_all h (holds_of s.claims k) (holds_of (next s e).claims k) (was.within k h (sym (get_else taken seat k nothing differ) ∙ at_k)) (held_next s e k reached comes (gives_of_others seat k e gives differ)))

-- ---- the state

module _ {V E : Type 0} (after : V → E → V) (taken_by : V → E → Bool) (number : V → ℕ)
    (m : LockState) (spare : ℕ) (b : Beginning V) (entries : List (EntryFields E)) (taken : List Granted) (at_home : List (ShareFields V)) (given_now room : ℕ)
    (was : IsState after taken_by number m spare (record { beginning = b; entries = entries; taken = taken }) at_home given_now room)
    (seat : ℕ) (entry : EntryFields E) (gives : GivesBackAll seat entry.event) (right : MayFollow after taken_by number b entries entry) where
  abbrev view : Contents V E
  view = record { beginning = b; entries = entries; taken = taken }

  reached : IsReached m
  reached = kept_reached after taken_by number m spare view was.kept

  comes : Comes m entry.event
  comes = subst (λ s. Comes s entry.event) (sym was.kept.machine_is) right.comes

  -- there is room for its entry
  pub some_room : 1 ≤ spare
  some_room =
      let fewer = fewer_next m seat entry.event reached comes gives in
      at_least (length (next m entry.event).claims) (length m.claims) spare fewer was.kept.room
    where
      at_least : (a b c : ℕ) → a < b → b ≤ c → 1 ≤ c
      at_least a b c less few = omega (arith, less, few)

  pub seat_there : seat < length taken
  seat_there = subst (λ n. seat < n) (sym was.kept.taken_is.each_seat) (subst (λ n. seat < n) seats (by_event entry.event gives comes))
    where
      seats : m.seats ≡ b.seats
      seats = ap (λ s. s.seats) (was.kept.machine_is ∙ lock_is_after b entries) ∙ (sizes_after (first_of b) (map event_of entries)).seats

      by_event : (e : Event) → GivesBackAll seat e → Comes m e → seat < m.seats
      by_event e (inl is) comes_e = (subst (Comes m) is comes_e).fits
      by_event e (inr is) comes_e = (subst (Comes m) is comes_e).fits

  -- what the seat has taken
  pub has_taken : (g : Granted) × (slice_get taken seat ≡ Some g)
  has_taken = get_there taken seat seat_there

  -- it comes home
  module _ (back : LentFields V) (home : (g : Granted) → slice_get taken seat ≡ Some g → ComesHome after view entry g back) where
    may : MayTake taken seat has_taken.0 (holds_of m.claims seat) (length b.values)
    may = may_take after taken_by number m spare view was.kept seat has_taken.0 has_taken.1

    comes_home : ComesHome after view entry has_taken.0 back
    comes_home = home has_taken.0 has_taken.1

    same_value : (l : ℕ) (v : V) → contains (has_taken.0).writes l ≡ false → value_of after v (entries ++ entry ∷ []) l ≡ value_of after v entries l
    same_value l v unwritten = value_push after view entry l v (comes_home.edits l unwritten)

    pub reads_missed : AreMissed at_home back.reads
    reads_missed = missed b.seats seat has_taken.0 (holds_of m.claims seat) taken b.values (λ l v. value_of after v entries l) (λ l v. value_of after v (entries ++ entry ∷ []) l) at_home may
        was.kept.taken_is.each_seat was.homes.each back comes_home.lent same_value

    pub writes_homes : (mid : List (ShareFields V)) → mid ≡ after_loans at_home back.reads → HaveHomes (length mid) back.writes
    writes_homes mid mid_is = subst (λ (hs : List (ShareFields V)). HaveHomes (length hs) back.writes) (sym mid_is)
        (there_are_homes b.seats seat has_taken.0 (holds_of m.claims seat) taken b.values (λ l v. value_of after v entries l) (λ l v. value_of after v (entries ++ entry ∷ []) l) at_home may
        was.kept.taken_is.each_seat was.homes.each back comes_home.lent same_value was.homes.all)

    given_back : (m2 : LockState) → m2 ≡ next m entry.event
        → IsState after taken_by number m2 (spare - 1) (record { beginning = b; entries = entries ++ entry ∷ []; taken = slice_set taken seat nothing }) (after_wholes (after_loans at_home back.reads) back.writes) given_now room
    given_back m2 goes = record {
      kept = kept_push after taken_by number m m2 spare (spare - 1) view entry (slice_set taken seat nothing) was.kept right goes enough
          (taken_less m m2 entry.event b.seats seat taken has_taken.0 reached comes goes gives has_taken.1 was.kept.taken_is);
      homes = record {
        each = homes_back b.seats seat has_taken.0 (holds_of m.claims seat) taken b.values (λ l v. value_of after v entries l) (λ l v. value_of after v (entries ++ entry ∷ []) l) at_home may
            was.kept.taken_is.each_seat was.homes.each back comes_home.lent same_value;
        all = as_many ∙ was.homes.all;
      };
      none_given = was.none_given;
      closing = subst (λ n. n ≤ room) (sym as_many) was.closing;
    }
      where
        enough : length m2.claims ≤ spare - 1
        enough = subst (λ (s : LockState). length s.claims ≤ spare - 1) (sym goes) (one_less (length (next m entry.event).claims) (length m.claims) spare (fewer_next m seat entry.event reached comes gives) was.kept.room)
          where
            one_less : (a b c : ℕ) → a < b → b ≤ c → a ≤ c - 1
            one_less a b c less few = omega (arith, less, few)

        as_many : length (after_wholes (after_loans at_home back.reads) back.writes) ≡ length at_home
        as_many = wholes_length (after_loans at_home back.reads) back.writes
            ∙ between_length b.seats seat has_taken.0 (holds_of m.claims seat) taken b.values (λ l v. value_of after v entries l) (λ l v. value_of after v (entries ++ entry ∷ []) l) at_home may
            was.kept.taken_is.each_seat was.homes.each back comes_home.lent same_value

    pub state_given : (m2 : LockState) (spare2 : ℕ) (entries2 : List (EntryFields E)) (mid last : List (ShareFields V)) (k : ℕ) (h : Granted) → m2 ≡ next m entry.event → spare2 ≡ spare - 1 → entries2 ≡ entries ++ entry ∷ []
        → mid ≡ after_loans at_home back.reads → last ≡ after_wholes mid back.writes → k ≡ seat → h ≡ nothing
        → IsState after taken_by number m2 spare2 (record { beginning = b; entries = entries2; taken = slice_set taken k h }) last given_now room
    state_given m2 spare2 entries2 mid last k h goes less longer mid_is last_is k_is h_is =
        subst (λ (n : ℕ). IsState after taken_by number m2 n (record { beginning = b; entries = entries2; taken = slice_set taken k h }) last given_now room) (sym less)
        (subst (λ (es : List (EntryFields E)). IsState after taken_by number m2 (spare - 1) (record { beginning = b; entries = es; taken = slice_set taken k h }) last given_now room) (sym longer)
        (subst (λ (n : ℕ). IsState after taken_by number m2 (spare - 1) (record { beginning = b; entries = entries ++ entry ∷ []; taken = slice_set taken n h }) last given_now room) (sym k_is)
        (subst (λ (x : Granted). IsState after taken_by number m2 (spare - 1) (record { beginning = b; entries = entries ++ entry ∷ []; taken = slice_set taken seat x }) last given_now room) (sym h_is)
        (subst (λ (hs : List (ShareFields V)). IsState after taken_by number m2 (spare - 1) (record { beginning = b; entries = entries ++ entry ∷ []; taken = slice_set taken seat nothing }) hs given_now room)
        (sym (last_is ∙ ap (λ (hs : List (ShareFields V)). after_wholes hs back.writes) mid_is)) (given_back m2 goes)))))
