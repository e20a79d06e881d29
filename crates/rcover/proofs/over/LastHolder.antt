-- The claim that is taken over a run is the first that passes at its last moment: what holds a write up at the last moment did so at all.
use Rattle.std.proofs.Common.{◌≡◌, ◌≤◌, Bool, true, false, ◌&&◌, ◌||◌, cond, Some, None, List, [], ◌∷◌, find, filter, refl, sym, ap, subst, ◌∙◌, inl, inr, arith}
use Rattle.std.proofs.lemmas.Bool.{and_parts, and_from, or_parts}
use Rattle.std.specs.List.{list_any, list_all, AllByRecursion}
use Rattle.std.specs.Option.{option_map}
use Rattle.rclaim.specs.declared.claim.Claim.{Claim}
use Rattle.rclaim.specs.declared.event.Event.{Event}
use Rattle.rmodel.specs.declared.claimed.Claimed.{Claimed}
use Rattle.rmodel.specs.Claims.{is_satisfied}
use Rattle.rmodel.specs.Reached.{IsReached}
use Rattle.rmodel.specs.State.{LockState}
use Rattle.rmodel.specs.Steps.{next, Comes, AreAccepted}
use Rattle.rmodel.specs.WellFormed.{EachPair, Rises}
use Rattle.rmodel.specs.Laws.{TurnsAreTaken}
use Rattle.rmodel.proofs.ListFacts.{Among, contrary, false_from, all_at, any_among, none_from, none_among, pair_among, pairs_both, passing}
use Rattle.rmodel.proofs.reaching.Reached.{reached_next}
use Rattle.rmodel.proofs.reaching.Stamps.{OfOneSeat, one_seat_next}
use Rattle.rmodel.proofs.settling.OneSettlement.{both_cases}
use Rattle.rmodel.proofs.settling.Turns.{halves_take_turns}
use Rattle.rcover.specs.Last.{first_at, first_at_last}
use Rattle.rcover_laws.specs.Moments.{Moment, moments, later, is_claim, holds_at}
use Rattle.rcover_laws.specs.Sections.{holder_of}
use Rattle.rcover_laws.proofs.lists.Found.{filter_yes, filter_no}
use Rattle.rcover_laws.proofs.runs.Moments.{are_one, holds_sat}
use Rattle.rcover_laws.proofs.runs.Throughout.{Stops}
use Rattle.rcover_laws.proofs.states.AtRest.{Sat, IsEntitled, HoldsUp, exclusive, stamp_given}
use Rattle.rcover_laws.proofs.states.ThroughEvent.{held_before, there_before}
use Rattle.rcover_laws.proofs.told.OneClaim.{one_of_stamp}

-- ---- the first that passes is that of least stamp

record LeastOf (t : Claimed → Bool) (xs : Moment) : Type 0 where
  one : Claimed
  among : Among one xs
  passes : t one ≡ true
  is : find t xs ≡ Some one
  least : (y : Claimed) → Among y xs → t y ≡ true → one.claim.stamp ≤ y.claim.stamp

least_found : (t : Claimed → Bool) (xs : Moment) → EachPair Rises xs → list_any t xs ≡ true → LeastOf t xs
least_found t [] rises some = contrary false some refl
least_found t (x ∷ xs) rises some =
    both_cases (t x)
    (λ pass. record { one = x; among = inl refl; passes = pass; is = ap (λ b. cond b (Some x) (find t xs)) pass; least = first })
    (λ fail.
    let rest = least_found t xs rises.1 (ap (λ b. b || list_any t xs) (sym fail) ∙ some) in
    record {
      one = rest.one;
      among = inr rest.among;
      passes = rest.passes;
      is = ap (λ b. cond b (Some x) (find t xs)) fail ∙ rest.is;
      least = λ y there pass. behind fail rest y there pass;
    })
  where
    first : (y : Claimed) → Among y (x ∷ xs) → t y ≡ true → x.claim.stamp ≤ y.claim.stamp
    first y (inl same) pass = let e = ap (λ (z : Claimed). z.claim.stamp) same in omega arith
    first y (inr later) pass = (all_at (Rises x) xs y rises.0 later).not_above

    behind : t x ≡ false → (rest : LeastOf t xs) → (y : Claimed) → Among y (x ∷ xs) → t y ≡ true → rest.one.claim.stamp ≤ y.claim.stamp
    behind fail rest y (inl same) pass = contrary (t x) (ap t (sym same) ∙ pass) fail
    behind fail rest y (inr later) pass = rest.least y later pass

found_none : (t : Claimed → Bool) (xs : Moment) → list_any t xs ≡ false → find t xs ≡ None
found_none t [] none = refl
found_none t (x ∷ xs) none = let parts = or_parts (t x) (list_any t xs) none in ap (λ b. cond b (Some x) (find t xs)) parts.0 ∙ found_none t xs parts.1

found_same : (t u : Claimed → Bool) → ((x : Claimed) → t x ≡ u x) → (xs : Moment) → find t xs ≡ find u xs
found_same t u same [] = refl
found_same t u same (x ∷ xs) = (λ i. cond (same x i) (Some x) (found_same t u same xs i))

-- ---- one more moment, before the others

-- of one stamp, at most one claim is satisfied
one_satisfied : (s : LockState) → IsReached s → EachPair OfOneSeat s.claims → (x y : Claimed) → Among x s.claims → Among y s.claims → is_satisfied x ≡ true → is_satisfied y ≡ true → x.claim.stamp ≡ y.claim.stamp → x.claim ≡ y.claim
one_satisfied s reached seats x y in_x in_y sat sat' stamps =
    elim (pair_among (λ x y. (x.claim.seat ≡ y.claim.seat → TurnsAreTaken x y) × OfOneSeat x y) s.claims x y
    (pairs_both (λ x y. x.claim.seat ≡ y.claim.seat → TurnsAreTaken x y) OfOneSeat (λ x y. (x.claim.seat ≡ y.claim.seat → TurnsAreTaken x y) × OfOneSeat x y) (λ x y a b. (a, b)) s.claims
    (halves_take_turns s.claims (exclusive s reached) reached.sound.one_each reached.turns) seats) in_x in_y) [
      | inl same ↦ ap (λ (z : Claimed). z.claim) same
      | inr (inl h) ↦ contrary (is_satisfied y) sat' (h.0 (h.1 stamps)).unsatisfied
      | inr (inr h) ↦ contrary (is_satisfied x) sat (h.0 (h.1 (sym stamps))).unsatisfied
    ]

module _ (p : Claim → Bool) (s : LockState) (e : Event) (reached : IsReached s) (comes : Comes s e) (seats : EachPair OfOneSeat s.claims) (back : (x : Claim) → p x ≡ true → Sat x (next s e).claims → Sat x s.claims) (ns : List Moment) where
  abbrev m : Moment
  m = s.claims

  abbrev n : Moment
  n = (next s e).claims

  on : IsReached (next s e)
  on = reached_next s e reached comes

  abbrev before : Claimed → Bool
  before x = p x.claim && is_satisfied x && list_all (holds_at x.claim) (n ∷ ns)

  abbrev behind : Claimed → Bool
  behind y = p y.claim && is_satisfied y && list_all (holds_at y.claim) ns

  -- a claim that is there and holds after the event is satisfied then
  goes_on : (x : Claimed) → Among x m → holds_at x.claim n ≡ true → Sat x.claim n
  goes_on x in_m holds =
      let y = passing (λ y. is_satisfied y && is_claim x.claim y.claim) n holds in
      let parts = and_parts (is_satisfied y.0) (is_claim x.claim y.0.claim) y.2 in
      let one = are_one x.claim y.0.claim parts.1 in
      let was = there_before s e reached comes y.0.claim (record { at = y.0; among = y.1; is = refl }) (let given = stamp_given s reached x in_m in let same = one.stamp in omega arith) in
      let same : x ≡ was.at = one_of_stamp s reached seats x was.at in_m was.among (record { stamp = one.stamp ∙ ap (λ d. d.stamp) (sym was.is); half = one.half ∙ ap (λ d. d.write_half) (sym was.is) }) in
      record { at = y.0; among = y.1; is = sym was.is ∙ ap (λ (z : Claimed). z.claim) (sym same); satisfied = parts.0 }

  -- what passes before passes after, as the same claim
  record Passing (c : Claim) (t : Claimed → Bool) (xs : Moment) : Type 0 where
    at : Claimed
    among : Among at xs
    is : at.claim ≡ c
    passes : t at ≡ true

  passes_behind : (x : Claimed) → Among x m → before x ≡ true → Passing x.claim behind n
  passes_behind x in_m pass =
      let parts = and_parts (p x.claim && is_satisfied x) (list_all (holds_at x.claim) (n ∷ ns)) pass in
      let all = and_parts (holds_at x.claim n) (list_all (holds_at x.claim) ns) parts.1 in
      let sat = goes_on x in_m all.0 in
      record {
        at = sat.at;
        among = sat.among;
        is = sat.is;
        passes = and_from (p sat.at.claim && is_satisfied sat.at) (list_all (holds_at sat.at.claim) ns)
            (and_from (p sat.at.claim) (is_satisfied sat.at) (ap p sat.is ∙ (and_parts (p x.claim) (is_satisfied x) parts.0).0) sat.satisfied) (ap (λ d. list_all (holds_at d) ns) sat.is ∙ all.1);
      }

  passes_before : (y : Claimed) → Among y n → behind y ≡ true → Passing y.claim before m
  passes_before y in_n pass =
      let parts = and_parts (p y.claim && is_satisfied y) (list_all (holds_at y.claim) ns) pass in
      let first = and_parts (p y.claim) (is_satisfied y) parts.0 in
      let sat_n : Sat y.claim n = record { at = y; among = in_n; is = refl; satisfied = first.1 } in
      let sat = back y.claim first.0 sat_n in
      record {
        at = sat.at;
        among = sat.among;
        is = sat.is;
        passes = and_from (p sat.at.claim && is_satisfied sat.at) (list_all (holds_at sat.at.claim) (n ∷ ns))
            (and_from (p sat.at.claim) (is_satisfied sat.at) (ap p sat.is ∙ first.0) sat.satisfied)
            (ap (λ d. list_all (holds_at d) (n ∷ ns)) sat.is ∙ and_from (holds_at y.claim n) (list_all (holds_at y.claim) ns) (holds_sat y.claim n sat_n) parts.1);
      }

  pub holder_step : holder_of p (m ∷ n ∷ ns) ≡ holder_of p (n ∷ ns)
  holder_step =
      both_cases (list_any behind n)
      (λ some.
      let y = least_found behind n on.sound.well_formed.rising some in
      let z = passes_before y.one y.among y.passes in
      let x = least_found before m reached.sound.well_formed.rising (any_among before m z.at z.among z.passes) in
      let w = passes_behind x.one x.among x.passes in
      let up = y.least w.at w.among w.passes in
      let down = x.least z.at z.among z.passes in
      let same : w.at.claim.stamp ≡ y.one.claim.stamp = (let a = ap (λ d. d.stamp) w.is in let b = ap (λ d. d.stamp) z.is in omega arith) in
      let claims : w.at.claim ≡ y.one.claim = one_satisfied (next s e) on (one_seat_next s e reached comes seats) w.at y.one w.among y.among
      (sat_of w.at w.passes) (sat_of y.one y.passes) same in
      ap (λ o. option_map (λ (z : Claimed). z.claim) o) x.is ∙ ap (λ d. Some d) (sym w.is ∙ claims) ∙ sym (ap (λ o. option_map (λ (z : Claimed). z.claim) o) y.is))
      (λ none.
      let none_before = none_from before m (λ x in_m. false_from (before x) (λ pass. let w = passes_behind x in_m pass in contrary (behind w.at) w.passes (none_among behind n w.at none w.among))) in
      ap (λ o. option_map (λ (z : Claimed). z.claim) o) (found_none before m none_before) ∙ sym (ap (λ o. option_map (λ (z : Claimed). z.claim) o) (found_none behind n none)))
    where
      sat_of : (y : Claimed) → behind y ≡ true → is_satisfied y ≡ true
      sat_of y pass = (and_parts (p y.claim) (is_satisfied y) (and_parts (p y.claim && is_satisfied y) (list_all (holds_at y.claim) ns) pass).0).1

-- ---- over a run

-- what passes and is satisfied, at a moment that passes, holds the write up
abbrev pub IsUp : Claim → (Claim → Bool) → (Moment → Bool) → Moment → Type 0
IsUp v p q m = q m ≡ true → (x : Claim) → p x ≡ true → Sat x m → HoldsUp v x

module _ (v : Claim) (p : Claim → Bool) (q : Moment → Bool) where
  one_moment : (m : Moment) → holder_of p (m ∷ []) ≡ first_at p m
  one_moment m = ap (λ o. option_map (λ (z : Claimed). z.claim) o) (found_same (λ x. p x.claim && is_satisfied x && true) (λ x. p x.claim && is_satisfied x) (λ x. and_true (p x.claim && is_satisfied x)) m)
    where
      and_true : (b : Bool) → (b && true) ≡ b
      and_true true = refl
      and_true false = refl

  abbrev IsLast : List Moment → Type 0
  IsLast ms = holder_of p ms ≡ first_at_last p ms

  pub holder_is_last : (s : LockState) (es : List Event) → IsReached s → AreAccepted s es → EachPair OfOneSeat s.claims → AllByRecursion (λ m. q m ≡ true → IsEntitled v m) (moments s es) → AllByRecursion (IsUp v p q) (moments s es) → Stops q s es
      → holder_of p (filter q (moments s es)) ≡ first_at_last p (filter q (moments s es))
  holder_is_last s [] reached accepted seats each ups stops =
      both_cases (q s.claims) (λ on. subst IsLast (sym (filter_yes q s.claims [] on)) (one_moment s.claims)) (λ off. subst IsLast (sym (filter_no q s.claims [] off)) refl)
  holder_is_last s (e ∷ es) reached accepted seats each ups stops =
      let on_next = reached_next s e reached accepted.0 in
      let inner = holder_is_last (next s e) es on_next accepted.1 (one_seat_next s e reached accepted.0 seats) each.1 ups.1 stops.1 in
      let rest = moments (next s e) es in
      both_cases (q s.claims)
      (λ on. subst IsLast (sym (filter_yes q s.claims rest on))
      (both_cases (q (next s e).claims)
      (λ on'.
      let is : filter q rest ≡ (next s e).claims ∷ filter q (later (next s e) es) = filter_yes q (next s e).claims (later (next s e) es) on' in
      subst (λ (ns : List Moment). IsLast (s.claims ∷ ns)) (sym is)
      (holder_step p s e reached accepted.0 seats (λ x pass sat. held_before s e reached accepted.0 v x (each.0 on) (each.1.0 on') (ups.1.0 on' x pass sat) sat) (filter q (later (next s e) es)) ∙ subst IsLast is inner))
      (λ off'. subst (λ (ns : List Moment). IsLast (s.claims ∷ ns)) (sym (stops.0 on off')) (one_moment s.claims))))
      (λ off. subst IsLast (sym (filter_no q s.claims rest off)) inner)
