-- The search for a seat that may act.
use Rattle.std.proofs.Math.Nat.{mod-lt, mod-eq_of_lt, add-mod_right}
use Rattle.std.proofs.lemmas.Bool.{true≢false}
use Rattle.rmodel.proofs.settling.OneSettlement.{both_cases}
use Rattle.std.proofs.lemmas.Bool.Decides.{leb_tells}
use Rattle.std.specs.List.{list_any, AllByRecursion}
use Rattle.std.proofs.Common.{◌≡◌, ℕ, zero, suc, inl, inr, ◌+◌, ◌-◌, ◌<◌, ◌≤◌, ◌%◌, Bool, true, false, not, ◌&&◌, ◌||◌, cond, List, [], ◌∷◌, map, find, Option, Some, refl, sym, ap, subst, ◌∙◌, arith}
use Rattle.std.specs.Prelude.{unwrap_or}
use Rattle.std.specs.List.{range_with_len}
use Rattle.rmodel.specs.State.{LockState}
use Rattle.rmodel.proofs.ListFacts.{any_among, all_at, passing}
use Rattle.rmodel.proofs.reaching.Came.{in_map}
use Rattle.rmodel.proofs.theorems.Something.{is_held}
use Rattle.rmodel.specs.Claims.{is_satisfied}
use Rattle.rmodel.specs.Holds.{is_nothing, holds_of, has_request, has_ask}
use Rattle.rmodel.specs.Reached.{IsReached}
use Rattle.rmodel.specs.Steps.{is_not_holding}
use Rattle.rmodel.specs.WellFormed.{Among}
use Rattle.rmodel.specs.declared.claimed.Claimed.{Claimed}
use Rattle.rdrill.specs.Drill.{may_act, acting}

-- the first seat that may act, of the n seats from `more` seats above this one upwards
abbrev pub first_from : LockState → ℕ → ℕ → ℕ → Option ℕ
first_from s seat more n = find (may_act s) (map (λ k. (seat + k) % 8) (range_with_len more n))

step : (s : LockState) (seat more n m : ℕ) → n ≡ suc m → (b : Bool) → may_act s ((seat + more) % 8) ≡ b
    → first_from s seat more n ≡ cond b (Some ((seat + more) % 8)) (first_from s seat (more + 1) m)
step s seat more n m is b may =
    ap (first_from s seat more) is ∙ ap (λ c. cond c (Some ((seat + more) % 8)) (first_from s seat (more + 1) m)) may

-- what the search has left to look at gives the seat
abbrev pub Searches : LockState → ℕ → ℕ → Type 0
Searches s seat more = first_from s seat 0 8 ≡ first_from s seat more (8 - more)

pub not_here : (s : LockState) (seat more : ℕ) → more < 8 → Searches s seat more → may_act s ((seat + more) % 8) ≡ false → Searches s seat (more + 1)
not_here s seat more less searches may = searches ∙ step s seat more (8 - more) (8 - (more + 1)) (omega (arith, less)) false may

pub here : (s : LockState) (seat more : ℕ) → more < 8 → Searches s seat more → may_act s ((seat + more) % 8) ≡ true → (seat + more) % 8 ≡ acting s seat
here s seat more less searches may = sym (ap (λ o. unwrap_or o seat) (searches ∙ step s seat more (8 - more) (8 - (more + 1)) (omega (arith, less)) true may))

pub nowhere : (s : LockState) (seat more : ℕ) → more ≡ 8 → Searches s seat more → seat ≡ acting s seat
nowhere s seat more all searches = sym (ap (λ o. unwrap_or o seat) (searches ∙ ap (λ n. first_from s seat n (8 - n)) all))

-- ---- some seat may act, and the search finds one

found_passes : (p : ℕ → Bool) (xs : List ℕ) (d : ℕ) → list_any p xs ≡ true → p (unwrap_or (find p xs) d) ≡ true
found_passes p [] d some = absurd (true≢false (sym some))
found_passes p (x ∷ xs) d some = at (p x) refl some (found_passes p xs d)
  where
    at : (b : Bool) → p x ≡ b → (b || list_any p xs) ≡ true → (list_any p xs ≡ true → p (unwrap_or (find p xs) d) ≡ true) → p (unwrap_or (cond b (Some x) (find p xs)) d) ≡ true
    at true is some rest = is
    at false is some rest = rest some

found_below : (p : ℕ → Bool) (xs : List ℕ) (d : ℕ) → d < 8 → AllByRecursion (λ x. x < 8) xs → unwrap_or (find p xs) d < 8
found_below p [] d less below = less
found_below p (x ∷ xs) d less below = at (p x) (found_below p xs d less below.1)
  where
    at : (b : Bool) → unwrap_or (find p xs) d < 8 → unwrap_or (cond b (Some x) (find p xs)) d < 8
    at true rest = below.0
    at false rest = rest

-- the seats that are looked at
abbrev seats_from : ℕ → List ℕ
seats_from seat = map (λ k. (seat + k) % 8) (range_with_len 0 8)

pub acting_below : (s : LockState) (seat : ℕ) → seat < 8 → acting s seat < 8
acting_below s seat less = found_below (may_act s) (seats_from seat) seat less (b 0, (b 1, (b 2, (b 3, (b 4, (b 5, (b 6, (b 7, tt))))))))
  where
    b : (k : ℕ) → (seat + k) % 8 < 8
    b k = mod-lt (seat + k) (omega arith)

-- each seat is looked at
looked : (seat l : ℕ) → seat < 8 → l < 8 → (k : ℕ) × (k < 8) × ((seat + k) % 8 ≡ l)
looked seat l seat_less l_less =
    elim (leb_tells seat l) [
      | inl h ↦ (l - seat, less_up seat l l_less, ap (λ n. n % 8) (upwards seat l h.1) ∙ mod-eq_of_lt l_less)
      | inr h ↦ ((l + 8) - seat, room seat l h.1 seat_less, ap (λ n. n % 8) (around seat l h.1 seat_less) ∙ add-mod_right l 8 ∙ mod-eq_of_lt l_less)
    ]
  where
    upwards : (seat l : ℕ) → seat ≤ l → seat + (l - seat) ≡ l
    upwards seat l le = omega (arith, le)

    less_up : (seat l : ℕ) → l < 8 → l - seat < 8
    less_up seat l h = omega (arith, h)

    around : (seat l : ℕ) → l < seat → seat < 8 → seat + ((l + 8) - seat) ≡ l + 8
    around seat l more less = omega (arith, more, less)

    room : (seat l : ℕ) → l < seat → seat < 8 → (l + 8) - seat < 8
    room seat l more less = omega (arith, more, less)

among_eight : (k : ℕ) → k < 8 → Among k (range_with_len 0 8)
among_eight zero h = inl refl
among_eight (suc zero) h = inr (inl refl)
among_eight (suc (suc zero)) h = inr (inr (inl refl))
among_eight (suc (suc (suc zero))) h = inr (inr (inr (inl refl)))
among_eight (suc (suc (suc (suc zero)))) h = inr (inr (inr (inr (inl refl))))
among_eight (suc (suc (suc (suc (suc zero))))) h = inr (inr (inr (inr (inr (inl refl)))))
among_eight (suc (suc (suc (suc (suc (suc zero)))))) h = inr (inr (inr (inr (inr (inr (inl refl))))))
among_eight (suc (suc (suc (suc (suc (suc (suc zero))))))) h = inr (inr (inr (inr (inr (inr (inr (inl refl)))))))
among_eight (suc (suc (suc (suc (suc (suc (suc (suc k)))))))) h = absurd (omega (arith, h))

-- where some seat may act, the search finds one that may
acts_where : (s : LockState) (seat l : ℕ) → seat < 8 → l < 8 → may_act s l ≡ true → may_act s (acting s seat) ≡ true
acts_where s seat l less l_less may =
    let at = looked seat l less l_less in
    found_passes (may_act s) (seats_from seat) seat
    (any_among (may_act s) (seats_from seat) ((seat + at.0) % 8) (in_map (λ k. (seat + k) % 8) (range_with_len 0 8) at.0 (among_eight at.0 at.1)) (ap (may_act s) at.2 ∙ may))

-- a seat that holds something and has no pending ask may act
may_of : (s : LockState) (l : ℕ) → is_nothing (holds_of s.claims l) ≡ false → has_ask s.claims l ≡ false → may_act s l ≡ true
may_of s l holds answered = at (has_request s.claims l) (is_not_holding s.claims l) ((λ i. holds i || answered i))
  where
    at : (a b : Bool) → b ≡ false → not (a && b) ≡ true
    at true b h = ap not h
    at false b h = refl

idle_may : (s : LockState) (l : ℕ) → has_request s.claims l ≡ false → may_act s l ≡ true
idle_may s l idle = ap (λ b. not (b && is_not_holding s.claims l)) idle

-- some seat may act, because somebody holds while there is a request
pub acts : (s : LockState) (seat : ℕ) → IsReached s → s.seats ≡ 8 → seat < 8 → may_act s (acting s seat) ≡ true
acts s seat reached seats less =
    both_cases (has_request s.claims seat)
    (λ busy.
    let held = is_held s reached in
    let x = passing is_satisfied s.claims (held.somebody seat busy) in
    acts_where s seat x.0.claim.seat less (subst (λ n. x.0.claim.seat < n) seats (all_at (λ (y : Claimed). y.claim.seat < s.seats) s.claims x.0 reached.sound.seated x.1))
    (may_of s x.0.claim.seat
    (all_at (λ (y : Claimed). is_satisfied y ≡ true → is_nothing (holds_of s.claims y.claim.seat) ≡ false) s.claims x.0 held.something x.1 x.2)
    (all_at (λ (y : Claimed). is_satisfied y ≡ true → has_ask s.claims y.claim.seat ≡ false) s.claims x.0 held.answered x.1 x.2)))
    (λ idle. acts_where s seat seat less less (idle_may s seat idle))
