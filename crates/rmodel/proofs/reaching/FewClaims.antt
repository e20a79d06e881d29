-- How many claims there can be.
use Rattle.std.proofs.Common.{◌≡◌, ℕ, ◌+◌, ◌<◌, ◌≤◌, eqb, Bool, true, false, cond, List, [], ◌∷◌, map, length, refl, sym, ap, subst, ◌∙◌, inl, inr, arith}
use Rattle.std.proofs.lemmas.Bool.{true≢false, eqb-true, or_cases}
use Rattle.std.proofs.lemmas.List.{length-map}
use Rattle.std.proofs.lemmas.Map.Steps.{length-le_from_distinct_below}
use Rattle.std.specs.List.{AllByRecursion, IsDistinct, list_any}
use Rattle.rset.specs.Sets.{Set}
use Rattle.rclaim.specs.Requests.{RequestFields}
use Rattle.rclaim.specs.declared.request.Kind.{Kind}
use Rattle.rclaim.specs.declared.request.Kind.TheVariants.{Read, Write, Mixed, Upgrade, Nested}
use Rattle.rmodel.specs.Claims.{claims_by, claims_of}
use Rattle.rmodel.specs.declared.claimed.Claimed.{Claimed}
use Rattle.rmodel.specs.State.{LockState}
use Rattle.rmodel.specs.WellFormed.{EachPair, Distinct, IsSound}
use Rattle.rmodel.proofs.ListFacts.{contrary, false_from, all_at, all_map}
use Rattle.rmodel.proofs.reaching.Soundness.{read_of_half}

-- a claim as a number: two for each seat
abbrev key : Claimed → ℕ
key x = x.claim.seat + x.claim.seat + cond x.claim.write_half 1 0

keys_differ : (x y : Claimed) → Distinct x y → eqb (key x) (key y) ≡ false
keys_differ x y distinct = at x.claim.write_half y.claim.write_half refl refl
  where
    at : (a b : Bool) → x.claim.write_half ≡ a → y.claim.write_half ≡ b → eqb (key x) (key y) ≡ false
    at a b is_a is_b = false_from _ (λ h.
        clash a b is_a is_b (ap (λ w. x.claim.seat + x.claim.seat + cond w 1 0) (sym is_a) ∙ eqb-true (key x) (key y) h ∙ ap (λ w. y.claim.seat + y.claim.seat + cond w 1 0) is_b))
      where
        clash : (a b : Bool) → x.claim.write_half ≡ a → y.claim.write_half ≡ b → x.claim.seat + x.claim.seat + cond a 1 0 ≡ y.claim.seat + y.claim.seat + cond b 1 0 → ⊥
        clash true true is_a is_b sums =
            let seats : x.claim.seat ≡ y.claim.seat = omega arith in
            contrary x.claim.write_half is_a (read_of_half x.claim (distinct seats).reads)
        clash false false is_a is_b sums =
            let seats : x.claim.seat ≡ y.claim.seat = omega arith in
            contrary y.claim.write_half (distinct seats).writes is_b
        clash true false is_a is_b sums = omega arith
        clash false true is_a is_b sums = omega arith

keys_distinct : (xs : List Claimed) → EachPair Distinct xs → IsDistinct eqb (map key xs)
unfolding IsDistinct
keys_distinct [] pairs = tt
keys_distinct (x ∷ xs) pairs = (all_map key (λ k. eqb (key x) k ≡ false) xs (λ y there. keys_differ x y (all_at (Distinct x) xs y pairs.0 there)), keys_distinct xs pairs.1)

keys_below : (n : ℕ) (xs : List Claimed) → AllByRecursion (λ x. x.claim.seat < n) xs → (q : ℕ) → list_any (eqb q) (map key xs) ≡ true → q < n + n
keys_below n [] seated q some = absurd (true≢false (sym some))
keys_below n (x ∷ xs) seated q some =
    elim (or_cases (eqb q (key x)) (list_any (eqb q) (map key xs)) some) [
      | inl here ↦ below x.claim.write_half (eqb-true q (key x) here) seated.0
      | inr later ↦ keys_below n xs seated.1 q later
    ]
  where
    below : (b : Bool) → q ≡ x.claim.seat + x.claim.seat + cond b 1 0 → x.claim.seat < n → q < n + n
    below true is h = omega arith
    below false is h = omega arith

-- there are at most two claims for each seat
pub few_claims : (s : LockState) → IsSound s → length s.claims ≤ s.seats + s.seats
few_claims s sound =
    subst (λ (n : ℕ). n ≤ s.seats + s.seats) (length-map s.claims key)
    (length-le_from_distinct_below (map key s.claims) (s.seats + s.seats) (keys_distinct s.claims sound.one_each) (keys_below s.seats s.claims sound.seated))

-- a request makes at most two claims
pub two_claims : (groups : List Set) (stamp seat : ℕ) (r : RequestFields) → length (claims_of groups stamp seat r) ≤ 2
two_claims groups stamp seat r = by r.kind
  where
    by : (k : Kind) → length (claims_by groups k stamp seat r.reads r.writes) ≤ 2
    by Read = omega arith
    by Write = omega arith
    by Mixed = omega arith
    by Upgrade = omega arith
    by Nested = omega arith
