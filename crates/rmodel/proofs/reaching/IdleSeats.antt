-- Where a seat is idle, fewer requests are incomplete than there are seats.
use Rattle.std.proofs.Common.{◌≡◌, ℕ, ◌<◌, ◌≤◌, eqb, ◌==◌, Bool, true, false, not, cond, List, [], ◌∷◌, map, filter, length, Some, None, sym, ap, subst, ◌∙◌, inl, inr, arith}
use Rattle.std.proofs.lemmas.Bool.{true≢false, eq-eqb, eqb-true, or_cases}
use Rattle.std.proofs.lemmas.List.{length-map}
use Rattle.std.proofs.lemmas.List.Sums.{length-filter}
use Rattle.std.proofs.lemmas.Map.Steps.{length-le_from_distinct_below}
use Rattle.std.specs.List.{list_any, AllByRecursion, IsDistinct}
use Rattle.rmodel.specs.declared.claimed.Claimed.{Claimed}
use Rattle.rmodel.specs.declared.refused.Refused.TheVariants.{SeatBusy, Full}
use Rattle.rmodel.specs.Claims.{is_read_half}
use Rattle.rmodel.specs.Holds.{has_request}
use Rattle.rmodel.specs.State.{LockState}
use Rattle.rmodel.specs.StateLaws.{HasRoomFor}
use Rattle.rmodel.specs.Steps.{incomplete_of}
use Rattle.rmodel.specs.WellFormed.{EachPair, Distinct, IsSound}
use Rattle.rmodel.proofs.ListFacts.{contrary, false_from, none_among, all_at, all_from, all_map, all_filter, among_filter, pairs_filter}

-- a claim that is not a read half: each request has one
abbrev stands_for : Claimed → Bool
stands_for x = not (is_read_half x.claim)

abbrev seat_of_claim : Claimed → ℕ
seat_of_claim x = x.claim.seat

-- such claims are of different seats
seats_differ : (xs : List Claimed) → EachPair Distinct xs → AllByRecursion (λ x. stands_for x ≡ true) xs → IsDistinct eqb (map seat_of_claim xs)
unfolding IsDistinct
seats_differ [] pairs each = tt
seats_differ (x ∷ xs) pairs each = (
  all_map seat_of_claim (λ k. eqb x.claim.seat k ≡ false) xs (λ y there. false_from (eqb x.claim.seat y.claim.seat) (λ h.
      true≢false (sym each.0 ∙ ap not (all_at (Distinct x) xs y pairs.0 there (eqb-true x.claim.seat y.claim.seat h)).reads))),
  seats_differ xs pairs.1 each.1,
)

seats_below : (n : ℕ) (xs : List Claimed) → AllByRecursion (λ x. x.claim.seat < n) xs → (q : ℕ) → list_any (eqb q) (map seat_of_claim xs) ≡ true → q < n
seats_below n [] seated q some = absurd (true≢false (sym some))
seats_below n (x ∷ xs) seated q some =
    elim (or_cases (eqb q x.claim.seat) (list_any (eqb q) (map seat_of_claim xs)) some) [
      | inl here ↦ subst (λ k. k < n) (sym (eqb-true q x.claim.seat here)) seated.0
      | inr later ↦ seats_below n xs seated.1 q later
    ]

-- the seat is none of the seats with requests
pub fewer : (s : LockState) (seat : ℕ) → IsSound s → seat < s.seats → has_request s.claims seat ≡ false → incomplete_of s < s.seats
unfolding IsDistinct
fewer s seat sound there idle =
    let xs = filter stands_for s.claims in
    let all : IsDistinct eqb (seat ∷ map seat_of_claim xs) = (
      all_map seat_of_claim (λ k. eqb seat k ≡ false) xs (λ x in_xs. false_from (eqb seat x.claim.seat) (λ h.
          contrary (x.claim.seat == seat) (eq-eqb x.claim.seat seat (sym (eqb-true seat x.claim.seat h))) (none_among (λ x. x.claim.seat == seat) s.claims x idle (among_filter stands_for s.claims x in_xs).0))),
      seats_differ xs (pairs_filter Distinct stands_for s.claims sound.one_each) (all_from (λ x. stands_for x ≡ true) xs (λ x in_xs. (among_filter stands_for s.claims x in_xs).1)),
    ) in
    let few : length (seat ∷ map seat_of_claim xs) ≤ s.seats = length-le_from_distinct_below (seat ∷ map seat_of_claim xs) s.seats all below in
    let as_many : length (map seat_of_claim xs) ≡ length xs = length-map xs seat_of_claim in
    let counted : length xs ≡ incomplete_of s = length-filter stands_for s.claims in
    omega (arith, few, as_many, counted)
  where
    below : (q : ℕ) → list_any (eqb q) (seat ∷ map seat_of_claim (filter stands_for s.claims)) ≡ true → q < s.seats
    below q some =
        elim (or_cases (eqb q seat) (list_any (eqb q) (map seat_of_claim (filter stands_for s.claims))) some) [
          | inl here ↦ subst (λ k. k < s.seats) (sym (eqb-true q seat here)) there
          | inr later ↦ seats_below s.seats (filter stands_for s.claims) (all_filter (λ x. x.claim.seat < s.seats) stands_for s.claims sound.seated) q later
        ]

-- so with the cap at the number of seats an issue of an idle seat is accepted
pub has_room : (s : LockState) (seat : ℕ) → IsSound s → seat < s.seats → has_request s.claims seat ≡ false → HasRoomFor s seat
has_room s seat sound there idle = record {
  fewer = few;
  accepted = λ r enough.
      let not_full : (incomplete_of s == s.cap) ≡ false = false_from (incomplete_of s == s.cap) (λ h. no_less (incomplete_of s) s.cap s.seats few enough (eqb-true (incomplete_of s) s.cap h)) in
      (λ i. cond (idle i) (Some SeatBusy) (cond (not_full i) (Some Full) None));
}
  where
    few : incomplete_of s < s.seats
    few = fewer s seat sound there idle

    no_less : (m c n : ℕ) → m < n → n ≤ c → m ≡ c → ⊥
    no_less m c n less enough same = omega arith
