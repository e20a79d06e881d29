-- While a seat may rise, it has the write half of its upgrade, so it still has a request when it has risen.
use Rattle.std.proofs.Common.{◌≡◌, ℕ, ◌==◌, Bool, true, false, not, ◌&&◌, ◌||◌, List, [], ◌∷◌, ◌++◌, map, filter, refl, sym, ap, subst, ◌∙◌, inl, inr, append-nil, append_assoc}
use Rattle.std.proofs.lemmas.Bool.{true≢false, eq-eqb, eqb-true, or_cases, or_left, or_right, and_parts, and_from}
use Rattle.std.proofs.lemmas.List.Folds.{list_any-append}
use Rattle.std.specs.List.{list_any}
use Rattle.rset.specs.Sets.{Set}
use Rattle.rclaim.specs.Events.{seat_of}
use Rattle.rclaim.specs.declared.event.Event.{Event}
use Rattle.rclaim.specs.declared.event.Event.TheVariants.{Issue, Finish, Rise, Ask}
use Rattle.rclaim.specs.declared.request.Kind.{Kind}
use Rattle.rclaim.specs.declared.request.Kind.TheVariants as kinds
use Rattle.rmodel.specs.declared.claimed.Claimed.{Claimed}
use Rattle.rmodel.specs.Claims.{claims_of, claims_by, is_read_half, is_upgrade, waiting}
use Rattle.rmodel.specs.Holds.{has_request, may_rise}
use Rattle.rmodel.specs.Reached.{IsReached}
use Rattle.rmodel.specs.State.{LockState}
use Rattle.rmodel.specs.Steps.{Comes, next}
use Rattle.rmodel.proofs.ListFacts.{contrary, false_from, any_among, passing, among_filter}
use Rattle.rmodel.proofs.reaching.Reached.{reached_opening}
use Rattle.rmodel.proofs.reaching.Soundness.{seat_is_idle}
use Rattle.rvalue.specs.Entries.{EntryFields}
use Rattle.rvalue.specs.InTurn.{AllInTurn}
use Rattle.rstate.specs.Histories.{Beginning, lock_after, MayFollow, IsLawfulFrom}
use Rattle.rstate.proofs.histories.Following.{lock_push, reached_push}
use Rattle.rguard.proofs.seats.Along.{differs}
use Rattle.rguard.proofs.seats.Claims.{is_of, may_rise_by, writes_by, of_seat, of_seat_and, any_filter, claim_settled, claim_next, claim_asked, finished_next}

-- if an element passes the first test, it passes the second
any_weaker : {X : Type 0} (p q : X → Bool) → ((x : X) → p x ≡ true → q x ≡ true) → (xs : List X) → list_any p xs ≡ true → list_any q xs ≡ true
any_weaker p q weaker xs some = let x = passing p xs some in any_among q xs x.0 x.1 (weaker x.0 x.2)

-- the claims of a new request
new_halves : (groups : List Set) (kind : Kind) (stamp n : ℕ) (reads writes first : Set) → list_any (λ x. may_rise_by n x.claim) (map (waiting first) (claims_by groups kind stamp n reads writes)) ≡ true
    → list_any (λ x. writes_by n x.claim) (map (waiting first) (claims_by groups kind stamp n reads writes)) ≡ true
new_halves groups kinds.Read stamp n reads writes first some = absurd (true≢false (sym some ∙ none (n == n)))
  where
    none : (b : Bool) → ((b && false) || false) ≡ false
    none true = refl
    none false = refl
new_halves groups kinds.Write stamp n reads writes first some = or_left ((n == n) && true) false (and_from (n == n) true (eq-eqb n n refl) refl)
new_halves groups kinds.Mixed stamp n reads writes first some = or_left ((n == n) && true) false (and_from (n == n) true (eq-eqb n n refl) refl)
new_halves groups kinds.Upgrade stamp n reads writes first some =
    or_right ((n == n) && false) (((n == n) && true) || false) (or_left ((n == n) && true) false (and_from (n == n) true (eq-eqb n n refl) refl))
new_halves groups kinds.Nested stamp n reads writes first some = or_left ((n == n) && true) false (and_from (n == n) true (eq-eqb n n refl) refl)

abbrev HasHalf : LockState → ℕ → Type 0
HasHalf s n = may_rise s.claims n ≡ true → list_any (λ x. writes_by n x.claim) s.claims ≡ true

-- a claim that may rise is of the seat
rises_has : (n : ℕ) (xs : List Claimed) → may_rise xs n ≡ true → has_request xs n ≡ true
rises_has n xs some = any_weaker (λ x. may_rise_by n x.claim) (λ x. is_of n x.claim) (λ x h. (and_parts (x.claim.seat == n) (is_read_half x.claim) h).0) xs some

half_event : (n : ℕ) (s : LockState) (e : Event) → IsReached s → Comes s e → seat_of e ≡ n → HasHalf s n → HasHalf (next s e) n
half_event n s (Issue k r) reached comes is was rises =
    let of_n : Comes s (Issue n r) = subst (λ m. Comes s (Issue m r)) is comes in
    let ns = map (waiting r.first) (claims_of s.groups.groups s.issued n r) in
    let there : may_rise (next s (Issue n r)).claims n ≡ true = subst (λ m. may_rise (next s (Issue m r)).claims n ≡ true) is rises in
    let parts = sym (list_any-append (λ x. may_rise_by n x.claim) s.claims ns) ∙ sym (claim_settled n (may_rise_by n) (of_seat_and n is_read_half) s (Issue n r) reached of_n) ∙ there in
    let new : list_any (λ x. may_rise_by n x.claim) ns ≡ true = elim (or_cases (may_rise s.claims n) (list_any (λ x. may_rise_by n x.claim) ns) parts) [
      | inl old ↦ contrary (has_request s.claims n) (rises_has n s.claims old) (seat_is_idle s n r of_n.accepted)
      | inr h ↦ h
    ] in
    subst (λ m. list_any (λ x. writes_by n x.claim) (next s (Issue m r)).claims ≡ true) (sym is)
    (claim_settled n (writes_by n) (of_seat_and n (λ c. c.write_half)) s (Issue n r) reached of_n ∙ list_any-append (λ x. writes_by n x.claim) s.claims ns
    ∙ or_right (list_any (λ x. writes_by n x.claim) s.claims) (list_any (λ x. writes_by n x.claim) ns) (new_halves s.groups.groups r.kind s.issued n r.reads r.writes r.first new))
half_event n s (Finish k) reached comes is was rises =
    contrary (has_request (next s (Finish n)).claims n) (rises_has n (next s (Finish n)).claims (subst (λ m. may_rise (next s (Finish m)).claims n ≡ true) is rises))
    (finished_next s n reached (subst (λ m. Comes s (Finish m)) is comes))
half_event n s (Rise k) reached comes is was rises =
    let r : Claimed → Bool = λ x. not ((x.claim.seat == n) && not x.claim.write_half) in
    let of_n : Comes s (Rise n) = subst (λ m. Comes s (Rise m)) is comes in
    let there : may_rise (next s (Rise n)).claims n ≡ true = subst (λ m. may_rise (next s (Rise m)).claims n ≡ true) is rises in
    let x = passing (λ x. may_rise_by n x.claim) (filter r s.claims) (sym (claim_settled n (may_rise_by n) (of_seat_and n is_read_half) s (Rise n) reached of_n) ∙ there) in
    let half = and_parts (x.0.claim.seat == n) (is_read_half x.0.claim) x.2 in
    let reads = and_parts (is_upgrade x.0.claim.kind) (not x.0.claim.write_half) half.1 in
    absurd (true≢false (sym (among_filter r s.claims x.0 x.1).1 ∙ ap not (and_from (x.0.claim.seat == n) (not x.0.claim.write_half) half.0 reads.1)))
half_event n s (Ask k part) reached comes is was rises =
    let of_n : Comes s (Ask n part) = subst (λ m. Comes s (Ask m part)) is comes in
    let there : may_rise (next s (Ask n part)).claims n ≡ true = subst (λ m. may_rise (next s (Ask m part)).claims n ≡ true) is rises in
    subst (λ m. list_any (λ x. writes_by n x.claim) (next s (Ask m part)).claims ≡ true) (sym is)
    (claim_asked n (writes_by n) (of_seat_and n (λ c. c.write_half)) s part reached of_n ∙ was (sym (claim_asked n (may_rise_by n) (of_seat_and n is_read_half) s part reached of_n) ∙ there))

half_next : (n : ℕ) (s : LockState) (e : Event) → IsReached s → Comes s e → HasHalf s n → HasHalf (next s e) n
half_next n s e reached comes was = at (seat_of e == n) refl
  where
    at : (b : Bool) → (seat_of e == n) ≡ b → HasHalf (next s e) n
    at true is = half_event n s e reached comes (eqb-true (seat_of e) n is) was
    at false is = λ rises.
        claim_next n (writes_by n) (of_seat_and n (λ c. c.write_half)) s e reached comes (differs (seat_of e) n is)
        ∙ was (sym (claim_next n (may_rise_by n) (of_seat_and n is_read_half) s e reached comes (differs (seat_of e) n is)) ∙ rises)

module _ {V E : Type 0} (after : V → E → V) (taken : V → E → Bool) (number : V → ℕ) (b : Beginning V) (n : ℕ) where
  half_along : (earlier more : List (EntryFields E)) → IsReached (lock_after b earlier) → AllInTurn (MayFollow after taken number b) earlier more → HasHalf (lock_after b earlier) n → HasHalf (lock_after b (earlier ++ more)) n
  half_along earlier [] reached fits was = subst (λ es. HasHalf (lock_after b es) n) (sym (append-nil earlier)) was
  half_along earlier (e ∷ more) reached fits was =
      subst (λ es. HasHalf (lock_after b es) n) (append_assoc earlier (e ∷ []) more)
      (half_along (earlier ++ e ∷ []) more (reached_push after taken number b earlier e reached fits.0) fits.1
      (subst (λ (s : LockState). HasHalf s n) (sym (lock_push b earlier e)) (half_next n (lock_after b earlier) e.event reached fits.0.comes was)))

  pub has_half : (entries : List (EntryFields E)) → IsLawfulFrom after taken number b entries → HasHalf (lock_after b entries) n
  has_half entries lawful = half_along [] entries (reached_opening b.groups b.seats b.cap) lawful (λ none. absurd (true≢false (sym none)))

-- after its rise a seat has a request
pub risen_next : (s : LockState) (n : ℕ) → IsReached s → Comes s (Rise n) → may_rise s.claims n ≡ true → (may_rise s.claims n ≡ true → list_any (λ x. writes_by n x.claim) s.claims ≡ true) → has_request (next s (Rise n)).claims n ≡ true
risen_next s n reached comes rises half =
    let r : Claimed → Bool = λ x. not ((x.claim.seat == n) && not x.claim.write_half) in
    let stays : list_any (λ x. writes_by n x.claim) (filter r s.claims) ≡ true =
    any_filter (λ x. writes_by n x.claim) r (λ x out. false_from (writes_by n x.claim) (λ h.
    contrary x.claim.write_half (and_parts (x.claim.seat == n) x.claim.write_half h).1 (to_false x.claim.write_half (and_parts (x.claim.seat == n) (not x.claim.write_half) (from_not ((x.claim.seat == n) && not x.claim.write_half) out)).1))) s.claims
    ∙ half rises in
    claim_settled n (is_of n) (of_seat n) s (Rise n) reached comes
    ∙ any_weaker (λ x. writes_by n x.claim) (λ x. is_of n x.claim) (λ x h. (and_parts (x.claim.seat == n) x.claim.write_half h).0) (filter r s.claims) stays
  where
    from_not : (b : Bool) → not b ≡ false → b ≡ true
    from_not true h = refl
    from_not false h = absurd (true≢false h)

    to_false : (b : Bool) → not b ≡ true → b ≡ false
    to_false true h = absurd (true≢false (sym h))
    to_false false h = refl
