-- What a ready seat holds of an upgrade that has not risen: all that it reads. For proofs above.
use Rattle.std.proofs.Common.{◌≡◌, ℕ, ◌==◌, ◌&&◌, not, Bool, true, false, List, [], ◌∷◌, ◌++◌, map, refl, sym, ap, subst, ◌∙◌, inl, inr, append-nil, append_assoc}
use Rattle.std.proofs.lemmas.Bool.{true≢false, eq-eqb, eqb-true, or_parts, and_parts}
use Rattle.std.specs.FinSet.{empty}
use Rattle.std.specs.List.{AllByRecursion}
use Rattle.rset.specs.Sets.{Set}
use Rattle.rclaim.specs.Requests.{RequestFields}
use Rattle.rclaim.specs.declared.claim.Claim.{Claim}
use Rattle.rclaim.specs.declared.event.Event.{Event}
use Rattle.rclaim.specs.declared.event.Event.TheVariants.{Issue}
use Rattle.rclaim.specs.declared.request.Kind.{Kind}
use Rattle.rclaim.specs.declared.request.Kind.TheVariants as kinds
use Rattle.rmodel.specs.declared.claimed.Claimed.{Claimed}
use Rattle.rmodel.specs.Claims.{claims_of, claims_by, is_satisfied, is_read_half, is_nested, waiting}
use Rattle.rmodel.specs.Holds.{Alone, holds_of, held_by, has_request, has_ask, is_nothing, nothing, may_rise}
use Rattle.rmodel.specs.Reached.{IsReached}
use Rattle.rmodel.specs.State.{LockState}
use Rattle.rmodel.specs.Steps.{Comes, next, is_not_holding}
use Rattle.rmodel.specs.WellFormed.{Distinct, EachPair}
use Rattle.rmodel.proofs.ListFacts.{Among, contrary, all_at, among_append, none_among, pair_among, pairs_both, passing}
use Rattle.rmodel.proofs.reaching.Came.{origin, came}
use Rattle.rmodel.proofs.reaching.HeldBySeat.{HeldBy, holding, is_nothing_of, held_of_plain, held_of_unsatisfied}
use Rattle.rmodel.proofs.reaching.Soundness.{seat_is_idle, read_of_half}
use Rattle.rmodel.proofs.reaching.OneOfSeat.{each_alone}
use Rattle.rlock.specs.Known.{entries_by}
use Rattle.rvalue.specs.Entries.{EntryFields}
use Rattle.rvalue.specs.InTurn.{AllInTurn}
use Rattle.rstate.specs.Contents.{is_ready}
use Rattle.rstate.specs.Histories.{Beginning, lock_after, MayFollow, IsLawfulFrom}
use Rattle.rstate.proofs.histories.Following.{in_turn_parts, lock_push, reached_push, reached_lawful}
use Rattle.rguard.specs.Seats.{bare}
use Rattle.rguard.proofs.seats.Along.{AreOfOthers, maker, others_behind, differs, claim_along}
use Rattle.rguard.proofs.seats.Claims.{is_of, of_seat, of_seat_and, may_rise_by, may_rise_next, claim_next, issued_next}

-- a claim is a half of the upgrade that reads this
record IsHalfOf (reads : Set) (c : Claim) : Type 0 where
  kind_is : c.kind ≡ kinds.Upgrade
  of_read : c.write_half ≡ false → (c.reads ≡ reads) × (c.writes ≡ empty)

new_half : (groups : List Set) (stamp n : ℕ) (reads writes first : Set) → AllByRecursion (λ x. IsHalfOf reads x.claim) (map (waiting first) (claims_by groups kinds.Upgrade stamp n reads writes))
new_half groups stamp n reads writes first = (record { kind_is = refl; of_read = λ h. (refl, refl) }, (record { kind_is = refl; of_read = λ h. absurd (true≢false h) }, tt))

module _ (n : ℕ) (r : RequestFields) (raises : r.kind ≡ kinds.Upgrade) where
  abbrev AreHalvesOf : LockState → Type 0
  AreHalvesOf s = (x : Claimed) → Among x s.claims → x.claim.seat ≡ n → IsHalfOf r.reads x.claim

  halves_issued : (s : LockState) → IsReached s → Comes s (Issue n r) → AreHalvesOf (next s (Issue n r))
  halves_issued s reached comes y there of =
      let x = came s (Issue n r) reached comes y there in
      let same : y.claim ≡ (x.0).claim = x.1.given.claim ∙ x.1.by_rule.same in
      let ns = map (waiting r.first) (claims_of s.groups.groups s.issued n r) in
      subst (IsHalfOf r.reads) (sym same) (elim (among_append s.claims ns x.0 x.1.in_changed) [
        | inl old ↦ contrary ((x.0).claim.seat == n) (eq-eqb (x.0).claim.seat n (ap (λ (c : Claim). c.seat) (sym same) ∙ of)) (none_among (λ x. x.claim.seat == n) s.claims x.0 (seat_is_idle s n r comes.accepted) old)
        | inr new ↦ all_at (λ x. IsHalfOf r.reads x.claim) ns x.0
            (subst (λ (k : Kind). AllByRecursion (λ x. IsHalfOf r.reads x.claim) (map (waiting r.first) (claims_by s.groups.groups k s.issued n r.reads r.writes))) (sym raises) (new_half s.groups.groups s.issued n r.reads r.writes r.first)) new
      ])

  halves_other : (s : LockState) (e : Event) → IsReached s → Comes s e → has_request s.claims n ≡ true → AreHalvesOf s → AreHalvesOf (next s e)
  halves_other s e reached comes requested was y there of =
      let x = came s e reached comes y there in
      let same : y.claim ≡ (x.0).claim = x.1.given.claim ∙ x.1.by_rule.same in
      let x_of : (x.0).claim.seat ≡ n = ap (λ (c : Claim). c.seat) (sym same) ∙ of in
      subst (IsHalfOf r.reads) (sym same) (elim (origin s e comes x.0 x.1.in_changed) [
        | inl w ↦ subst (IsHalfOf r.reads) (sym w.still.claim) (was w.was w.there (ap (λ (c : Claim). c.seat) (sym w.still.claim) ∙ x_of))
        | inr b ↦ contrary (has_request s.claims n) requested (ap (has_request s.claims) (sym x_of) ∙ b.idle)
      ])

  -- the half that holds is the one that reads, as long as that is there
  holds_reads : (s : LockState) → IsReached s → AreHalvesOf s → may_rise s.claims n ≡ true → is_not_holding s.claims n ≡ false → holds_of s.claims n ≡ record { reads = r.reads; writes = empty }
  holds_reads s reached are rises some = holding s.claims n (each_alone s reached) by_one none
    where
      none : holds_of s.claims n ≡ nothing → holds_of s.claims n ≡ record { reads = r.reads; writes = empty }
      none is = contrary (is_nothing (holds_of s.claims n)) (is_nothing_of (holds_of s.claims n) is) (or_parts (is_nothing (holds_of s.claims n)) (has_ask s.claims n) some).0

      by_one : HeldBy s.claims n → holds_of s.claims n ≡ record { reads = r.reads; writes = empty }
      by_one h = by_half h.by.claim.write_half refl
        where
          half : IsHalfOf r.reads h.by.claim
          half = are h.by h.there h.seated

          flat : (x : Claimed) → IsHalfOf r.reads x.claim → is_nested x.claim.kind ≡ false
          flat x is = ap is_nested is.kind_is

          satisfied : is_satisfied h.by ≡ true
          satisfied = at (is_satisfied h.by) refl
            where
              at : (c : Bool) → is_satisfied h.by ≡ c → is_satisfied h.by ≡ true
              at true is = is
              at false is = contrary (is_nothing (held_by h.by)) (is_nothing_of (held_by h.by) (held_of_unsatisfied h.by (flat h.by half) is)) h.some

          by_half : (c : Bool) → h.by.claim.write_half ≡ c → holds_of s.claims n ≡ record { reads = r.reads; writes = empty }
          by_half false reads = h.is ∙ held_of_plain h.by (flat h.by half) satisfied ∙ (λ i. record { reads = (half.of_read reads).0 i; writes = (half.of_read reads).1 i })
          by_half true writes =
              let z = passing (λ (x : Claimed). (x.claim.seat == n) && is_read_half x.claim) s.claims rises in
              let is = and_parts ((z.0).claim.seat == n) (is_read_half (z.0).claim) z.2 in
              let seat : (z.0).claim.seat ≡ n = eqb-true (z.0).claim.seat n is.0 in
              let reads : (z.0).claim.write_half ≡ false = read_of_half (z.0).claim is.1 in
              let same_seat : (z.0).claim.seat ≡ h.by.claim.seat = seat ∙ sym h.seated in
              elim (pair_among (λ x y. Distinct x y × Alone x y) s.claims z.0 h.by both z.1 h.there) [
                | inl same ↦ contrary h.by.claim.write_half writes (ap (λ (x : Claimed). x.claim.write_half) (sym same) ∙ reads)
                | inr (inl first) ↦ contrary (is_nothing (held_by h.by)) (is_nothing_of (held_by h.by) (first.1 same_seat).0) h.some
                | inr (inr last) ↦ contrary h.by.claim.write_half writes (read_of_half h.by.claim (last.0 (sym same_seat)).reads)
              ]
            where
              both : EachPair (λ x y. Distinct x y × Alone x y) s.claims
              both = pairs_both Distinct Alone (λ x y. Distinct x y × Alone x y) (λ x y p q. (p, q)) s.claims reached.sound.one_each (each_alone s reached)

  module _ {V E : Type 0} (after : V → E → V) (taken : V → E → Bool) (number : V → ℕ) (b : Beginning V) where
    halves_along : (earlier more : List (EntryFields E)) → IsReached (lock_after b earlier) → AllInTurn (MayFollow after taken number b) earlier more → AreOfOthers n more
        → has_request (lock_after b earlier).claims n ≡ true → AreHalvesOf (lock_after b earlier) → AreHalvesOf (lock_after b (earlier ++ more))
    halves_along earlier [] reached fits others requested was = subst (λ es. AreHalvesOf (lock_after b es)) (sym (append-nil earlier)) was
    halves_along earlier (e ∷ more) reached fits others requested was =
        subst (λ es. AreHalvesOf (lock_after b es)) (append_assoc earlier (e ∷ []) more)
        (halves_along (earlier ++ e ∷ []) more (reached_push after taken number b earlier e reached fits.0) fits.1 others.1
        (subst (λ (s : LockState). has_request s.claims n ≡ true) (sym (lock_push b earlier e)) (claim_next n (is_of n) (of_seat n) (lock_after b earlier) e.event reached fits.0.comes (differs (maker e) n others.0) ∙ requested))
        (subst AreHalvesOf (sym (lock_push b earlier e)) (halves_other (lock_after b earlier) e.event reached fits.0.comes requested was)))

    -- A seat whose last own entry of a lawful history is this issue, and that has nothing pending, holds all that it reads
    pub holds_upgrade : (before more : List (EntryFields E)) → IsLawfulFrom after taken number b ((before ++ bare (Issue n r) ∷ []) ++ more)
        → entries_by maker n ((before ++ bare (Issue n r) ∷ []) ++ more) ≡ entries_by maker n (before ++ bare (Issue n r) ∷ [])
        → is_ready (lock_after b ((before ++ bare (Issue n r) ∷ []) ++ more)) n ≡ true
        → holds_of (lock_after b ((before ++ bare (Issue n r) ∷ []) ++ more)).claims n ≡ record { reads = r.reads; writes = empty }
    holds_upgrade before more lawful own ready =
        let issue = bare {E = E} (Issue n r) in
        let parts = in_turn_parts (MayFollow after taken number b) [] (before ++ issue ∷ []) more lawful in
        let firsts = in_turn_parts (MayFollow after taken number b) [] before (issue ∷ []) parts.0 in
        let reached = reached_lawful after taken number b before firsts.0 in
        let comes = firsts.1.0.comes in
        let others = others_behind n (before ++ issue ∷ []) more own in
        let reached_now = reached_lawful after taken number b (before ++ issue ∷ []) parts.0 in
        let pushed = lock_push b before issue in
        let along = claim_along after taken number b n (is_of n) (of_seat n) (before ++ issue ∷ []) more reached_now parts.1 others
        ∙ ap (λ (s : LockState). has_request s.claims n) pushed ∙ issued_next (lock_after b before) n r reached comes in
        holds_reads (lock_after b ((before ++ issue ∷ []) ++ more)) (reached_lawful after taken number b ((before ++ issue ∷ []) ++ more) lawful)
        (halves_along (before ++ issue ∷ []) more reached_now parts.1 others
        (ap (λ (s : LockState). has_request s.claims n) pushed ∙ issued_next (lock_after b before) n r reached comes)
        (subst AreHalvesOf (sym pushed) (halves_issued (lock_after b before) reached comes)))
        (claim_along after taken number b n (may_rise_by n) (of_seat_and n is_read_half) (before ++ issue ∷ []) more reached_now parts.1 others
        ∙ ap (λ (s : LockState). may_rise s.claims n) pushed ∙ may_rise_next (lock_after b before) n r reached comes raises)
        (not_both (has_request (lock_after b ((before ++ issue ∷ []) ++ more)).claims n) (is_not_holding (lock_after b ((before ++ issue ∷ []) ++ more)).claims n) ready along)
      where
        not_both : (x y : Bool) → not (x && y) ≡ true → x ≡ true → y ≡ false
        not_both true true h x_is = absurd (true≢false (sym h))
        not_both true false h x_is = refl
        not_both false y h x_is = absurd (true≢false (sym x_is))
