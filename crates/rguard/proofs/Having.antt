-- What a ready seat holds: all that its request is about. For proofs above, which know the request from the seat's own entries.
use Rattle.std.proofs.Common.{◌≡◌, ℕ, ◌==◌, ◌&&◌, not, Bool, true, false, List, [], ◌∷◌, ◌++◌, map, refl, sym, ap, subst, ◌∙◌, inl, inr, append-nil, append_assoc}
use Rattle.std.proofs.lemmas.Bool.{true≢false, eq-eqb, or_parts}
use Rattle.std.specs.List.{AllByRecursion}
use Rattle.rset.specs.Sets.{Set}
use Rattle.rclaim.specs.Requests.{RequestFields}
use Rattle.rclaim.specs.declared.claim.Claim.{Claim}
use Rattle.rclaim.specs.declared.event.Event.{Event}
use Rattle.rclaim.specs.declared.event.Event.TheVariants.{Issue}
use Rattle.rclaim.specs.declared.request.Kind.{Kind}
use Rattle.rclaim.specs.declared.request.Kind.TheVariants as kinds
use Rattle.rlock.specs.Known.{entries_by}
use Rattle.rmodel.specs.declared.claimed.Claimed.{Claimed}
use Rattle.rmodel.specs.Claims.{claims_of, claims_by, is_satisfied, is_upgrade, is_nested, waiting}
use Rattle.rmodel.specs.Holds.{holds_of, held_by, has_request, has_ask, is_nothing, nothing}
use Rattle.rmodel.specs.Reached.{IsReached}
use Rattle.rmodel.specs.State.{LockState}
use Rattle.rmodel.specs.Steps.{Comes, next, is_not_holding}
use Rattle.rmodel.proofs.ListFacts.{Among, contrary, all_at, among_append, none_among}
use Rattle.rmodel.proofs.reaching.Came.{origin, came}
use Rattle.rmodel.proofs.reaching.HeldBySeat.{HeldBy, holding, is_nothing_of, held_of_plain, held_of_unsatisfied}
use Rattle.rmodel.proofs.reaching.Soundness.{seat_is_idle}
use Rattle.rmodel.proofs.reaching.OneOfSeat.{each_alone}
use Rattle.rvalue.specs.Entries.{EntryFields}
use Rattle.rvalue.specs.InTurn.{AllInTurn}
use Rattle.rstate.specs.Contents.{is_ready}
use Rattle.rstate.specs.Histories.{Beginning, lock_after, MayFollow, IsLawfulFrom}
use Rattle.rstate.proofs.histories.Following.{in_turn_parts, lock_push, reached_push, reached_lawful}
use Rattle.rguard.specs.Seats.{bare}
use Rattle.rguard.proofs.seats.Along.{AreOfOthers, maker, others_behind, differs}
use Rattle.rguard.proofs.seats.Claims.{is_of, of_seat, claim_next, issued_next}

-- a claim is that of a request of this kind that reads and writes this
record IsFor (kind : Kind) (reads writes : Set) (c : Claim) : Type 0 where
  kind_is : c.kind ≡ kind
  reads_are : c.reads ≡ reads
  writes_are : c.writes ≡ writes

-- the kinds whose requests make one claim, which is satisfied as a whole
abbrev pub is_plain : Kind → Bool
is_plain kind = not (is_upgrade kind) && not (is_nested kind)

new_for : (groups : List Set) (kind : Kind) (stamp n : ℕ) (reads writes first : Set) → is_plain kind ≡ true → AllByRecursion (λ x. IsFor kind reads writes x.claim) (map (waiting first) (claims_by groups kind stamp n reads writes))
new_for groups kinds.Read stamp n reads writes first plain = (record { kind_is = refl; reads_are = refl; writes_are = refl }, tt)
new_for groups kinds.Write stamp n reads writes first plain = (record { kind_is = refl; reads_are = refl; writes_are = refl }, tt)
new_for groups kinds.Mixed stamp n reads writes first plain = (record { kind_is = refl; reads_are = refl; writes_are = refl }, tt)
new_for groups kinds.Upgrade stamp n reads writes first plain = absurd (true≢false (sym plain))
new_for groups kinds.Nested stamp n reads writes first plain = absurd (true≢false (sym plain))

module _ (n : ℕ) (r : RequestFields) (plain : is_plain r.kind ≡ true) where
  -- all claims of the seat are of the request
  abbrev AreFor : LockState → Type 0
  AreFor s = (x : Claimed) → Among x s.claims → x.claim.seat ≡ n → IsFor r.kind r.reads r.writes x.claim

  after_issue : (s : LockState) → IsReached s → Comes s (Issue n r) → AreFor (next s (Issue n r))
  after_issue s reached comes y there of =
      let x = came s (Issue n r) reached comes y there in
      let same : y.claim ≡ (x.0).claim = x.1.given.claim ∙ x.1.by_rule.same in
      let ns = map (waiting r.first) (claims_of s.groups.groups s.issued n r) in
      subst (IsFor r.kind r.reads r.writes) (sym same) (elim (among_append s.claims ns x.0 x.1.in_changed) [
        | inl old ↦ contrary ((x.0).claim.seat == n) (eq-eqb (x.0).claim.seat n (ap (λ (c : Claim). c.seat) (sym same) ∙ of)) (none_among (λ x. x.claim.seat == n) s.claims x.0 (seat_is_idle s n r comes.accepted) old)
        | inr new ↦ all_at (λ x. IsFor r.kind r.reads r.writes x.claim) ns x.0 (new_for s.groups.groups r.kind s.issued n r.reads r.writes r.first plain) new
      ])

  after_other : (s : LockState) (e : Event) → IsReached s → Comes s e → has_request s.claims n ≡ true → AreFor s → AreFor (next s e)
  after_other s e reached comes requested was y there of =
      let x = came s e reached comes y there in
      let same : y.claim ≡ (x.0).claim = x.1.given.claim ∙ x.1.by_rule.same in
      let x_of : (x.0).claim.seat ≡ n = ap (λ (c : Claim). c.seat) (sym same) ∙ of in
      subst (IsFor r.kind r.reads r.writes) (sym same) (elim (origin s e comes x.0 x.1.in_changed) [
        | inl w ↦ subst (IsFor r.kind r.reads r.writes) (sym w.still.claim) (was w.was w.there (ap (λ (c : Claim). c.seat) (sym w.still.claim) ∙ x_of))
        | inr b ↦ contrary (has_request s.claims n) requested (ap (has_request s.claims) (sym x_of) ∙ b.idle)
      ])

  -- what a seat holds that holds something
  holds_all : (s : LockState) → IsReached s → AreFor s → is_not_holding s.claims n ≡ false → holds_of s.claims n ≡ record { reads = r.reads; writes = r.writes }
  holds_all s reached are some = holding s.claims n (each_alone s reached) by_one none
    where
      none : holds_of s.claims n ≡ nothing → holds_of s.claims n ≡ record { reads = r.reads; writes = r.writes }
      none is = contrary (is_nothing (holds_of s.claims n)) (is_nothing_of (holds_of s.claims n) is) (or_parts (is_nothing (holds_of s.claims n)) (has_ask s.claims n) some).0

      not_nested : (k : Kind) → is_plain k ≡ true → is_nested k ≡ false
      not_nested kinds.Read h = refl
      not_nested kinds.Write h = refl
      not_nested kinds.Mixed h = refl
      not_nested kinds.Upgrade h = refl
      not_nested kinds.Nested h = absurd (true≢false (sym h))

      by_one : HeldBy s.claims n → holds_of s.claims n ≡ record { reads = r.reads; writes = r.writes }
      by_one h =
          let for = are h.by h.there h.seated in
          let flat : is_nested h.by.claim.kind ≡ false = ap is_nested for.kind_is ∙ not_nested r.kind plain in
          h.is ∙ whole (is_satisfied h.by) refl h flat ∙ (λ i. record { reads = for.reads_are i; writes = for.writes_are i })
        where
          whole : (c : Bool) → is_satisfied h.by ≡ c → (k : HeldBy s.claims n) → is_nested h.by.claim.kind ≡ false → held_by h.by ≡ record { reads = h.by.claim.reads; writes = h.by.claim.writes }
          whole true is k flat = held_of_plain h.by flat is
          whole false is k flat = contrary (is_nothing (held_by h.by)) (is_nothing_of (held_by h.by) (held_of_unsatisfied h.by flat is)) h.some

  module _ {V E : Type 0} (after : V → E → V) (taken : V → E → Bool) (number : V → ℕ) (b : Beginning V) where
    for_along : (earlier more : List (EntryFields E)) → IsReached (lock_after b earlier) → AllInTurn (MayFollow after taken number b) earlier more → AreOfOthers n more
        → has_request (lock_after b earlier).claims n ≡ true → AreFor (lock_after b earlier) → AreFor (lock_after b (earlier ++ more)) × (has_request (lock_after b (earlier ++ more)).claims n ≡ true)
    for_along earlier [] reached fits others requested was = subst (λ es. AreFor (lock_after b es) × (has_request (lock_after b es).claims n ≡ true)) (sym (append-nil earlier)) (was, requested)
    for_along earlier (e ∷ more) reached fits others requested was =
        subst (λ es. AreFor (lock_after b es) × (has_request (lock_after b es).claims n ≡ true)) (append_assoc earlier (e ∷ []) more)
        (for_along (earlier ++ e ∷ []) more (reached_push after taken number b earlier e reached fits.0) fits.1 others.1
        (subst (λ (s : LockState). has_request s.claims n ≡ true) (sym (lock_push b earlier e)) (claim_next n (is_of n) (of_seat n) (lock_after b earlier) e.event reached fits.0.comes (differs (maker e) n others.0) ∙ requested))
        (subst AreFor (sym (lock_push b earlier e)) (after_other (lock_after b earlier) e.event reached fits.0.comes requested was)))

    -- A seat whose last own entry of a lawful history is this issue, and that has nothing pending, holds all that it asked for
    pub holds_request : (before more : List (EntryFields E)) → IsLawfulFrom after taken number b ((before ++ bare (Issue n r) ∷ []) ++ more)
        → entries_by maker n ((before ++ bare (Issue n r) ∷ []) ++ more) ≡ entries_by maker n (before ++ bare (Issue n r) ∷ [])
        → is_ready (lock_after b ((before ++ bare (Issue n r) ∷ []) ++ more)) n ≡ true
        → holds_of (lock_after b ((before ++ bare (Issue n r) ∷ []) ++ more)).claims n ≡ record { reads = r.reads; writes = r.writes }
    holds_request before more lawful own ready =
        let parts = in_turn_parts (MayFollow after taken number b) [] (before ++ bare (Issue n r) ∷ []) more lawful in
        let firsts = in_turn_parts (MayFollow after taken number b) [] before (bare (Issue n r) ∷ []) parts.0 in
        let reached = reached_lawful after taken number b before firsts.0 in
        let comes = firsts.1.0.comes in
        let along = for_along (before ++ bare (Issue n r) ∷ []) more (reached_lawful after taken number b (before ++ bare (Issue n r) ∷ []) parts.0) parts.1 (others_behind n (before ++ bare (Issue n r) ∷ []) more own)
        (subst (λ (s : LockState). has_request s.claims n ≡ true) (sym (lock_push b before (bare (Issue n r)))) (issued_next (lock_after b before) n r reached comes))
        (subst AreFor (sym (lock_push b before (bare (Issue n r)))) (after_issue (lock_after b before) reached comes)) in
        holds_all (lock_after b ((before ++ bare (Issue n r) ∷ []) ++ more)) (reached_lawful after taken number b ((before ++ bare (Issue n r) ∷ []) ++ more) lawful) along.0
        (not_both (has_request (lock_after b ((before ++ bare (Issue n r) ∷ []) ++ more)).claims n) (is_not_holding (lock_after b ((before ++ bare (Issue n r) ∷ []) ++ more)).claims n) ready along.1)
      where
        not_both : (x y : Bool) → not (x && y) ≡ true → x ≡ true → y ≡ false
        not_both true true h x_is = absurd (true≢false (sym h))
        not_both true false h x_is = refl
        not_both false y h x_is = absurd (true≢false (sym x_is))
