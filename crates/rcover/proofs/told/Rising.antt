-- The seats of the upgrades that rose say which claims wait to rise.
use Rattle.std.proofs.Common.{◌≡◌, ◌≢◌, ℕ, ◌==◌, nat_lt, Bool, true, false, not, ◌&&◌, ◌||◌, List, [], ◌∷◌, map, refl, sym, ap, ◌∙◌, inl, inr}
use Rattle.std.proofs.lemmas.Bool.{and_parts, and_from, eq-eqb, eqb-true}
use Rattle.std.specs.List.{list_any}
use Rattle.std.specs.FinSet.{contains, empty, insert, len, remove}
use Rattle.rset.specs.Sets.{Set}
use Rattle.rset.proofs.SetMembers.{same_test, contains_insert, contains_remove}
use Rattle.rclaim.specs.Requests.{RequestFields}
use Rattle.rclaim.specs.declared.claim.Claim.{Claim}
use Rattle.rclaim.specs.declared.event.Event.{Event}
use Rattle.rclaim.specs.declared.event.Event.TheVariants.{Issue, Finish}
use Rattle.rclaim.specs.declared.event.Event.TheVariants as event
use Rattle.rclaim.specs.declared.request.Kind.{Kind}
use Rattle.rclaim.specs.declared.request.Kind.TheVariants.{Read, Write, Mixed, Upgrade, Nested}
use Rattle.rmodel.specs.declared.claimed.Claimed.{Claimed}
use Rattle.rmodel.specs.Claims.{claim_of, claims_by, claims_of, is_satisfied, waiting}
use Rattle.rmodel.specs.Reached.{IsReached}
use Rattle.rmodel.specs.State.{LockState}
use Rattle.rmodel.specs.Steps.{next, Comes}
use Rattle.rmodel.specs.WellFormed.{Among}
use Rattle.rmodel.proofs.ListFacts.{contrary, false_from, all_at, all_from, among_append, among_behind, any_among, none_among, none_from}
use Rattle.rmodel.proofs.reaching.Came.{among_map, came, goes, in_map}
use Rattle.rmodel.proofs.reaching.Soundness.{seat_is_idle}
use Rattle.rmodel.proofs.settling.Keeping.{not_false}
use Rattle.rmodel.proofs.settling.OneSettlement.{both_cases}
use Rattle.rcover_laws.specs.Moments.{Moment}
use Rattle.rcover_laws.specs.Told.{is_rising_half, waits_first, has_read_claim, waits_to_rise}
use Rattle.rcover.specs.Past.{is_issue}
use Rattle.rcover.specs.Begun.{rises_at}
use Rattle.rcover.specs.NotedSeats.{some_wait, is_rising, TellRising}
use Rattle.rcover.specs.Waiting.{seat_waits, risen_by, waits_by}
use Rattle.rcover.proofs.ending.Quiet.{old_rises}
use Rattle.rcover.proofs.told.Stood.{before, left_half, left_is_write, rise_was, rising_parts}
use Rattle.rcover.proofs.told.Waiting.{none_left}

-- two numbers that differ
differ : (k l : ℕ) → k ≢ l → (k == l) ≡ false
differ k l other = false_from (k == l) (λ on. other (eqb-true k l on))

-- sets that agree on a seat say the same of its claims
alike : (seats seats' : Set) (x : Claimed) → contains seats' x.claim.seat ≡ contains seats x.claim.seat → is_rising seats x ≡ is_rising seats' x
alike seats seats' x same = ap (λ b. b && not (is_satisfied x)) (sym same)

pub removed_other : (seats : Set) (seat l : ℕ) → l ≢ seat → contains (remove seats seat) l ≡ contains seats l
removed_other seats seat l other = contains_remove seats seat l ∙ ap (λ b. not b && contains seats l) (differ l seat other)

removed_own : (seats : Set) (seat l : ℕ) → l ≡ seat → contains (remove seats seat) l ≡ false
removed_own seats seat l own = contains_remove seats seat l ∙ ap (λ b. not b && contains seats l) (eq-eqb l seat own)

pub inserted_other : (seats : Set) (seat l : ℕ) → l ≢ seat → contains (insert seats seat) l ≡ contains seats l
inserted_other seats seat l other = contains_insert seats seat l ∙ ap (λ b. b || contains seats l) (differ l seat other)

pub inserted_own : (seats : Set) (seat l : ℕ) → l ≡ seat → contains (insert seats seat) l ≡ true
inserted_own seats seat l own = contains_insert seats seat l ∙ ap (λ b. b || contains seats l) (eq-eqb l seat own)

-- ---- an event that is no issue

module _ (s : LockState) (e : Event) (reached : IsReached s) (comes : Comes s e) (plain : is_issue e ≡ false) where
  abbrev m : Moment
  m = s.claims

  abbrev n : Moment
  n = (next s e).claims

  -- no read claim comes with it
  no_read_on : (c : Claim) → has_read_claim m c ≡ false → has_read_claim n c ≡ false
  no_read_on c none =
      none_from (λ y. (y.claim.seat == c.seat) && not y.claim.write_half) n
      (λ z in_n. false_from ((z.claim.seat == c.seat) && not z.claim.write_half) (λ reads.
      let was = before s e reached comes plain z in_n in
      contrary ((was.0.claim.seat == c.seat) && not was.0.claim.write_half) (ap (λ (d : Claim). (d.seat == c.seat) && not d.write_half) (sym was.2.claim) ∙ reads)
      (none_among (λ y. (y.claim.seat == c.seat) && not y.claim.write_half) m was.0 none was.1)))

  -- and it leaves no read claim of the upgrade that rises
  no_read_left : (c : Claim) → rises_at e c.seat ≡ true → has_read_claim n c ≡ false
  no_read_left c rises =
      none_from (λ y. (y.claim.seat == c.seat) && not y.claim.write_half) n
      (λ z in_n. false_from ((z.claim.seat == c.seat) && not z.claim.write_half) (λ reads.
      let parts = and_parts (z.claim.seat == c.seat) (not z.claim.write_half) reads in
      let write = left_is_write s e reached comes plain z in_n (ap (rises_at e) (eqb-true z.claim.seat c.seat parts.0) ∙ rises) in
      contrary z.claim.write_half write (not_false z.claim.write_half parts.1)))

  is_told : (x : Claimed) → is_rising_half x.claim ≡ true → has_read_claim n x.claim ≡ false → waits_to_rise n x ≡ not (is_satisfied x)
  is_told x half none = (λ i. (half i && not (none i)) && not (is_satisfied x))

  -- what is left of the upgrade that rises waits to rise until it is satisfied
  risen_told : (x : Claimed) → Among x n → rises_at e x.claim.seat ≡ true → waits_to_rise n x ≡ not (is_satisfied x)
  risen_told x there rises = is_told x (left_half s e reached comes plain x there rises) (no_read_left x.claim rises)

  -- and all others wait to rise as before, until they are satisfied
  still_told : (seats : Set) → TellRising seats m → (x : Claimed) → Among x n → rises_at e x.claim.seat ≡ false → waits_to_rise n x ≡ is_rising seats x
  still_told seats tell x there not_it =
      let was = before s e reached comes plain x there in
      let told : waits_to_rise m was.0 ≡ is_rising seats was.0 = all_at (λ y. waits_to_rise m y ≡ is_rising seats y) m was.0 tell was.1 in
      let seated : contains seats x.claim.seat ≡ contains seats was.0.claim.seat = ap (λ (d : Claim). contains seats d.seat) was.2.claim in
      same_test (waits_to_rise n x) (is_rising seats x)
      (λ on.
      let on_m = rise_was s e reached comes plain x there on not_it in
      let held = (and_parts (contains seats was.0.claim.seat) (not (is_satisfied was.0)) (sym told ∙ on_m)).0 in
      and_from (contains seats x.claim.seat) (not (is_satisfied x)) (seated ∙ held) (ap not (rising_parts s e reached comes plain n x on).2))
      (λ on.
      let parts = and_parts (contains seats x.claim.seat) (not (is_satisfied x)) on in
      let unsat : is_satisfied was.0 ≡ false = false_from (is_satisfied was.0) (λ sat. contrary (is_satisfied x) (was.2.satisfied sat) (not_false (is_satisfied x) parts.1)) in
      let on_m = told ∙ and_from (contains seats was.0.claim.seat) (not (is_satisfied was.0)) (sym seated ∙ parts.0) (ap not unsat) in
      let r = rising_parts s e reached comes plain m was.0 on_m in
      is_told x (ap is_rising_half was.2.claim ∙ r.0) (no_read_on x.claim (ap (has_read_claim m) was.2.claim ∙ r.1)) ∙ parts.1)

-- ---- an issue

-- with the write half of an upgrade its read half is issued
read_beside : (groups : List Set) (k : Kind) (stamp seat : ℕ) (reads writes : Set) (c : Claim) → Among c (claims_by groups k stamp seat reads writes) → is_rising_half c ≡ true
    → (d : Claim) × Among d (claims_by groups k stamp seat reads writes) × (d.seat ≡ seat) × (d.write_half ≡ false)
read_beside groups Read stamp seat reads writes c (inl same) half = contrary (is_rising_half c) half (ap is_rising_half same)
read_beside groups Read stamp seat reads writes c (inr none) half = absurd none
read_beside groups Write stamp seat reads writes c (inl same) half = contrary (is_rising_half c) half (ap is_rising_half same)
read_beside groups Write stamp seat reads writes c (inr none) half = absurd none
read_beside groups Mixed stamp seat reads writes c (inl same) half = contrary (is_rising_half c) half (ap is_rising_half same)
read_beside groups Mixed stamp seat reads writes c (inr none) half = absurd none
read_beside groups Upgrade stamp seat reads writes c there half = (claim_of groups false stamp seat Upgrade reads empty, inl refl, refl, refl)
read_beside groups Nested stamp seat reads writes c (inl same) half = contrary (is_rising_half c) half (ap is_rising_half same)
read_beside groups Nested stamp seat reads writes c (inr none) half = absurd none

module _ (s : LockState) (seat : ℕ) (r : RequestFields) (reached : IsReached s) (comes : Comes s (Issue seat r)) where
  abbrev ns : Moment
  ns = map (waiting r.first) (claims_of s.groups.groups s.issued seat r)

  -- no claim that it brings waits to rise
  new_not : (x : Claimed) → Among x (next s (Issue seat r)).claims → x.claim.seat ≡ seat → waits_to_rise (next s (Issue seat r)).claims x ≡ false
  new_not x there own =
      let n = (next s (Issue seat r)).claims in
      let from = came s (Issue seat r) reached comes x there in
      let same : x.claim ≡ from.0.claim = from.1.given.claim ∙ from.1.by_rule.same in
      false_from (waits_to_rise n x) (λ on.
      let first = and_parts (is_rising_half x.claim) (not (has_read_claim n x.claim)) (and_parts (is_rising_half x.claim && not (has_read_claim n x.claim)) (not (is_satisfied x)) on).0 in
      elim (among_append s.claims ns from.0 from.1.in_changed) [
        | inl old ↦
            contrary (from.0.claim.seat == seat) (eq-eqb from.0.claim.seat seat (ap (λ (d : Claim). d.seat) (sym same) ∙ own))
            (none_among (λ y. y.claim.seat == seat) s.claims from.0 (seat_is_idle s seat r comes.accepted) old)
        | inr new ↦
            let c = among_map (waiting r.first) (claims_of s.groups.groups s.issued seat r) from.0 new in
            let half : is_rising_half c.0 ≡ true = ap is_rising_half (ap (λ (z : Claimed). z.claim) (sym c.2) ∙ sym same) ∙ first.0 in
            let d = read_beside s.groups.groups r.kind s.issued seat r.reads r.writes c.0 c.1 half in
            let y = goes s (Issue seat r) reached comes (waiting r.first d.0) (among_behind s.claims ns (waiting r.first d.0) (in_map (waiting r.first) (claims_of s.groups.groups s.issued seat r) d.0 d.1)) in
            let is : y.0.claim ≡ d.0 = y.1.given.claim ∙ y.1.by_rule.same in
            contrary (has_read_claim n x.claim)
            (any_among (λ z. (z.claim.seat == x.claim.seat) && not z.claim.write_half) n y.0 y.1.in_next
            (and_from (y.0.claim.seat == x.claim.seat) (not y.0.claim.write_half) (eq-eqb y.0.claim.seat x.claim.seat (ap (λ (z : Claim). z.seat) is ∙ d.2 ∙ sym own)) (ap (λ (z : Claim). not z.write_half) is ∙ ap not d.3)))
            (not_false (has_read_claim n x.claim) first.1)
      ])

-- ---- any event

rising_at : (s : LockState) (e : Event) → IsReached s → Comes s e → (seats : Set) → TellRising seats s.claims → (x : Claimed) → Among x (next s e).claims → waits_to_rise (next s e).claims x ≡ is_rising (risen_by seats e) x
rising_at s (Issue seat r) reached comes seats tell x there =
    both_cases (x.claim.seat == seat)
    (λ on.
    let own = eqb-true x.claim.seat seat on in
    new_not s seat r reached comes x there own ∙ sym (ap (λ b. b && not (is_satisfied x)) (removed_own seats seat x.claim.seat own)))
    (λ off.
    let other : x.claim.seat ≢ seat = λ same. contrary (x.claim.seat == seat) (eq-eqb x.claim.seat seat same) off in
    let old = old_rises s (Issue seat r) reached comes refl x there other in
    old.1 ∙ all_at (λ y. waits_to_rise s.claims y ≡ is_rising seats y) s.claims x tell old.0 ∙ alike seats (remove seats seat) x (removed_other seats seat x.claim.seat other))
rising_at s (Finish seat) reached comes seats tell x there =
    let other : x.claim.seat ≢ seat
    = λ same. contrary (x.claim.seat == seat) (eq-eqb x.claim.seat seat same) (none_among (λ y. y.claim.seat == seat) (next s (Finish seat)).claims x (none_left s seat reached comes) there) in
    still_told s (Finish seat) reached comes refl seats tell x there refl ∙ alike seats (remove seats seat) x (removed_other seats seat x.claim.seat other)
rising_at s (event.Rise seat) reached comes seats tell x there =
    both_cases (seat == x.claim.seat)
    (λ on.
    risen_told s (event.Rise seat) reached comes refl x there on
    ∙ sym (ap (λ b. b && not (is_satisfied x)) (inserted_own seats seat x.claim.seat (sym (eqb-true seat x.claim.seat on)))))
    (λ off.
    let other : x.claim.seat ≢ seat = λ same. contrary (seat == x.claim.seat) (eq-eqb seat x.claim.seat (sym same)) off in
    still_told s (event.Rise seat) reached comes refl seats tell x there off ∙ alike seats (insert seats seat) x (inserted_other seats seat x.claim.seat other))
rising_at s (event.Ask seat part) reached comes seats tell x there = still_told s (event.Ask seat part) reached comes refl seats tell x there refl

-- after any event it is known which claims wait to rise
pub risen_next : (s : LockState) (e : Event) → IsReached s → Comes s e → (seats : Set) → TellRising seats s.claims → TellRising (risen_by seats e) (next s e).claims
risen_next s e reached comes seats tell = all_from (λ x. waits_to_rise (next s e).claims x ≡ is_rising (risen_by seats e) x) (next s e).claims (λ x there. rising_at s e reached comes seats tell x there)

-- ---- which seats wait

any_same : (p q : Claimed → Bool) (xs : Moment) → ((x : Claimed) → Among x xs → p x ≡ q x) → list_any p xs ≡ list_any q xs
any_same p q [] same = refl
any_same p q (x ∷ xs) same = (λ i. same x (inl refl) i || any_same p q xs (λ y there. same y (inr there)) i)

-- whether a seat waits, by whether its upgrade rose
pub waits_alike : (rising : Set) (m : Moment) (seat : ℕ) (rose : Bool) → rose ≡ contains rising seat → TellRising rising m → list_any (λ x. (x.claim.seat == seat) && waits_by rose x) m ≡ seat_waits m seat
waits_alike rising m seat rose is tell =
    any_same (λ x. (x.claim.seat == seat) && waits_by rose x) (λ x. (x.claim.seat == seat) && some_wait m x) m
    (λ x there. both_cases (x.claim.seat == seat)
    (λ on.
    let told : waits_to_rise m x ≡ (rose && not (is_satisfied x))
    = all_at (λ y. waits_to_rise m y ≡ is_rising rising y) m x tell there ∙ ap (λ b. b && not (is_satisfied x)) (ap (contains rising) (eqb-true x.claim.seat seat on) ∙ sym is) in
    ap (λ b. (x.claim.seat == seat) && ((waits_first m x || b) || nat_lt 0 (len x.asked))) (sym told))
    (λ off. ap (λ b. b && waits_by rose x) off ∙ sym (ap (λ b. b && some_wait m x) off)))
