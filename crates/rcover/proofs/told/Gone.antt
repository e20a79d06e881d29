-- A seat whose wait ends by an event waits no more.
use Rattle.std.proofs.Common.{◌≡◌, ◌≢◌, ℕ, ◌<◌, ◌==◌, nat_lt, true, false, not, ◌&&◌, ◌||◌, cond, Option, Some, None, List, refl, sym, ap, subst, ◌∙◌, inl, inr}
use Rattle.std.proofs.lemmas.Bool.{and_parts, and_from, eq-eqb, eqb-true}
use Rattle.std.specs.FinSet.{contains, len}
use Rattle.std.specs.List.{AllByRecursion}
use Rattle.rset.specs.Sets.{Set}
use Rattle.rset.specs.declared.TheConstants.{SEATS}
use Rattle.rclaim.specs.Events.{seat_of}
use Rattle.rclaim.specs.declared.claim.Claim.{Claim}
use Rattle.rclaim.specs.declared.event.Event.{Event}
use Rattle.rmodel.specs.declared.claimed.Claimed.{Claimed}
use Rattle.rmodel.specs.declared.granted.Granted.{Granted}
use Rattle.rmodel.specs.Claims.{is_nested, is_upgrade}
use Rattle.rmodel.specs.Holds.{held_by, is_nothing, is_within}
use Rattle.rmodel.specs.Reached.{IsReached}
use Rattle.rmodel.specs.State.{LockState}
use Rattle.rmodel.specs.Steps.{next, Comes}
use Rattle.rmodel.specs.WellFormed.{Among, Distinct, HasParts}
use Rattle.rmodel.proofs.ListFacts.{contrary, false_from, all_at, none_among, pair_among, passing}
use Rattle.rmodel.proofs.reaching.Growing.{IsGrown, grown_holds}
use Rattle.rmodel.proofs.reaching.HeldBySeat.{nothing_of, is_nothing_of, within_nothing}
use Rattle.rmodel.proofs.reaching.OneOfSeat.{not_nested}
use Rattle.rmodel.proofs.reaching.Reached.{reached_next}
use Rattle.rmodel.proofs.reaching.Soundness.{read_of_half}
use Rattle.rmodel.proofs.settling.Keeping.{not_false}
use Rattle.rmodel.proofs.settling.OneSettlement.{both_cases}
use Rattle.rbound.specs.declared.which.Which.{Which}
use Rattle.rbound.specs.declared.which.Which.TheVariants.{First, Rise, Ask}
use Rattle.rcover_laws.specs.declared.wait_end.WaitEnd.{WaitEnd}
use Rattle.rcover_laws.specs.Ended.{wait_of, waits_in, wait_end}
use Rattle.rcover_laws.specs.History.{length_in}
use Rattle.rcover_laws.specs.Moments.{Moment, is_claim}
use Rattle.rcover_laws.specs.Sections.{Sections}
use Rattle.rcover_laws.specs.Told.{is_rising_half, waits_first, waits_to_rise, stands}
use Rattle.rcover_laws.specs.Within.{numbers_of}
use Rattle.rcover_laws.proofs.lists.Different.{among_filter_map}
use Rattle.rcover_laws.proofs.runs.Moments.{is_itself}
use Rattle.rcover_laws.proofs.told.Few.{waits_told}
use Rattle.rcover.specs.Past.{is_issue}
use Rattle.rcover.specs.Tracked.{shown, told, told_if}
use Rattle.rcover.specs.NotedSeats.{some_wait, HoldWaiting}
use Rattle.rcover.specs.Waiting.{with_seat, has_end}
use Rattle.rcover.proofs.told.Asking.{asks_nested, pending_from}
use Rattle.rcover.proofs.heads_told.Taken.{one_write}
use Rattle.rcover.proofs.told.Stood.{before, rise_was, rising_parts}
use Rattle.rcover.proofs.told.Waiting.{in_changed, noted_seat, rises_not, waited_before}

-- a claim that passes none of the tests does not wait
no_wait : (n : Moment) (x : Claimed) → (waits_first n x ≡ true → ⊥) → (waits_to_rise n x ≡ true → ⊥) → (nat_lt 0 (len x.asked) ≡ true → ⊥) → some_wait n x ≡ true → ⊥
no_wait n x first rise ask on =
    both_cases (waits_first n x) first
    (λ not_first. both_cases (waits_to_rise n x) rise
    (λ not_rise. ask ((λ i. (sym not_first i || sym not_rise i) || nat_lt 0 (len x.asked)) ∙ on)))

module _ (s : LockState) (e : Event) (reached : IsReached s) (comes : Comes s e) (plain : is_issue e ≡ false) where
  abbrev m : Moment
  m = s.claims

  abbrev n : Moment
  n = (next s e).claims

  on_reached : IsReached (next s e)
  on_reached = reached_next s e reached comes

  -- the claim of an upgrade asks for nothing
  not_asks : (t : LockState) → IsReached t → (x : Claimed) → Among x t.claims → is_upgrade x.claim.kind ≡ true → nat_lt 0 (len x.asked) ≡ true → ⊥
  not_asks t reaches x there upgrade asks = contrary (is_nested x.claim.kind) (asks_nested t reaches x there asks) (not_nested x.claim.kind upgrade)

  -- what a write half of an upgrade is in is no first wait
  not_first_half : (k : Moment) (x : Claimed) → is_rising_half x.claim ≡ true → waits_first k x ≡ true → ⊥
  not_first_half k x half first = contrary (is_rising_half x.claim) half (not_false (is_rising_half x.claim) (and_parts (is_nothing (held_by x)) (not (is_rising_half x.claim)) first).1)

  -- a wait of a claim z ends, and x is a claim of another seat than that of the event
  module _ (z : Claimed) (in_m : Among z m) (x : Claimed) (there : Among x n) (other : x.claim.seat ≢ seat_of e) where
    abbrev y : Claimed
    y = (before s e reached comes plain x there).0

    y_in : Among y m
    y_in = (before s e reached comes plain x there).1

    grew : IsGrown y x
    grew = (before s e reached comes plain x there).2

    -- if they are the same claim
    module _ (same : z ≡ y) where
      claim : x.claim ≡ z.claim
      claim = grew.claim ∙ ap (λ (q : Claimed). q.claim) (sym same)

      over : (w : Which) → stands (waits_in w) z.claim n ≡ false → waits_in w n x ≡ true → ⊥
      over w gone on =
          contrary (is_claim z.claim x.claim && waits_in w n x) (and_from (is_claim z.claim x.claim) (waits_in w n x) (ap (is_claim z.claim) claim ∙ is_itself z.claim) on)
          (none_among (λ q. is_claim z.claim q.claim && waits_in w n q) n x gone there)

      holds_less : is_nothing (held_by x) ≡ true → is_nothing (held_by z) ≡ true
      holds_less none =
          is_nothing_of (held_by z)
          (within_nothing (held_by z)
          (subst (λ (g : Granted). is_within (held_by z) g ≡ true) (nothing_of (held_by x) none) (ap (λ (q : Claimed). is_within (held_by q) (held_by x)) same ∙ grown_holds y x grew)))

      one_of : (w : Which) → waits_in w m z ≡ true → stands (waits_in w) z.claim n ≡ false → some_wait n x ≡ true → ⊥
      one_of First waits gone =
          let p = and_parts (is_nothing (held_by z)) (not (is_rising_half z.claim)) waits in
          no_wait n x (over First gone)
          (λ rise. contrary (is_rising_half x.claim) (rising_parts s e reached comes plain n x rise).0 (ap is_rising_half claim ∙ not_false (is_rising_half z.claim) p.1))
          (λ asks.
          both_cases (is_nothing (held_by x))
          (λ none. over First gone (and_from (is_nothing (held_by x)) (not (is_rising_half x.claim)) none (ap (λ c. not (is_rising_half c)) claim ∙ p.1)))
          (λ some.
          let from = pending_from s e reached comes x there (and_from (not (is_nothing (held_by x))) (nat_lt 0 (len x.asked)) (ap not some) asks) in
          let in_there = in_changed s e reached comes e comes from.0 from.1 (λ own. other (ap (λ (d : Claim). d.seat) (sym from.2) ∙ own)) in
          let write = (all_at HasParts m from.0 reached.sound.parts in_there).writes from.4 in
          let is_one : from.0 ≡ z
          = one_write m reached.sound.one_each from.0 z in_there in_m write (ap (λ (d : Claim). d.write_half) (sym claim ∙ sym from.2) ∙ write) (ap (λ (d : Claim). d.seat) (from.2 ∙ claim)) in
          contrary (is_nothing (held_by z)) p.0 (ap (λ (q : Claimed). is_nothing (held_by q)) (sym is_one) ∙ not_false (is_nothing (held_by from.0)) (and_parts (not (is_nothing (held_by from.0))) (nat_lt 0 (len from.0.asked)) from.3).0)))
      one_of Rise waits gone =
          let half : is_rising_half x.claim ≡ true = ap is_rising_half claim ∙ (rising_parts s e reached comes plain m z waits).0 in
          no_wait n x (not_first_half n x half) (over Rise gone) (not_asks (next s e) on_reached x there (and_parts (is_upgrade x.claim.kind) x.claim.write_half half).0)
      one_of (Ask k) waits gone =
          let p = and_parts (not (is_nothing (held_by z))) (nat_lt 0 (len z.asked)) waits in
          let holds = not_false (is_nothing (held_by z)) p.0 in
          no_wait n x
          (λ first. contrary (is_nothing (held_by z)) (holds_less (and_parts (is_nothing (held_by x)) (not (is_rising_half x.claim)) first).0) holds)
          (λ rise. not_asks s reached z in_m (ap (λ (c : Claim). is_upgrade c.kind) (sym claim) ∙ (and_parts (is_upgrade x.claim.kind) x.claim.write_half (rising_parts s e reached comes plain n x rise).0).0) p.1)
          (λ asks.
          both_cases (is_nothing (held_by x))
          (λ none. contrary (is_nothing (held_by z)) (holds_less none) holds)
          (λ some. over (Ask k) gone (and_from (not (is_nothing (held_by x))) (nat_lt 0 (len x.asked)) (ap not some) asks)))

    -- if z is the read half of an upgrade and x its write half
    later_half : z.claim.write_half ≡ false → z.claim.seat ≡ y.claim.seat → is_rising_half y.claim ≡ true → some_wait n x ≡ true → ⊥
    later_half read seated half =
        let half_x : is_rising_half x.claim ≡ true = ap is_rising_half grew.claim ∙ half in
        no_wait n x (not_first_half n x half_x)
        (λ rise.
        let was = rise_was s e reached comes plain x there rise (rises_not s e reached comes e x.claim.seat other) in
        contrary ((z.claim.seat == y.claim.seat) && not z.claim.write_half) (and_from (z.claim.seat == y.claim.seat) (not z.claim.write_half) (eq-eqb z.claim.seat y.claim.seat seated) (ap not read))
        (none_among (λ q. (q.claim.seat == y.claim.seat) && not q.claim.write_half) m z (rising_parts s e reached comes plain m y was).1 in_m))
        (not_asks (next s e) on_reached x there (and_parts (is_upgrade x.claim.kind) x.claim.write_half half_x).0)

    -- if z is the write half and x the read half, z was in no wait
    earlier_half : y.claim.write_half ≡ false → y.claim.seat ≡ z.claim.seat → is_rising_half z.claim ≡ true → (w : Which) → waits_in w m z ≡ true → ⊥
    earlier_half read seated half First waits = not_first_half m z half waits
    earlier_half read seated half Rise waits =
        contrary ((y.claim.seat == z.claim.seat) && not y.claim.write_half) (and_from (y.claim.seat == z.claim.seat) (not y.claim.write_half) (eq-eqb y.claim.seat z.claim.seat seated) (ap not read))
        (none_among (λ q. (q.claim.seat == z.claim.seat) && not q.claim.write_half) m y (rising_parts s e reached comes plain m z waits).1 y_in)
    earlier_half read seated half (Ask k) waits =
        not_asks s reached z in_m (and_parts (is_upgrade z.claim.kind) z.claim.write_half half).0 (and_parts (not (is_nothing (held_by z))) (nat_lt 0 (len z.asked)) waits).1

    gone : (w : Which) → waits_in w m z ≡ true → stands (waits_in w) z.claim n ≡ false → x.claim.seat ≡ z.claim.seat → some_wait n x ≡ true → ⊥
    gone w waits ends seated on =
        let own : y.claim.seat ≡ z.claim.seat = ap (λ (d : Claim). d.seat) (sym grew.claim) ∙ seated in
        elim (pair_among Distinct m z y reached.sound.one_each in_m y_in) [
          | inl same ↦ one_of same w waits ends on
          | inr (inl two) ↦
              let h = two (sym own) in
              later_half (read_of_half z.claim h.reads) (sym own) (and_from (is_upgrade y.claim.kind) y.claim.write_half h.upgrade h.writes) on
          | inr (inr two) ↦
              let h = two own in
              earlier_half (read_of_half y.claim h.reads) own (and_from (is_upgrade z.claim.kind) z.claim.write_half h.upgrade h.writes) w waits
        ]

  -- a wait that is reported ended, and belongs to the claim whose seat is reported
  module _ (es : List Event) (table : ℕ → Sections) where
    abbrev EndOf : Claimed → WaitEnd → Type 0
    EndOf z end = (w : Which) × (waits_in w m z ≡ true) × (stands (waits_in w) z.claim n ≡ false) × (end.seat ≡ z.claim.seat)

    end_is : (z : Claimed) (end : WaitEnd) → told_if (length_in es) m n table z (wait_of es m z) ≡ Some end → EndOf z end
    end_is z end is = at (wait_of es m z) refl is
      where
        seat_is : (a b : WaitEnd) → Some a ≡ Some b → b.seat ≡ a.seat
        seat_is a b h = cc

        none_is : {a : WaitEnd} → None ≡ Some a → ⊥
        none_is h = cc

        at : (o : Option Which) → wait_of es m z ≡ o → told_if (length_in es) m n table z o ≡ Some end → EndOf z end
        at None was h = absurd (none_is h)
        at (Some w) was h =
            let end_w = wait_end w z.claim (numbers_of (length_in es) (shown w z (table z.claim.seat) m)) in
            both_cases (stands (waits_in w) z.claim n)
            (λ on. absurd (none_is (ap (λ b. cond b None (Some end_w)) (sym on) ∙ h)))
            (λ off. (w, waits_told es m z w was, off, seat_is end_w end (ap (λ b. cond b None (Some end_w)) (sym off) ∙ h)))

    -- the seats that wait, except that of the event, waited before, and none of their waits ended
    pub waiting_over : (seats seats' : Set) → HoldWaiting seats m → (ended : List WaitEnd) → ended ≡ told es m n table
        → ((seat : ℕ) → seat < SEATS → contains seats' seat ≡ (not (has_end ended seat) && contains seats seat)) → AllByRecursion (λ x. x.claim.seat < SEATS) n → HoldWaiting (with_seat seats' n (seat_of e)) n
    waiting_over seats seats' hold ended are without low =
        noted_seat seats' n (seat_of e)
        (λ x there other waits.
        without x.claim.seat (all_at (λ q. q.claim.seat < SEATS) n x low there)
        ∙ and_from (not (has_end ended x.claim.seat)) (contains seats x.claim.seat)
        (ap not (false_from (has_end ended x.claim.seat) (λ on.
        let end = passing (λ (w : WaitEnd). w.seat == x.claim.seat) ended on in
        let from = among_filter_map (λ q. told_if (length_in es) m n table q (wait_of es m q)) m end.0 (subst (Among end.0) are end.1) in
        let is = end_is from.0 end.0 from.2 in
        gone from.0 from.1 x there other is.0 is.1 is.2 (sym (eqb-true end.0.seat x.claim.seat end.2) ∙ is.3) waits)))
        (waited_before s e reached comes seats hold x there other waits))
