-- What is kept for the next moment has its room, and waits of one seat do not meet.
use Rattle.std.proofs.Common.{◌≡◌, ℕ, ◌==◌, ◌≤◌, length, Bool, true, false, not, ◌&&◌, ◌||◌, cond, Option, Some, None, List, [], ◌∷◌, ◌++◌, refl, sym, ap, subst, ◌∙◌, arith, inl, inr}
use Rattle.std.proofs.lemmas.Bool.{and_parts, and_from, eq-eqb, or_cases}
use Rattle.std.specs.List.{AllByRecursion}
use Rattle.std.specs.Option.{option_to_list}
use Rattle.rset.specs.declared.TheConstants.{SEATS}
use Rattle.rexpand.specs.Groups.{ReadGroups}
use Rattle.rclaim.specs.declared.claim.Claim.{Claim}
use Rattle.rclaim.specs.declared.event.Event.{Event}
use Rattle.rmodel.specs.declared.claimed.Claimed.{Claimed}
use Rattle.rmodel.specs.Claims.{conflicts, is_satisfied, is_upgrade}
use Rattle.rmodel.specs.Holds.{held_by, is_nothing}
use Rattle.rmodel.specs.State.{LockState, opening}
use Rattle.rmodel.specs.Steps.{Comes, next, after, AreAccepted}
use Rattle.rmodel.specs.WellFormed.{Among, EachPair, Distinct}
use Rattle.rmodel.proofs.ListFacts.{contrary, all_from, none_among}
use Rattle.rmodel.proofs.reaching.Histories.{accepted_push, after_append}
use Rattle.rmodel.proofs.reaching.Soundness.{read_of_half}
use Rattle.rmodel.proofs.settling.Keeping.{not_false}
use Rattle.rmodel.proofs.settling.OneSettlement.{both_cases}
use Rattle.rbound.specs.declared.which.Which.{Which}
use Rattle.rbound.specs.declared.which.Which.TheVariants.{First, Rise}
use Rattle.rcover_laws.specs.Ended.{waits_in}
use Rattle.rcover_laws.specs.Lists.{AreAtMost}
use Rattle.rcover_laws.specs.Moments.{Moment, moments, holds_at}
use Rattle.rcover_laws.specs.Sections.{Sections}
use Rattle.rcover_laws.specs.Told.{is_rising_half, waits_first, has_read_claim, waits_to_rise, stands}
use Rattle.rcover_laws.proofs.runs.Push.{moments_push}
use Rattle.rcover.specs.Kept.{may_wait, WaitApart, kept_of}
use Rattle.rcover_laws.specs.Line.{least_of}
use Rattle.rcover.specs.Last.{first_at}
use Rattle.rcover.specs.Shown.{write_closed}
use Rattle.rcover.specs.Tracked.{no_sections, keeper_at, read_closed_if, IsTracked, AreTracked, IsKept, gone_on, kept_by}
use Rattle.rcover.proofs.over.Tracking.{kept_right, kept_at_most, is_ask}

-- ---- a claim waits in one way, and at most one claim of a seat waits

not_first : (n : Moment) (x : Claimed) → is_rising_half x.claim ≡ true → waits_first n x ≡ false
not_first n x rising = ap (λ b. is_nothing (held_by x) && not b) rising ∙ and_false (is_nothing (held_by x))
  where
    and_false : (b : Bool) → (b && false) ≡ false
    and_false true = refl
    and_false false = refl

rising : (n : Moment) (x : Claimed) → waits_to_rise n x ≡ true → (is_rising_half x.claim ≡ true) × (has_read_claim n x.claim ≡ false)
rising n x on =
    let parts = and_parts (is_rising_half x.claim && not (has_read_claim n x.claim)) (not (is_satisfied x)) on in
    let first = and_parts (is_rising_half x.claim) (not (has_read_claim n x.claim)) parts.0 in
    (first.0, not_false (has_read_claim n x.claim) first.1)

pub rise_not_first : (n : Moment) (x : Claimed) → waits_to_rise n x ≡ true → waits_first n x ≡ false
rise_not_first n x on = not_first n x (rising n x on).0

-- two claims of a seat are the halves of an upgrade, of which the second waits only once the first is gone
halves_apart : (n : Moment) (x y : Claimed) → Among x n → Distinct x y → WaitApart n x y
halves_apart n x y there distinct on_x on_y same =
    let two = distinct same in
    let half = and_from (is_upgrade y.claim.kind) y.claim.write_half two.upgrade two.writes in
    elim (or_cases (waits_first n y) (waits_to_rise n y) on_y) [
      | inl first ↦ contrary (waits_first n y) first (not_first n y half)
      | inr rise ↦
          contrary ((x.claim.seat == y.claim.seat) && not x.claim.write_half)
          (and_from (x.claim.seat == y.claim.seat) (not x.claim.write_half) (eq-eqb x.claim.seat y.claim.seat same) (ap not (read_of_half x.claim two.reads)))
          (none_among (λ z. (z.claim.seat == y.claim.seat) && not z.claim.write_half) n x (rising n y rise).1 there)
    ]

pub waits_apart : (n xs : Moment) → ((x : Claimed) → Among x xs → Among x n) → EachPair Distinct xs → EachPair (WaitApart n) xs
waits_apart n [] within pairs = tt
waits_apart n (x ∷ xs) within pairs = (each xs pairs.0, waits_apart n xs (λ y there. within y (inr there)) pairs.1)
  where
    each : (ys : Moment) → AllByRecursion (Distinct x) ys → AllByRecursion (WaitApart n x) ys
    each [] all = tt
    each (y ∷ ys) all = (halves_apart n x y (within x (inl refl)) all.0, each ys all.1)

-- what is kept of each claim that waits is what is due
pub kept_each : (m n : Moment) (table table' : ℕ → Sections) (x : Claimed) → (may_wait n x ≡ true → table' x.claim.seat ≡ kept_of m n (table x.claim.seat) x) → IsKept m n table table' x
kept_each m n table table' x is =
    let a = table x.claim.seat in
    let at = λ (b : Bool). cond b (kept_by waits_first x.claim a m n) (kept_by waits_to_rise x.claim a m n) in
    record {
      first = λ on. is (ap (λ b. b || waits_to_rise n x) on) ∙ ap at on;
      rise = λ on. let off = rise_not_first n x on in is ((λ i. off i || on i)) ∙ ap at off;
    }

-- ---- what is kept has its room

read_few : (o : Option Claim) (a : Sections) (m n : Moment) → AreAtMost SEATS a → AreAtMost SEATS (read_closed_if o a m n)
read_few None a m n few = few
read_few (Some v) a m n few = record { reads = at (holds_at v n) (holds_at v m) (first_at (λ d. conflicts d v) m); writes = few.writes }
  where
    one : (o : Option Claim) → length (option_to_list o) ≤ SEATS
    one None = omega arith
    one (Some d) = omega arith

    at : (b d : Bool) (o : Option Claim) → length (cond b (cond d a.reads (option_to_list o)) a.reads) ≤ SEATS
    at true true o = few.reads
    at true false o = one o
    at false d o = few.reads

none_few : AreAtMost SEATS no_sections
none_few = record { reads = omega arith; writes = omega arith }

by_cases : (b d e : Bool) (g : Sections) → AreAtMost SEATS g → AreAtMost SEATS (cond b (cond d g no_sections) (cond e g no_sections))
by_cases true true e g few = few
by_cases true false e g few = none_few
by_cases false d true g few = few
by_cases false d false g few = none_few

read_kept_few : (m n : Moment) (a : Sections) (x : Claimed) → x.claim.write_half ≡ false → AreAtMost SEATS a → AreAtMost SEATS (kept_of m n a x)
read_kept_few m n a x read few =
    by_cases (waits_first n x) (stands waits_first x.claim m) (stands waits_to_rise x.claim m) (gone_on x.claim a m n)
    (subst (λ b. AreAtMost SEATS (cond b (write_closed (least_of x.claim m) a m (least_of x.claim n) n) (read_closed_if (keeper_at x.claim m) a m n))) (sym read) (read_few (keeper_at x.claim m) a m n few))

module _ (groups : ReadGroups) (seats cap : ℕ) (es : List Event) (accepted : AreAccepted (opening groups seats cap) es) (some : 1 ≤ cap) (small : cap ≤ SEATS) (event : Event)
    (comes : Comes (after (opening groups seats cap) es) event) (table : ℕ → Sections) (tracked : AreTracked (moments (opening groups seats cap) es) (after (opening groups seats cap) es).claims table) where
  abbrev o : LockState
  o = opening groups seats cap

  abbrev m : Moment
  m = (after o es).claims

  abbrev n : Moment
  n = (next (after o es) event).claims

  at_next : after o (es ++ event ∷ []) ≡ next (after o es) event
  at_next = after_append o es (event ∷ [])

  write_kept_few : (x : Claimed) → Among x n → x.claim.write_half ≡ true → (w : Which) → waits_in w n x ≡ true → is_ask w ≡ false → may_wait n x ≡ true → AreAtMost cap (kept_of m n (table x.claim.seat) x)
  write_kept_few x there write w on plain waits =
      let a = kept_of m n (table x.claim.seat) x in
      let right = kept_right groups seats cap es accepted event comes table (λ _. a) tracked x there (kept_each m n table (λ _. a) x (λ _. refl)) in
      kept_at_most groups seats cap (es ++ event ∷ []) (accepted_push o es event accepted comes) some a x
      (subst (λ (t : LockState). Among x t.claims) (sym at_next) there)
      (subst (λ (p : List Moment × Moment). IsTracked p.0 p.1 a x) (λ i. (sym (moments_push o es event) i, ap (λ (t : LockState). t.claims) (sym at_next) i)) right)
      write w (subst (λ (t : LockState). waits_in w t.claims x ≡ true) (sym at_next) on) plain

  above : (a : Sections) → AreAtMost cap a → AreAtMost SEATS a
  above a few = let r = few.reads in let w = few.writes in record { reads = omega arith; writes = omega arith }

  pub next_few : ((seat : ℕ) → AreAtMost SEATS (table seat)) → (x : Claimed) → Among x n → may_wait n x ≡ true → AreAtMost SEATS (kept_of m n (table x.claim.seat) x)
  next_few few x there waits =
      both_cases x.claim.write_half
      (λ write.
      elim (or_cases (waits_first n x) (waits_to_rise n x) waits) [
        | inl first ↦ above (kept_of m n (table x.claim.seat) x) (write_kept_few x there write First first refl waits)
        | inr rise ↦ above (kept_of m n (table x.claim.seat) x) (write_kept_few x there write Rise rise refl waits)
      ])
      (λ read. read_kept_few m n (table x.claim.seat) x read (few x.claim.seat))

  pub all_next_few : ((seat : ℕ) → AreAtMost SEATS (table seat)) → AllByRecursion (λ x. may_wait n x ≡ true → AreAtMost SEATS (kept_of m n (table x.claim.seat) x)) n
  all_next_few few = all_from (λ x. may_wait n x ≡ true → AreAtMost SEATS (kept_of m n (table x.claim.seat) x)) n (next_few few)
