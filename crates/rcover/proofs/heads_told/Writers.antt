-- The seats that have a write, the write that an event takes away, and what is written by those that are reported to be satisfied.
use Rattle.std.proofs.Common.{◌≡◌, ◌==◌, ℕ, Bool, true, false, not, ◌&&◌, Some, List, refl, sym, ap, ◌∙◌}
use Rattle.std.proofs.lemmas.Bool.{and_parts, and_from, eqb-true}
use Rattle.std.specs.FinSet.{contains, is_subset, remove}
use Rattle.std.specs.Prelude.{slice_get}
use Rattle.rset.specs.Sets.{Set}
use Rattle.rset.proofs.SetMembers.{contains_remove}
use Rattle.rset.proofs.SetsWithin.{within_from}
use Rattle.rclaim.specs.Events.{seat_of}
use Rattle.rclaim.specs.declared.changes.StatusChange.{StatusChange}
use Rattle.rclaim.specs.declared.event.Event.{Event}
use Rattle.rclaim.specs.declared.event.Event.TheVariants.{Issue, Finish}
use Rattle.rclaim.specs.declared.event.Event.TheVariants as event
use Rattle.rcover_laws.specs.Moments.{Moment}
use Rattle.rmodel.specs.declared.claimed.Claimed.{Claimed}
use Rattle.rmodel.specs.Claims.{satisfied_by}
use Rattle.rmodel.specs.WellFormed.{Among}
use Rattle.rmodel.proofs.ListFacts.{contrary, false_from, any_among, passing}
use Rattle.rmodel.proofs.settling.OneSettlement.{both_cases}
use Rattle.rcover.specs.declared.shares.Share.{Share}
use Rattle.rcover.specs.Lines.{is_taken, takes_seat, tells_write_of}
use Rattle.rcover.specs.Shares.{is_write_of, is_written, takes_write, writes_if, HaveWrites, AreLeft}
use Rattle.rcover.proofs.SeatFacts.{and_true, eq_turned}

true_and : (b : Bool) → (true && b) ≡ b
true_and true = refl
true_and false = refl

-- the write that an event takes away, if its seat has one
pub taken_at : (e : Event) (m : Moment) (writers : Set) → HaveWrites writers m → takes_write e writers ≡ true → (w : Claimed) × Among w m × (is_taken e w ≡ true)
taken_at (Issue t r) m writers have on = contrary true refl (sym (and_parts false (contains writers t) on).0)
taken_at (Finish t) m writers have on =
    let w = passing (is_write_of t) m (sym (have t) ∙ (and_parts true (contains writers t) on).1) in
    let parts = and_parts (w.0.claim.seat == t) w.0.claim.write_half w.2 in
    (w.0, w.1, and_from (t == w.0.claim.seat) w.0.claim.write_half (eq_turned t w.0.claim.seat ∙ parts.0) parts.1)
taken_at (event.Rise t) m writers have on = contrary true refl (sym (and_parts false (contains writers t) on).0)
taken_at (event.Ask t part) m writers have on = contrary true refl (sym (and_parts false (contains writers t) on).0)

-- no write goes if its seat has none
pub none_taken : (e : Event) (m : Moment) (writers : Set) → HaveWrites writers m → takes_write e writers ≡ false → (x : Claimed) → Among x m → x.claim.write_half ≡ true → takes_seat e x.claim.seat ≡ false
none_taken (Issue t r) m writers have off x there write = refl
none_taken (Finish t) m writers have off x there write =
    false_from (t == x.claim.seat) (λ same.
    contrary (contains writers t)
    (have t ∙ any_among (is_write_of t) m x there (and_from (x.claim.seat == t) x.claim.write_half (eq_turned x.claim.seat t ∙ same) write)) (sym (true_and (contains writers t)) ∙ off))
none_taken (event.Rise t) m writers have off x there write = refl
none_taken (event.Ask t part) m writers have off x there write = refl

and_turned : (a b : Bool) → (a && b) ≡ (b && a)
and_turned true true = refl
and_turned true false = refl
and_turned false true = refl
and_turned false false = refl

-- if it takes no write away, all seats that have a write are left
pub left_all : (e : Event) (writers : Set) → takes_write e writers ≡ false → AreLeft e writers writers
left_all (Issue t r) writers off seat = sym (and_true (contains writers seat))
left_all (Finish t) writers off seat =
    both_cases (t == seat)
    (λ same.
    let none : contains writers seat ≡ false = ap (contains writers) (sym (eqb-true t seat same)) ∙ sym (true_and (contains writers t)) ∙ off in
    none ∙ sym ((λ i. none i && not (t == seat)) ∙ false_and (not (t == seat))))
    (λ other. sym (ap (λ b. contains writers seat && not b) other ∙ and_true (contains writers seat)))
  where
    false_and : (b : Bool) → (false && b) ≡ false
    false_and true = refl
    false_and false = refl
left_all (event.Rise t) writers off seat = sym (and_true (contains writers seat))
left_all (event.Ask t part) writers off seat = sym (and_true (contains writers seat))

-- and if it takes one away, all but its seat
pub left_but : (e : Event) (writers : Set) → takes_write e writers ≡ true → AreLeft e writers (remove writers (seat_of e))
left_but (Issue t r) writers on = contrary true refl (sym (and_parts false (contains writers t) on).0)
left_but (Finish t) writers on = λ seat.
    contains_remove writers t seat
    ∙ and_turned (not (seat == t)) (contains writers seat)
    ∙ ap (λ b. contains writers seat && not b) (eq_turned seat t)
left_but (event.Rise t) writers on = contrary true refl (sym (and_parts false (contains writers t) on).0)
left_but (event.Ask t part) writers on = contrary true refl (sym (and_parts false (contains writers t) on).0)

-- what the write of a seat writes is among all that is written, if it is reported to be satisfied
pub told_written : (ss : List Share) (cs : List StatusChange) (written : Set) → ((l : ℕ) → contains written l ≡ is_written ss cs l) → (seat : ℕ) (share : Share) → tells_write_of cs seat ≡ true → slice_get ss seat ≡ Some share → is_subset share.writes written ≡ true
told_written ss cs written is seat share told kept =
    within_from share.writes written (λ l has.
    let w = passing (λ c. (c.seat == seat) && (c.write_half && satisfied_by c.status)) cs told in
    let parts = and_parts (w.0.seat == seat) (w.0.write_half && satisfied_by w.0.status) w.2 in
    is l
    ∙ any_among (λ c. (c.write_half && satisfied_by c.status) && contains (writes_if (slice_get ss c.seat)) l) cs w.0 w.1
    (and_from (w.0.write_half && satisfied_by w.0.status) (contains (writes_if (slice_get ss w.0.seat)) l) parts.1
    (ap (λ o. contains (writes_if o) l) (ap (slice_get ss) (eqb-true w.0.seat seat parts.0) ∙ kept) ∙ has)))
