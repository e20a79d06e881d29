use Rattle.std.proofs.Common.{◌≡◌, ℕ, ◌<◌, ◌==◌, false, List, ◌∷◌, ◌++◌, ◌≤◌, length, take, sym, ap, subst, ◌∙◌, arith}
use Rattle.std.specs.List.{list_any, AllByRecursion}
use Rattle.std.specs.Vec.{with_items}
use Rattle.rset.specs.declared.TheConstants.{SEATS}
use Rattle.rclaim.specs.Events.{seat_of}
use Rattle.rmodel.specs.State.{LockState}
use Rattle.rmodel.specs.Steps.{next}
use Rattle.rcover_laws.specs.History.{length_in}
use Rattle.rcover_laws.specs.Moments.{Moment}
use Rattle.rcover.specs.declared.following.Following.{Following}
use Rattle.rcover.specs.declared.run.Run.{Run}
use Rattle.rcover.specs.Follow.{table_of, with_entry}
use Rattle.rcover.specs.Kept.{HasRoom, AreLong}
use Rattle.rcover.specs.Past.{state_of}
use Rattle.rcover.specs.Heads.{IsMoment, TellsNow, TellsWrites}
use Rattle.rcover.specs.NotedSeats.{HoldAsking, HoldWaiting, TellRising, HoldReading}
use Rattle.rcover.specs.Waiting.{with_seat, first_of}
use Rattle.rcover.proofs.ending.Quiet.{there_before}
use Rattle.rset.specs.Sets.{Set}
use Rattle.rcover.specs.Tracked.{no_sections}
use Rattle.rcover.proofs.told.Knowing.{reached, event_seat, is_moment_next, refilled, known}
use Rattle.rcover.proofs.told.Noted.{asks_at_most}
use Rattle.rcover.proofs.told.Asking.{asking_next}
use Rattle.rcover.proofs.told.Reading.{reading_next, wanted_next}
use Rattle.rcover.proofs.told.Rising.{risen_next}
use Rattle.rcover.proofs.told.Waiting.{calm_all, calm_none, none_before, waiting_next}
use Rattle.rcover.proofs.following.Following.go_on.Goals as goal

pub clear_run-requires-clause-seat : goal.clear_run-requires-clause-seat
clear_run-requires-clause-seat c =
    let p = c.requires.ahead.0 in
    let k = c.requires.ahead.1.follows in
    subst (λ (z : ℕ × List Run). z.0 < length z.1) (λ i. (sym c.seat.ensures i, sym c.deref_mut.ensures.value i))
    (subst (λ l. seat_of c.args.event.now < l) (sym k.room.seats) (event_seat c.args.self.now p k c.args.event.now c.requires.ahead.1.comes))

pub note_lengths-requires : goal.note_lengths-requires
note_lengths-requires c =
    subst (λ l. seat_of c.args.event.now < l) (sym c.requires.ahead.1.follows.room.lengths) (event_seat c.args.self.now c.requires.ahead.0 c.requires.ahead.1.follows c.args.event.now c.requires.ahead.1.comes)

pub note_ask-requires-clause-seat : goal.note_ask-requires-clause-seat
note_ask-requires-clause-seat c =
    subst (λ l. seat_of c.args.event.now < l) (sym c.requires.ahead.1.follows.room.asks) (event_seat c.args.self.now c.requires.ahead.0 c.requires.ahead.1.follows c.args.event.now c.requires.ahead.1.comes)

pub note_wanted-requires : goal.note_wanted-requires
note_wanted-requires c =
    subst (λ l. seat_of c.args.event.now < l) (sym c.requires.ahead.1.follows.room.wanted) (event_seat c.args.self.now c.requires.ahead.0 c.requires.ahead.1.follows c.args.event.now c.requires.ahead.1.comes)

pub note_ask-requires-clause-few : goal.note_ask-requires-clause-few
note_ask-requires-clause-few c =
    let p = c.requires.ahead.0 in
    let k = c.requires.ahead.1.follows in
    let seat = seat_of c.args.event.now in
    let is = k.asks seat (event_seat c.args.self.now p k c.args.event.now c.requires.ahead.1.comes) in
    let few = asks_at_most seat p.events in
    let most = c.requires.ahead.2 in
    omega arith

pub returns : goal.returns
returns c = λ p g.
    let k = g.follows in
    let comes = g.comes in
    let a = c.args.self.now in
    let e = c.args.event.now in
    let es = p.events in
    let table = table_of a.runs.items in
    let runs = c.clear_run.new.runs in
    let same : length runs ≡ length a.runs.items = c.clear_run.ensures.len ∙ ap (λ (rs : List Run). length rs) c.deref_mut.ensures.value in
    let kept_runs : (with_items a.runs runs).items ≡ runs = refilled a.runs runs same in
    let b : Following = record { waiting = c.note_seat.new.waiting; rising = c.note_event.new.rising; asking = c.note_event.new.asking; reading = c.note_event.new.reading; wanted = c.note_wanted.new.wanted; last = a.last; there = a.there; runs = with_items a.runs runs; lengths = c.note_lengths.new.lengths; asks = c.note_ask.new.asks; heads = c.pass.new.self; places = a.places; scratch = a.scratch; ended = c.clear.new.self } in
    let cleared : (other : ℕ) → table_of b.runs.items other ≡ with_entry table (seat_of e) no_sections other
    = λ other.
    ap (λ (rs : List Run). table_of rs other) kept_runs ∙ c.clear_run.ensures.kept other
    ∙ (λ i. with_entry (table_of (c.deref_mut.ensures.value i)) (c.seat.ensures i) no_sections other) in
    known a p k e comes b
    (record {
      last = k.room.last;
      seats = ap (λ (rs : List Run). length rs) kept_runs ∙ same ∙ k.room.seats;
      runs_room = k.room.runs_room;
      runs = subst (AllByRecursion HasRoom) (sym kept_runs) c.clear_run.ensures.room;
      scratch = k.room.scratch;
      ended = c.clear.ensures.capacity ∙ k.room.ended;
      lengths = c.note_lengths.ensures.len ∙ k.room.lengths;
      asks = c.note_ask.ensures.len ∙ k.room.asks;
      heads = c.pass.ensures.room;
      places = k.room.places;
      wanted = c.note_wanted.ensures.len ∙ k.room.wanted;
    })
    (calm_all (state_of p) e (reached a p k) comes a.waiting k.waiting c.requires.calm table (table_of b.runs.items) cleared)
    (λ rest.
    subst (AllByRecursion (AreLong (length_in (es ++ e ∷ rest)))) (sym kept_runs)
    (c.clear_run.ensures.lengths (length_in (es ++ e ∷ rest)) (subst (λ (rs : List Run). AllByRecursion (AreLong (length_in (es ++ e ∷ rest))) rs) (sym c.deref_mut.ensures.value) (k.long (e ∷ rest)))))
    c.note_lengths.ensures.value
    (λ seat h. c.note_ask.ensures.value seat (subst (λ l. seat < l) (sym k.room.asks) h))
    (subst (λ (w : Set). HoldWaiting w (next (state_of p) e).claims)
    (sym (c.note_seat.ensures ∙ (λ i. with_seat a.waiting ((c.claims-2.ensures ∙ ap (λ (t : LockState). t.claims) g.state) i) (c.seat-2.ensures i))))
    (waiting_next (state_of p) e (reached a p k) comes a.waiting k.waiting))
    (subst (λ (w : Set). TellRising w (next (state_of p) e).claims) (sym c.note_event.ensures.rising) (risen_next (state_of p) e (reached a p k) comes a.rising k.rising))
    (subst (λ (w : Set). HoldAsking w (next (state_of p) e).claims) (sym c.note_event.ensures.asking) (asking_next (state_of p) e (reached a p k) comes a.asking k.asking))
    (subst (λ (w : Set). HoldReading w (next (state_of p) e).claims) (sym c.note_event.ensures.reading) (reading_next (state_of p) e (reached a p k) comes a.reading k.reading))
    (wanted_next (state_of p) e (reached a p k) comes a.wanted c.note_wanted.new.wanted c.note_wanted.ensures.value k.wanted)
    (subst (TellsNow c.pass.new.self) (c.claims-3.ensures ∙ ap (λ (t : LockState). t.claims) g.state) c.pass.ensures.told)
    (subst (TellsWrites c.pass.new.self) (c.claims-3.ensures ∙ ap (λ (t : LockState). t.claims) g.state) c.pass.ensures.writes)
    (c.clear.ensures.items ∙ sym (calm_none (state_of p) e (reached a p k) comes a.waiting k.waiting c.requires.calm es table))

pub note_seat-requires-clause-low : goal.note_seat-requires-clause-low
note_seat-requires-clause-low c = subst (λ l. l < SEATS) (sym c.seat-2.ensures) (event_seat c.args.self.now c.requires.ahead.0 c.requires.ahead.1.follows c.args.event.now c.requires.ahead.1.comes)

pub note_seat-requires-clause-first : goal.note_seat-requires-clause-first
note_seat-requires-clause-first c =
    let g = c.requires.ahead.1 in
    let p = c.requires.ahead.0 in
    let e = c.args.event.now in
    let is : c.first_of-first.result ≡ first_of e c.args.self.now.there (length c.claims-2.result.now) = c.first_of-first.ensures ∙ ap (λ (l : Moment). first_of e c.args.self.now.there (length l)) (c.claims.ensures ∙ sym c.claims-2.ensures) in
    subst (λ k. k ≤ length c.claims-2.result.now) (sym is)
    (subst (λ (n : Moment). first_of e c.args.self.now.there (length n) ≤ length n) (sym (c.claims-2.ensures ∙ ap (λ (t : LockState). t.claims) g.state))
    (none_before (state_of p) e (reached c.args.self.now p g.follows) g.comes c.args.self.now.there g.there).0)

pub note_seat-requires-clause-none : goal.note_seat-requires-clause-none
note_seat-requires-clause-none c =
    let g = c.requires.ahead.1 in
    let p = c.requires.ahead.0 in
    let e = c.args.event.now in
    let is : c.first_of-first.result ≡ first_of e c.args.self.now.there (length c.claims-2.result.now) = c.first_of-first.ensures ∙ ap (λ (l : Moment). first_of e c.args.self.now.there (length l)) (c.claims.ensures ∙ sym c.claims-2.ensures) in
    subst (λ (z : ℕ × ℕ). list_any (λ x. x.claim.seat == z.0) (take z.1 c.claims-2.result.now) ≡ false) (λ i. (sym c.seat-2.ensures i, sym is i))
    (subst (λ (n : Moment). list_any (λ x. x.claim.seat == seat_of e) (take (first_of e c.args.self.now.there (length n)) n) ≡ false) (sym (c.claims-2.ensures ∙ ap (λ (t : LockState). t.claims) g.state))
    (none_before (state_of p) e (reached c.args.self.now p g.follows) g.comes c.args.self.now.there g.there).1)

pub pass-requires-clause-moment : goal.pass-requires-clause-moment
pass-requires-clause-moment c =
    let p = c.requires.ahead.0 in
    let k = c.requires.ahead.1.follows in
    subst IsMoment (sym (c.claims-3.ensures ∙ ap (λ (s : LockState). s.claims) c.requires.ahead.1.state)) (is_moment_next c.args.self.now p k c.args.event.now c.requires.ahead.1.comes)

pub pass-requires-clause-room : goal.pass-requires-clause-room
pass-requires-clause-room c = c.requires.ahead.1.follows.room.heads

pub pass-requires-clause-told : goal.pass-requires-clause-told
pass-requires-clause-told c = λ brought.
    let p = c.requires.ahead.0 in
    let g = c.requires.ahead.1 in
    let k = g.follows in
    let e = c.args.event.now in
    let was = there_before (state_of p) e (reached c.args.self.now p k) g.comes (sym c.is_issue.ensures ∙ brought) in
    let at_n = c.claims-3.ensures ∙ ap (λ (s : LockState). s.claims) g.state in (
      subst (λ (z : ℕ × Moment). z.0 ≤ length z.1) (λ i. (sym g.there i, sym at_n i)) was.1,
      subst (TellsNow c.args.self.now.heads) (sym ((λ i. take (g.there i) (at_n i)) ∙ was.0)) k.heads,
    )

pub pass-requires-clause-writes : goal.pass-requires-clause-writes
pass-requires-clause-writes c = λ brought.
    let p = c.requires.ahead.0 in
    let g = c.requires.ahead.1 in
    let k = g.follows in
    let was = there_before (state_of p) c.args.event.now (reached c.args.self.now p k) g.comes (sym c.is_issue.ensures ∙ brought) in
    let at_n = c.claims-3.ensures ∙ ap (λ (s : LockState). s.claims) g.state in
    subst (TellsWrites c.args.self.now.heads) (sym ((λ i. take (g.there i) (at_n i)) ∙ was.0)) k.writes

pub note_event-requires : goal.note_event-requires
note_event-requires c = event_seat c.args.self.now c.requires.ahead.0 c.requires.ahead.1.follows c.args.event.now c.requires.ahead.1.comes

pub note_seat-requires-clause-rising : goal.note_seat-requires-clause-rising
note_seat-requires-clause-rising c =
    let p = c.requires.ahead.0 in
    let g = c.requires.ahead.1 in
    let a = c.args.self.now in
    subst (λ (z : Set × Moment). TellRising z.0 z.1) (λ i. (sym c.note_event.ensures.rising i, sym (c.claims-2.ensures ∙ ap (λ (t : LockState). t.claims) g.state) i))
    (risen_next (state_of p) c.args.event.now (reached a p g.follows) g.comes a.rising g.follows.rising)
