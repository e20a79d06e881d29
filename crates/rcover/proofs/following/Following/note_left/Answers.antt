use Rattle.std.proofs.Common.{◌≡◌, ℕ, ◌<◌, ◌≤◌, ◌==◌, false, not, ◌&&◌, length, take, sym, ap, subst, ◌∙◌, arith}
use Rattle.std.specs.List.{list_any}
use Rattle.std.specs.FinSet.{contains}
use Rattle.std.specs.Prelude.{slice_index}
use Rattle.rset.specs.declared.TheConstants.{SEATS}
use Rattle.rset.specs.Sets.{Set}
use Rattle.rclaim.specs.Events.{seat_of}
use Rattle.rclaim.specs.declared.event.Event.{Event}
use Rattle.rmodel.specs.State.{LockState}
use Rattle.rmodel.specs.Steps.{next}
use Rattle.rcover_laws.specs.History.{count_ask}
use Rattle.rcover_laws.specs.Moments.{Moment}
use Rattle.rcover.specs.Kept.{length_by}
use Rattle.rcover.proofs.over.Tracking.{told_are_ended}
use Rattle.rplain.specs.Machine.{Standing}
use Rattle.rcover.specs.declared.following.Following.{Following}
use Rattle.rcover.specs.Follow.{table_of}
use Rattle.rcover.specs.Past.{Past, state_of, noted}
use Rattle.rcover.specs.Stages.{HasTold}
use Rattle.rcover.specs.NotedSeats.{HoldAsking, HoldReading, TellRising}
use Rattle.rcover.specs.Waiting.{asked_by, first_of, has_end, reading_by, risen_by}
use Rattle.rcover.proofs.told.Knowing.{reached, event_seat, waits_next}
use Rattle.rcover.proofs.told.Asking.{asking_next}
use Rattle.rcover.proofs.told.Noted.{asks_at_most}
use Rattle.rcover.proofs.told.Reading.{reading_next}
use Rattle.rcover.proofs.told.Rising.{risen_next}
use Rattle.rcover.proofs.told.Waiting.{none_before, plain_of}
use Rattle.rcover.proofs.following.Following.note_left.Goals as goal

-- the seat of the event
low : (a b : Following) (machine : Standing) (p : Past) (e : Event) → HasTold a b machine p e → seat_of e < SEATS
low a b machine p e t = event_seat a p t.ahead.follows e t.ahead.comes

-- the number of claims before it
there : (a b : Following) (machine : Standing) (p : Past) (e : Event) → HasTold a b machine p e → b.there ≡ length (state_of p).claims
there a b machine p e t = ap (λ (z : Following). z.there) t.rest ∙ t.ahead.there

-- which upgrades rose, after it
rising_left : (a b : Following) (machine : Standing) (p : Past) (e : Event) → HasTold a b machine p e → TellRising (risen_by b.rising e) (next (state_of p) e).claims
rising_left a b machine p e t =
    let g = t.ahead in
    subst (λ (z : Following). TellRising (risen_by z.rising e) (next (state_of p) e).claims) (sym t.rest) (risen_next (state_of p) e (reached a p g.follows) g.comes a.rising g.follows.rising)

pub note_lengths-requires : goal.note_lengths-requires
note_lengths-requires c =
    let t = c.requires.2 in
    subst (λ l. seat_of c.args.event.now < l) (sym t.room.lengths) (low c.requires.0 c.args.self.now c.args.machine.now c.requires.1 c.args.event.now t)

pub note_ask-requires-clause-seat : goal.note_ask-requires-clause-seat
note_ask-requires-clause-seat c =
    let t = c.requires.2 in
    subst (λ l. seat_of c.args.event.now < l) (sym t.room.asks) (low c.requires.0 c.args.self.now c.args.machine.now c.requires.1 c.args.event.now t)

pub note_ask-requires-clause-few : goal.note_ask-requires-clause-few
note_ask-requires-clause-few c =
    let p = c.requires.1 in
    let t = c.requires.2 in
    let seat = seat_of c.args.event.now in
    let is = ap (λ (z : Following). slice_index z.asks seat) t.rest ∙ t.ahead.follows.asks seat (low c.requires.0 c.args.self.now c.args.machine.now p c.args.event.now t) in
    let few = asks_at_most seat p.events in
    let most = c.requires.3 in
    omega arith

pub note_event-requires : goal.note_event-requires
note_event-requires c = low c.requires.0 c.args.self.now c.args.machine.now c.requires.1 c.args.event.now c.requires.2

pub note_seat-requires-clause-low : goal.note_seat-requires-clause-low
note_seat-requires-clause-low c = subst (λ l. l < SEATS) (sym c.seat.ensures) (low c.requires.0 c.args.self.now c.args.machine.now c.requires.1 c.args.event.now c.requires.2)

pub note_seat-requires-clause-rising : goal.note_seat-requires-clause-rising
note_seat-requires-clause-rising c =
    let t = c.requires.2 in
    subst (λ (z : Set × Moment). TellRising z.0 z.1) (λ i. (sym c.note_event.ensures.rising i, sym (c.claims-2.ensures ∙ ap (λ (s : LockState). s.claims) t.ahead.state) i))
    (rising_left c.requires.0 c.args.self.now c.args.machine.now c.requires.1 c.args.event.now t)

pub note_seat-requires-clause-first : goal.note_seat-requires-clause-first
note_seat-requires-clause-first c =
    let p = c.requires.1 in
    let t = c.requires.2 in
    let e = c.args.event.now in
    let is : c.first_of-first.result ≡ first_of e c.args.self.now.there (length c.claims-2.result.now) = c.first_of-first.ensures ∙ ap (λ (l : Moment). first_of e c.args.self.now.there (length l)) (c.claims.ensures ∙ sym c.claims-2.ensures) in
    subst (λ k. k ≤ length c.claims-2.result.now) (sym is)
    (subst (λ (n : Moment). first_of e c.args.self.now.there (length n) ≤ length n) (sym (c.claims-2.ensures ∙ ap (λ (s : LockState). s.claims) t.ahead.state))
    (none_before (state_of p) e (reached c.requires.0 p t.ahead.follows) t.ahead.comes c.args.self.now.there (there c.requires.0 c.args.self.now c.args.machine.now p e t)).0)

pub note_seat-requires-clause-none : goal.note_seat-requires-clause-none
note_seat-requires-clause-none c =
    let p = c.requires.1 in
    let t = c.requires.2 in
    let e = c.args.event.now in
    let is : c.first_of-first.result ≡ first_of e c.args.self.now.there (length c.claims-2.result.now) = c.first_of-first.ensures ∙ ap (λ (l : Moment). first_of e c.args.self.now.there (length l)) (c.claims.ensures ∙ sym c.claims-2.ensures) in
    subst (λ (z : ℕ × ℕ). list_any (λ x. x.claim.seat == z.0) (take z.1 c.claims-2.result.now) ≡ false) (λ i. (sym c.seat.ensures i, sym is i))
    (subst (λ (n : Moment). list_any (λ x. x.claim.seat == seat_of e) (take (first_of e c.args.self.now.there (length n)) n) ≡ false) (sym (c.claims-2.ensures ∙ ap (λ (s : LockState). s.claims) t.ahead.state))
    (none_before (state_of p) e (reached c.requires.0 p t.ahead.follows) t.ahead.comes c.args.self.now.there (there c.requires.0 c.args.self.now c.args.machine.now p e t)).1)

pub returns : goal.returns
returns c = λ a p t.
    let g = t.ahead in
    let k = g.follows in
    let b = c.args.self.now in
    let e = c.args.event.now in
    let is_n = c.claims-2.ensures ∙ ap (λ (s : LockState). s.claims) g.state in
    record {
      told = subst
          (λ (z : Following). HasTold a (record b { waiting = z.waiting; rising = z.rising; asking = z.asking; reading = z.reading; lengths = z.lengths; asks = z.asks }) c.args.machine.now p e)
          t.rest t;
      lengths = λ d. c.note_lengths.ensures.value d ∙ ap (λ (z : Following). noted e (length_by z.lengths) d) t.rest;
      asks = λ seat h. c.note_ask.ensures.value seat (subst (λ l. seat < l) (sym t.room.asks) h) ∙ ap (λ (z : Following). count_ask seat (slice_index z.asks seat) e) t.rest;
      waiting = waits_next a p k e g.comes (plain_of a.waiting e t.may_end) c.note_ended.new.waiting c.note_seat.new.waiting c.claims-2.result.now c.deref.result.now c.seat.result is_n c.seat.ensures
          (c.deref.ensures.value ∙ t.ended ∙ sym (told_are_ended p.groups p.seats p.cap p.events k.accepted (table_of a.runs.items) k.tracked e))
          (λ seat h. c.note_ended.ensures seat h ∙ ap (λ (z : Following). not (has_end c.deref.result.now seat) && contains z.waiting seat) t.rest) c.note_seat.ensures;
      rising = subst (λ (w : Set). TellRising w (next (state_of p) e).claims) (sym c.note_event.ensures.rising) (rising_left a b c.args.machine.now p e t);
      asking = subst (λ (w : Set). HoldAsking w (next (state_of p) e).claims) (sym (c.note_event.ensures.asking ∙ ap (λ (z : Following). asked_by z.asking e) t.rest))
          (asking_next (state_of p) e (reached a p k) g.comes a.asking k.asking);
      reading = subst (λ (w : Set). HoldReading w (next (state_of p) e).claims) (sym (c.note_event.ensures.reading ∙ ap (λ (z : Following). reading_by z.reading e) t.rest))
          (reading_next (state_of p) e (reached a p k) g.comes a.reading k.reading);
      room = record {
        last = t.room.last;
        seats = t.room.seats;
        runs_room = t.room.runs_room;
        runs = t.room.runs;
        scratch = t.room.scratch;
        ended = t.room.ended;
        lengths = c.note_lengths.ensures.len ∙ t.room.lengths;
        asks = c.note_ask.ensures.len ∙ t.room.asks;
        heads = t.room.heads;
        places = t.room.places;
        wanted = t.room.wanted;
      };
    }
