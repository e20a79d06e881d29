use Rattle.std.proofs.Common.{◌≡◌, ℕ, ◌<◌, true, List, length, refl, sym, ap, subst, ◌∙◌, arith}
use Rattle.std.specs.List.{AllByRecursion}
use Rattle.rset.specs.declared.TheConstants.{SEATS}
use Rattle.rclaim.specs.Changes.{ChangeLists}
use Rattle.rclaim.specs.declared.changes.GrantChange.{GrantChange}
use Rattle.rmodel.specs.Changes.{changes_between}
use Rattle.rmodel.specs.State.{LockState}
use Rattle.rmodel.specs.Steps.{next}
use Rattle.rmodel.specs.WellFormed.{EachPair, Rises}
use Rattle.rbound.specs.declared.which.Which.{Which}
use Rattle.rcover_laws.specs.Ended.{waits_in}
use Rattle.rcover_laws.specs.Lists.{AreAtMost}
use Rattle.rcover_laws.specs.Moments.{Moment}
use Rattle.rcover.specs.Tracked.{shown}
use Rattle.rcover.specs.declared.run.Run.{Run}
use Rattle.rcover.proofs.over.Tracking.{told_are_ended}
use Rattle.rcover.specs.declared.lines.Head.{Head}
use Rattle.rcover.specs.Heads.{IsMoment, TellsNow, TellsWrites}
use Rattle.rcover.specs.Lines.{IsTold, TellHeads}
use Rattle.rcover.specs.Shares.{TellWrites}
use Rattle.rcover.specs.Follow.{table_of}
use Rattle.rcover.specs.Past.{state_of}
use Rattle.rcover.specs.Quiet.{GoesOn, OneWaits}
use Rattle.rcover.specs.NotedSeats.{HoldAsking, HoldWaiting, TellRising}
use Rattle.rcover.proofs.ending.Later.{one_waits}
use Rattle.rcover.proofs.told.Knowing.{reached, claims_few, seats_now, shown_few, is_moment_now, rising_next, quiet_now, ends_next}
use Rattle.rcover.proofs.told.Waiting.{plain_of}
use Rattle.rcover.proofs.following.Following.tell_ended.Goals as goal

pub tell_now-requires-clause-moment : goal.tell_now-requires-clause-moment
tell_now-requires-clause-moment c =
    subst IsMoment (sym (c.deref.ensures.value ∙ c.requires.ahead.1.noted c.requires.other)) (is_moment_now c.args.self.now c.requires.ahead.0 c.requires.ahead.1.follows)

pub tell_now-requires-clause-room : goal.tell_now-requires-clause-room
tell_now-requires-clause-room c = c.requires.ahead.1.follows.room.heads

pub tell_now-requires-clause-told : goal.tell_now-requires-clause-told
tell_now-requires-clause-told c = subst (TellsNow c.args.self.now.heads) (sym (c.deref.ensures.value ∙ c.requires.ahead.1.noted c.requires.other)) c.requires.ahead.1.follows.heads

pub tell_now-requires-clause-writes : goal.tell_now-requires-clause-writes
tell_now-requires-clause-writes c =
    subst (TellsWrites c.args.self.now.heads) (sym (c.deref.ensures.value ∙ c.requires.ahead.1.noted c.requires.other)) c.requires.ahead.1.follows.writes

pub tell-requires-clause-low : goal.tell-requires-clause-low
tell-requires-clause-low c =
    subst (λ (m : Moment). AllByRecursion (λ x. x.claim.seat < SEATS) m) (sym (c.deref-5.ensures.value ∙ c.requires.ahead.1.noted c.requires.other)) (is_moment_now c.args.self.now c.requires.ahead.0 c.requires.ahead.1.follows).seats

pub tell-requires-clause-waiting : goal.tell-requires-clause-waiting
tell-requires-clause-waiting c =
    subst (λ (m : Moment). HoldWaiting c.args.self.now.waiting m) (sym (c.deref-5.ensures.value ∙ c.requires.ahead.1.noted c.requires.other)) c.requires.ahead.1.follows.waiting

pub tell-requires-clause-rising : goal.tell-requires-clause-rising
tell-requires-clause-rising c =
    subst (λ (m : Moment). TellRising c.args.self.now.rising m) (sym (c.deref-5.ensures.value ∙ c.requires.ahead.1.noted c.requires.other)) c.requires.ahead.1.follows.rising

pub tell-requires-clause-asking : goal.tell-requires-clause-asking
tell-requires-clause-asking c =
    subst (λ (m : Moment). HoldAsking c.args.self.now.asking m) (sym (c.deref-5.ensures.value ∙ c.requires.ahead.1.noted c.requires.other)) c.requires.ahead.1.follows.asking

pub tell-requires-clause-quiet : goal.tell-requires-clause-quiet
tell-requires-clause-quiet c =
    let p = c.requires.ahead.0 in
    let k = c.requires.ahead.1.follows in
    let e = c.args.event.now in
    let at_m = c.deref-5.ensures.value ∙ c.requires.ahead.1.noted c.requires.other in
    let at_n = c.claims.ensures ∙ ap (λ (s : LockState). s.claims) c.requires.ahead.1.state in
    let grants : c.deref-4.result.now ≡ (changes_between (state_of p) (next (state_of p) e)).grants
    = c.deref-4.ensures.value ∙ ap (λ (l : ChangeLists). l.grants) (c.behind-machine.view_is ∙ c.changes.ensures ∙ c.requires.ahead.1.changes) in
    subst (λ (z : ℕ × List GrantChange × Moment × Moment). AllByRecursion (GoesOn z.0 z.1 z.2 z.3) z.2) (λ i. (sym c.seat.ensures i, sym grants i, sym at_m i, sym at_n i))
    (quiet_now c.args.self.now p k e c.requires.ahead.1.comes (plain_of c.args.self.now.waiting c.args.event.now c.requires.other))

pub tell-requires-clause-apart : goal.tell-requires-clause-apart
tell-requires-clause-apart c =
    let p = c.requires.ahead.0 in
    let k = c.requires.ahead.1.follows in
    subst (λ (m : Moment). EachPair (OneWaits m) m) (sym (c.deref-5.ensures.value ∙ c.requires.ahead.1.noted c.requires.other)) (one_waits (state_of p) (reached c.args.self.now p k))

pub tell-requires-clause-next_rises : goal.tell-requires-clause-next_rises
tell-requires-clause-next_rises c =
    subst (EachPair Rises) (sym (c.claims.ensures ∙ ap (λ (s : LockState). s.claims) c.requires.ahead.1.state)) (rising_next c.args.self.now c.requires.ahead.0 c.requires.ahead.1.follows c.args.event.now c.requires.ahead.1.comes)

pub tell-requires-clause-room : goal.tell-requires-clause-room
tell-requires-clause-room c =
    let k = c.requires.ahead.1.follows in
    let few = claims_few c.args.self.now c.requires.ahead.0 k in
    let room = k.room.ended in
    let long = ap (λ (l : Moment). length l) (c.deref-5.ensures.value ∙ c.requires.ahead.1.noted c.requires.other) in
    omega arith

pub tell-requires-clause-scratch : goal.tell-requires-clause-scratch
tell-requires-clause-scratch c = c.requires.ahead.1.follows.room.scratch

pub tell-requires-clause-seats : goal.tell-requires-clause-seats
tell-requires-clause-seats c =
    let at_m = c.deref-5.ensures.value ∙ c.requires.ahead.1.noted c.requires.other in
    subst (λ (z : List Run × Moment). AllByRecursion (λ x. (x.claim.seat < length z.0) × (x.claim.seat < length c.args.self.now.asks)) z.1) (λ i. (sym c.deref-2.ensures.value i, sym at_m i))
    (seats_now c.args.self.now c.requires.ahead.0 c.requires.ahead.1.follows)

pub tell-requires-clause-head : goal.tell-requires-clause-head
tell-requires-clause-head c =
    let at_m = c.deref-5.ensures.value ∙ c.requires.ahead.1.noted c.requires.other in
    let long = ap (λ (l : List Head). length l) c.deref-3.ensures.value ∙ c.tell_now.ensures.room.now in
    subst (λ (z : ℕ × Moment). AllByRecursion (λ x. x.claim.seat < z.0) z.1) (λ i. (sym long i, sym at_m i)) (is_moment_now c.args.self.now c.requires.ahead.0 c.requires.ahead.1.follows).seats

pub tell-requires-clause-heads : goal.tell-requires-clause-heads
tell-requires-clause-heads c = subst (λ (z : List Head × Moment). TellHeads z.0 z.1) (λ i. (sym c.deref-3.ensures.value i, (c.deref.ensures.value ∙ sym c.deref-5.ensures.value) i)) c.tell_now.ensures.told.heads

pub tell-requires-clause-few : goal.tell-requires-clause-few
tell-requires-clause-few c =
    let at_m = c.deref-5.ensures.value ∙ c.requires.ahead.1.noted c.requires.other in
    subst (λ (z : List Run × Moment). AllByRecursion (λ x. (w : Which) → waits_in w z.1 x ≡ true → AreAtMost SEATS (shown w x (table_of z.0 x.claim.seat) z.1)) z.1)
    (λ i. (sym c.deref-2.ensures.value i, sym at_m i)) (shown_few c.args.self.now c.requires.ahead.0 c.requires.ahead.1.follows)

pub returns : goal.returns
returns c = λ p g.
    let k = g.follows in
    let a = c.args.self.now in
    let e = c.args.event.now in
    let at_m = c.deref.ensures.value ∙ g.noted c.requires.other in
    let ends = ends_next a p k e g.comes c.deref-5.result.now c.claims.result.now c.deref-2.result.now c.tell.new.ended.items (c.deref-5.ensures.value ∙ g.noted c.requires.other) (c.claims.ensures ∙ ap (λ (s : LockState). s.claims) g.state) c.deref-2.ensures.value c.tell.ensures.told in
    record {
      ahead = g;
      may_end = c.requires.other;
      rest = refl;
      ended = ends ∙ told_are_ended p.groups p.seats p.cap p.events k.accepted (table_of a.runs.items) k.tracked e;
      heads = subst (λ (m : Moment). IsTold c.tell_now.new.self.now.items c.tell_now.new.self.behind.items m) at_m c.tell_now.ensures.told;
      writes = subst (λ (m : Moment). TellWrites c.tell_now.new.self.writers c.tell_now.new.self.shares m) at_m c.tell_now.ensures.writes;
      room = record {
        last = k.room.last;
        seats = k.room.seats;
        runs_room = k.room.runs_room;
        runs = k.room.runs;
        scratch = c.tell.ensures.scratch;
        ended = c.tell.ensures.capacity ∙ k.room.ended;
        lengths = k.room.lengths;
        asks = k.room.asks;
        heads = c.tell_now.ensures.room;
        places = k.room.places;
        wanted = k.room.wanted;
      };
    }
