use Rattle.std.proofs.Common.{◌≡◌, ◌<◌, true, List, ◌∷◌, ◌++◌, length, refl, sym, ap, subst, ◌∙◌}
use Rattle.std.specs.List.{AllByRecursion}
use Rattle.std.specs.Prelude.{vec_capacity}
use Rattle.std.specs.Vec.{with_items}
use Rattle.std.specs.declared.vec.Vec.{Vec}
use Rattle.std.specs.declared.alloc.Global.{Global}
use Rattle.rset.specs.declared.TheConstants.{SEATS}
use Rattle.rset.specs.Sets.{Set}
use Rattle.rclaim.specs.Changes.{ChangeLists}
use Rattle.rclaim.specs.Events.{seat_of}
use Rattle.rclaim.specs.declared.event.Event.{Event}
use Rattle.rclaim.specs.declared.changes.StatusChange.{StatusChange}
use Rattle.rmodel.specs.State.{LockState}
use Rattle.rmodel.specs.Steps.{next}
use Rattle.rmodel.specs.WellFormed.{Distinct, EachPair, Rises}
use Rattle.rcover_laws.specs.History.{length_in}
use Rattle.rcover_laws.specs.Lists.{AreAtMost}
use Rattle.rcover_laws.specs.Moments.{Moment}
use Rattle.rplain.specs.Machine.{Standing}
use Rattle.rcover.specs.Kept.{length_by, HasRoom, AreLong, AreOf, may_wait, WaitApart, kept_of}
use Rattle.rcover.specs.declared.run.Run.{Run}
use Rattle.rcover.proofs.over.Tracking.{told_are_ended}
use Rattle.rcover.specs.declared.lines.Head.{Head}
use Rattle.rcover.specs.declared.shares.Share.{Share}
use Rattle.rcover.specs.Heads.{IsMoment}
use Rattle.rcover.specs.Lines.{ArePlaced, GoesBy, HoldBehind, IsTold, IsTouched, TellAt, TellHeads, HeadsTell}
use Rattle.rcover.specs.Shares.{AreLeft, TellWrites}
use Rattle.rcover.proofs.heads_told.Turns.{touched_all}
use Rattle.rcover.specs.declared.following.Following.{Following}
use Rattle.rcover.specs.Follow.{table_of}
use Rattle.rcover.specs.Past.{Past, state_of}
use Rattle.rcover.specs.Due.{StoodBy}
use Rattle.rcover.specs.Stages.{HasNoted}
use Rattle.rcover.specs.NotedSeats.{HoldReading, HoldWaiting, TellRising, TellWanted}
use Rattle.rcover.proofs.told.Knowing.{all_written, reached, event_seat, seats_next, apart_next, few_next, lengths_stay_on, lengths_come, refilled, is_moment_now, is_moment_next, known, rising_now, seats_next_at, rising_next, behind_turn, heads_turn, reads_next, stood_next, writes_turn}
use Rattle.rcover.proofs.told.Reading.{wanted_next, wanted_still}
use Rattle.rcover.proofs.told.Waiting.{plain_of}
use Rattle.rcover.proofs.following.Following.keep_waits.Goals as goal
use Rattle.rcover.proofs.following.Following.keep_waits.Goals.{After-turn}

module _ (a b : Following) (machine : Standing) (p : Past) (e : Event) (t : HasNoted a b machine p e) where
  -- the seat of the event
  low : seat_of e < SEATS
  low = event_seat a p t.told.ahead.follows e t.told.ahead.comes

  -- the claims before it
  at_last : b.last.items ≡ (state_of p).claims
  at_last = ap (λ (z : Following). z.last.items) t.told.rest ∙ t.told.ahead.noted t.told.may_end

  -- after it, what each claim that reads reads is still noted
  wanted_on : TellWanted b.wanted (next (state_of p) e).claims
  wanted_on =
      let g = t.told.ahead in
      subst (λ (z : Following). TellWanted z.wanted (next (state_of p) e).claims) (sym t.told.rest)
      (wanted_next (state_of p) e (reached a p g.follows) g.comes a.wanted a.wanted (wanted_still e (plain_of a.waiting e t.told.may_end) a.wanted) g.follows.wanted)

  -- what is kept before it
  runs_are : b.runs.items ≡ a.runs.items
  runs_are = ap (λ (z : Following). z.runs.items) t.told.rest

pub lose-gone-requires-clause-low : goal.lose-gone-requires-clause-low
lose-gone-requires-clause-low c = low c.requires.0 c.args.self.now c.args.machine.now c.requires.1 c.args.event.now c.requires.2

pub lose-gone-requires-clause-room : goal.lose-gone-requires-clause-room
lose-gone-requires-clause-room c = c.requires.2.room.heads

pub turn-requires-clause-moment : goal.turn-requires-clause-moment
turn-requires-clause-moment c =
    let g = c.requires.2.told.ahead in
    subst IsMoment (sym (c.claims.ensures ∙ ap (λ (s : LockState). s.claims) g.state)) (is_moment_next c.requires.0 c.requires.1 g.follows c.args.event.now g.comes)

pub turn-requires-clause-places : goal.turn-requires-clause-places
turn-requires-clause-places c = c.requires.2.room.places

pub turn-requires-clause-room : goal.turn-requires-clause-room
turn-requires-clause-room c =
    let room = c.requires.2.room.heads in
    record {
      now = ap (λ (v : Vec Head Global). length v.items) c.lose-gone.ensures.now ∙ room.now;
      behind = ap (λ (v : Vec Set Global). length v.items) c.lose-gone.ensures.behind ∙ room.behind;
      shares = ap (λ (ss : List Share). length ss) c.lose-gone.ensures.shares ∙ room.shares;
      now_room = ap (λ (v : Vec Head Global). vec_capacity v) c.lose-gone.ensures.now ∙ room.now_room;
      behind_room = ap (λ (v : Vec Set Global). vec_capacity v) c.lose-gone.ensures.behind ∙ room.behind_room;
    }

-- what the heads ask for as they are carried on
both_of : (c : After-turn) (a : Following) (p : Past) → HasNoted a c.args.self.now c.args.machine.now p c.args.event.now → TellAt c.lose-gone.new.self.now.items (state_of p).claims c.claims.result.now
    × AllByRecursion (GoesBy c.lose-gone.new.self.lost c.lose-gone.result c.seats_told-came.result c.touched_by-touched.result (state_of p).claims c.claims.result.now) c.claims.result.now
both_of c a p t =
    let g = t.told.ahead in
    let k = g.follows in
    let e = c.args.event.now in
    let m = (state_of p).claims in
    let lost = c.lose-gone.new.self.lost in
    let statuses = c.deref.ensures.value ∙ ap (λ (l : ChangeLists). l.statuses) (c.behind-machine.view_is ∙ c.changes.ensures ∙ g.changes) in
    let statuses_2 = c.deref-3.ensures.value ∙ ap (λ (l : ChangeLists). l.statuses) (c.behind-machine-2.view_is ∙ c.changes-2.ensures ∙ g.changes) in
    let touch : AllByRecursion (IsTouched lost.claim.seat c.deref.result.now c.touched_by-touched.result m) m
    = subst (λ (cs : List StatusChange). AllByRecursion (IsTouched lost.claim.seat cs c.touched_by-touched.result m) m) (statuses_2 ∙ sym statuses)
    (touched_all c.deref-2.result.now lost.claim.seat c.deref-3.result.now c.touched_by-touched.result c.touched_by-touched.ensures m m
    (subst (λ (ss : List Set). HoldBehind ss m m) (sym (c.deref-2.ensures.value ∙ ap (λ (v : Vec Set Global). v.items) c.lose-gone.ensures.behind)) t.told.heads.behind)) in
    heads_turn a p k e g.comes (plain_of a.waiting e t.told.may_end) c.lose-gone.new.self.now.items lost c.lose-gone.result c.seats_told-came.result c.touched_by-touched.result m c.claims.result.now c.deref.result.now
    refl (c.claims.ensures ∙ ap (λ (s : LockState). s.claims) g.state) (c.lose-gone.ensures.lost m (is_moment_now a p k) t.told.heads.heads t.told.writes) statuses c.seats_told-came.ensures touch
    (subst (λ (v : Vec Head Global). TellHeads v.items m) (sym c.lose-gone.ensures.now) t.told.heads.heads)

pub keep-requires-clause-event : goal.keep-requires-clause-event
keep-requires-clause-event c = low c.requires.0 c.args.self.now c.args.machine.now c.requires.1 c.args.event.now c.requires.2

pub keep-requires-clause-low : goal.keep-requires-clause-low
keep-requires-clause-low c =
    let g = c.requires.2.told.ahead in
    subst (λ (n : Moment). AllByRecursion (λ x. x.claim.seat < SEATS) n) (sym (c.claims-2.ensures ∙ ap (λ (s : LockState). s.claims) g.state))
    (is_moment_next c.requires.0 c.requires.1 g.follows c.args.event.now g.comes).seats

pub keep-requires-clause-waiting : goal.keep-requires-clause-waiting
keep-requires-clause-waiting c =
    let t = c.requires.2 in
    subst (λ (n : Moment). HoldWaiting c.args.self.now.waiting n) (sym (c.claims-2.ensures ∙ ap (λ (s : LockState). s.claims) t.told.ahead.state)) t.waiting

pub keep-requires-clause-rising : goal.keep-requires-clause-rising
keep-requires-clause-rising c =
    let t = c.requires.2 in
    subst (λ (n : Moment). TellRising c.args.self.now.rising n) (sym (c.claims-2.ensures ∙ ap (λ (s : LockState). s.claims) t.told.ahead.state)) t.rising

pub keep-requires-clause-reading : goal.keep-requires-clause-reading
keep-requires-clause-reading c =
    let t = c.requires.2 in
    subst (λ (n : Moment). HoldReading c.args.self.now.reading n) (sym (c.claims-2.ensures ∙ ap (λ (s : LockState). s.claims) t.told.ahead.state)) t.reading

pub keep-requires-clause-wanted : goal.keep-requires-clause-wanted
keep-requires-clause-wanted c =
    let t = c.requires.2 in
    subst (λ (n : Moment). TellWanted c.args.self.now.wanted n) (sym (c.claims-2.ensures ∙ ap (λ (s : LockState). s.claims) t.told.ahead.state))
    (wanted_on c.requires.0 c.args.self.now c.args.machine.now c.requires.1 c.args.event.now t)

pub keep-requires-clause-seats : goal.keep-requires-clause-seats
keep-requires-clause-seats c =
    let t = c.requires.2 in
    let g = t.told.ahead in
    let are = c.deref_mut.ensures.value ∙ runs_are c.requires.0 c.args.self.now c.args.machine.now c.requires.1 c.args.event.now t in
    subst (λ (z : List Run × Moment). AllByRecursion (λ x. x.claim.seat < length z.0) z.1) (λ i. (sym are i, sym (c.claims-2.ensures ∙ ap (λ (s : LockState). s.claims) g.state) i))
    (seats_next c.requires.0 c.requires.1 g.follows c.args.event.now g.comes)

pub keep-requires-clause-head : goal.keep-requires-clause-head
keep-requires-clause-head c =
    let g = c.requires.2.told.ahead in
    let at_n = c.claims-2.ensures ∙ ap (λ (s : LockState). s.claims) g.state in
    subst (λ (n : Moment). AllByRecursion (λ x. x.claim.seat < length c.deref-5.result.now) n) (sym at_n)
    (seats_next_at c.requires.0 c.requires.1 g.follows c.args.event.now g.comes (length c.deref-5.result.now) (ap (λ (l : List Head). length l) c.deref-5.ensures.value ∙ c.turn.ensures.room.now))

pub keep-requires-clause-heads : goal.keep-requires-clause-heads
keep-requires-clause-heads c =
    let t = c.requires.2 in
    let both = both_of (goal.at.keep-requires-clause-heads c).After-turn c.requires.0 c.requires.1 t in
    let at_m = c.deref-6.ensures.value ∙ at_last c.requires.0 c.args.self.now c.args.machine.now c.requires.1 c.args.event.now t in
    subst (λ (z : List Head × Moment × Moment). AllByRecursion (HeadsTell z.0 c.turn.new.self.lost c.turn.new.self.moved c.turn.new.self.risen z.1 z.2) z.2)
    (λ i. (sym c.deref-5.ensures.value i, sym at_m i, (c.claims.ensures ∙ sym c.claims-2.ensures) i)) (c.turn.ensures.tell (state_of c.requires.1).claims both.0 both.1)

pub keep-requires-clause-placed : goal.keep-requires-clause-placed
keep-requires-clause-placed c =
    let both = both_of (goal.at.keep-requires-clause-placed c).After-turn c.requires.0 c.requires.1 c.requires.2 in
    subst (λ (n : Moment). ArePlaced c.turn.new.places c.turn.new.self.moved c.turn.new.self.risen n) (c.claims.ensures ∙ sym c.claims-2.ensures) (c.turn.ensures.placed (state_of c.requires.1).claims both.0 both.1)

pub keep-requires-clause-reads : goal.keep-requires-clause-reads
keep-requires-clause-reads c =
    let a = c.requires.0 in
    let b = c.args.self.now in
    let p = c.requires.1 in
    let t = c.requires.2 in
    let g = t.told.ahead in
    let e = c.args.event.now in
    let m = (state_of p).claims in
    let plain = plain_of a.waiting e t.told.may_end in
    let is_m = c.deref-6.ensures.value ∙ at_last a b c.args.machine.now p e t in
    let is_n = c.claims-2.ensures ∙ ap (λ (s : LockState). s.claims) g.state in
    let statuses = c.deref-4.ensures.value ∙ ap (λ (l : ChangeLists). l.statuses) (c.behind-machine-3.view_is ∙ c.changes-3.ensures ∙ g.changes) in
    let told = writes_turn a p g.follows e g.comes plain b.heads.writers c.turn.new.self.writers c.turn.new.self.shares m c.claims-2.result.now refl is_n
    (subst (AreLeft e b.heads.writers) (sym c.turn.ensures.writers) c.lose-gone.ensures.left)
    (subst (λ (ss : List Share). TellWrites b.heads.writers ss m) (sym (c.turn.ensures.shares ∙ c.lose-gone.ensures.shares)) t.told.writes) in
    reads_next a p g.follows e g.comes plain c.written_by.result c.deref-6.result.now c.claims-2.result.now c.deref-4.result.now is_m is_n statuses
    (all_written c.written_by.result c.deref-4.result.now c.turn.new.self.shares c.written_by.ensures c.claims-2.result.now told.shares)

pub keep-requires-clause-last_rises : goal.keep-requires-clause-last_rises
keep-requires-clause-last_rises c =
    let t = c.requires.2 in
    subst (EachPair Rises) (sym (c.deref-6.ensures.value ∙ at_last c.requires.0 c.args.self.now c.args.machine.now c.requires.1 c.args.event.now t)) (rising_now c.requires.0 c.requires.1 t.told.ahead.follows)

pub keep-requires-clause-next_rises : goal.keep-requires-clause-next_rises
keep-requires-clause-next_rises c =
    let g = c.requires.2.told.ahead in
    subst (EachPair Rises) (sym (c.claims-2.ensures ∙ ap (λ (s : LockState). s.claims) g.state)) (rising_next c.requires.0 c.requires.1 g.follows c.args.event.now g.comes)

pub keep-requires-clause-one_each : goal.keep-requires-clause-one_each
keep-requires-clause-one_each c =
    let g = c.requires.2.told.ahead in
    subst (λ (n : Moment). EachPair Distinct n) (sym (c.claims-2.ensures ∙ ap (λ (s : LockState). s.claims) g.state)) (is_moment_next c.requires.0 c.requires.1 g.follows c.args.event.now g.comes).one_each

pub keep-requires-clause-stood : goal.keep-requires-clause-stood
keep-requires-clause-stood c =
    let t = c.requires.2 in
    let g = t.told.ahead in
    let e = c.args.event.now in
    let at_m = c.deref-6.ensures.value ∙ at_last c.requires.0 c.args.self.now c.args.machine.now c.requires.1 e t in
    let at_n = c.claims-2.ensures ∙ ap (λ (s : LockState). s.claims) g.state in
    subst (λ (z : Moment × Moment). AllByRecursion (StoodBy e z.0 z.1) z.1) (λ i. (sym at_m i, sym at_n i)) (stood_next c.requires.0 c.requires.1 g.follows e g.comes (plain_of c.requires.0.waiting e t.told.may_end))

pub keep-requires-clause-room : goal.keep-requires-clause-room
keep-requires-clause-room c = subst (AllByRecursion HasRoom) (sym c.deref_mut.ensures.value) c.requires.2.room.runs

pub keep-requires-clause-apart : goal.keep-requires-clause-apart
keep-requires-clause-apart c =
    let g = c.requires.2.told.ahead in
    subst (λ (n : Moment). EachPair (WaitApart n) n) (sym (c.claims-2.ensures ∙ ap (λ (s : LockState). s.claims) g.state)) (apart_next c.requires.0 c.requires.1 g.follows c.args.event.now g.comes)

pub keep-requires-clause-few : goal.keep-requires-clause-few
keep-requires-clause-few c =
    let t = c.requires.2 in
    let g = t.told.ahead in
    let e = c.args.event.now in
    let at_m = c.deref-6.ensures.value ∙ at_last c.requires.0 c.args.self.now c.args.machine.now c.requires.1 e t in
    let at_n = c.claims-2.ensures ∙ ap (λ (s : LockState). s.claims) g.state in
    let are = c.deref_mut.ensures.value ∙ runs_are c.requires.0 c.args.self.now c.args.machine.now c.requires.1 e t in
    subst (λ (z : List Run × Moment × Moment). AllByRecursion (λ x. may_wait z.2 x ≡ true → AreAtMost SEATS (kept_of z.1 z.2 (table_of z.0 x.claim.seat) x)) z.2) (λ i. (sym are i, sym at_m i, sym at_n i))
    (few_next c.requires.0 c.requires.1 g.follows e g.comes)

pub returns : goal.returns
returns c = λ a p t.
    let b = c.args.self.now in
    let g = t.told.ahead in
    let k = g.follows in
    let comes = g.comes in
    let e = c.args.event.now in
    let es = p.events in
    let m = (state_of p).claims in
    let plain = plain_of a.waiting e t.told.may_end in
    let at_m = c.deref-6.ensures.value ∙ at_last a b c.args.machine.now p e t in
    let at_n = c.claims-2.ensures ∙ ap (λ (s : LockState). s.claims) g.state in
    let is_n = c.claims.ensures ∙ ap (λ (s : LockState). s.claims) g.state in
    let both = both_of (goal.at.returns c).After-turn a p t in
    let runs = c.keep.new.runs in
    let same : length runs ≡ length b.runs.items = c.keep.ensures.len ∙ ap (λ (rs : List Run). length rs) c.deref_mut.ensures.value in
    let kept_runs : (with_items b.runs runs).items ≡ runs = refilled b.runs runs same in
    let are = c.deref_mut.ensures.value ∙ runs_are a b c.args.machine.now p e t in
    let after : Following = record b { runs = with_items b.runs runs; heads = c.turn.new.self; places = c.turn.new.places } in
    known a p k e comes after
    (record {
      last = t.room.last;
      seats = ap (λ (rs : List Run). length rs) kept_runs ∙ same ∙ t.room.seats;
      runs_room = t.room.runs_room;
      runs = subst (AllByRecursion HasRoom) (sym kept_runs) c.keep.ensures.room;
      scratch = t.room.scratch;
      ended = t.room.ended;
      lengths = t.room.lengths;
      asks = t.room.asks;
      heads = c.turn.ensures.room;
      places = c.turn.ensures.places_len ∙ t.room.places;
      wanted = t.room.wanted;
    })
    (subst (λ (z : List Run × Moment × Moment × List Run). AllByRecursion (λ x. may_wait z.2 x ≡ true → table_of z.3 x.claim.seat ≡ kept_of z.1 z.2 (table_of z.0 x.claim.seat) x) z.2)
    (λ i. (are i, at_m i, at_n i, sym kept_runs i)) c.keep.ensures.kept)
    (λ rest.
    subst (AllByRecursion (AreLong (length_in (es ++ e ∷ rest)))) (sym kept_runs)
    (c.keep.ensures.lengths (length_in (es ++ e ∷ rest))
    (subst (λ (l : Moment). AreOf (length_by b.lengths) (length_in (es ++ e ∷ rest)) l) (sym at_m) (lengths_stay_on a p k e comes (length_by b.lengths) t.lengths rest))
    (subst (λ (n : Moment). AreOf (length_by b.lengths) (length_in (es ++ e ∷ rest)) n) (sym at_n) (lengths_come a p k e comes (length_by b.lengths) t.lengths rest))
    (subst (λ (rs : List Run). AllByRecursion (AreLong (length_in (es ++ e ∷ rest))) rs) (sym are) (k.long (e ∷ rest)))))
    t.lengths t.asks t.waiting t.rising t.asking t.reading (wanted_on a b c.args.machine.now p e t)
    (λ _. subst (IsTold c.turn.new.self.now.items c.turn.new.self.behind.items) is_n (c.turn.ensures.told m both.0
    (behind_turn a p k e comes plain c.lose-gone.new.self.behind.items m c.claims.result.now refl is_n
    (subst (λ (v : Vec Set Global). HoldBehind v.items m m) (sym c.lose-gone.ensures.behind) t.told.heads.behind)) both.1))
    (λ _. writes_turn a p k e comes plain b.heads.writers c.turn.new.self.writers c.turn.new.self.shares m (next (state_of p) e).claims refl refl
    (subst (AreLeft e b.heads.writers) (sym c.turn.ensures.writers) c.lose-gone.ensures.left)
    (subst (λ (ss : List Share). TellWrites b.heads.writers ss m) (sym (c.turn.ensures.shares ∙ c.lose-gone.ensures.shares)) t.told.writes))
    (t.told.ended ∙ sym (told_are_ended p.groups p.seats p.cap es k.accepted (table_of a.runs.items) k.tracked e))
