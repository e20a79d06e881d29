use Rattle.std.proofs.Common.{◌≡◌, ◌+◌, ◌<◌, ◌≤◌, length, sym, ap, subst, ◌∙◌}
use Rattle.std.specs.Prelude.{slice_get, vec_capacity}
use Rattle.std.specs.FinSet.{difference}
use Rattle.rset.specs.Sets.{Set, rising}
use Rattle.rmodel.specs.declared.granted.Granted.{Granted}
use Rattle.rmodel.specs.Holds.{holds_of}
use Rattle.rmodel.specs.State.{LockState}
use Rattle.rstate.specs.Contents.{Contents, lock_of, IsLentNow}
use Rattle.rstate.specs.Lent.{LentFields}
use Rattle.rstate.proofs.keeping.Taking.{taken_at, have_new_reads, have_new_writes, state_taken, lent_taken}
use Rattle.rstate.proofs.keeping.Boxed.{contents_of, shown}
use Rattle.rstate.proofs.state.State.take.Goals as goal

pub take_reads-requires-clause-have : goal.take_reads-requires-clause-have
take_reads-requires-clause-have g c =
    let a = c.deref_mut-all.result.now in
    let whole = shown g.T.Editable.after g.T.Editable.taken g.T.Editable.number g.M.Machine.state g.M.Machine.watched c.deref_mut-all.ensures.value c.self.invariant in
    let kept = whole.stands in
    let view_is = ap contents_of c.deref_mut-all.ensures.value ∙ c.self.view_is in
    let seats : a.opening.seats ≡ c.args.self.now.beginning.seats = ap (λ x. x.beginning.seats) view_is in
    have_new_reads g.T.Editable.after g.T.Editable.taken g.T.Editable.number (g.M.Machine.state a.machine) a.history.spare a.opening a.history.entries a.taken.items a.homes.items _ _ kept c.args.seat
    c.index-before.result.now c.granted-granted.result c.minus-reads.result c.minus-writes.result
    (taken_at a.taken.items a.opening.seats c.from.result c.args.seat c.index-before.result.now kept.kept.taken_is.each_seat c.from.ensures (subst (λ n. c.args.seat < n) (sym seats) c.requires.seat) c.index-before.ensures)
    c.granted-granted.ensures c.minus-reads.ensures c.minus-writes.ensures

pub take_reads-requires-clause-room : goal.take_reads-requires-clause-room
take_reads-requires-clause-room g c =
    let a = c.deref_mut-all.result.now in
    let whole = shown g.T.Editable.after g.T.Editable.taken g.T.Editable.number g.M.Machine.state g.M.Machine.watched c.deref_mut-all.ensures.value c.self.invariant in
    let kept = whole.stands in
    let view_is = ap contents_of c.deref_mut-all.ensures.value ∙ c.self.view_is in
    let seats : a.opening.seats ≡ c.args.self.now.beginning.seats = ap (λ x. x.beginning.seats) view_is in
    let there = taken_at a.taken.items a.opening.seats c.from.result c.args.seat c.index-before.result.now kept.kept.taken_is.each_seat c.from.ensures (subst (λ n. c.args.seat < n) (sym seats) c.requires.seat) c.index-before.ensures in
    let held : c.granted-granted.result ≡ holds_of (lock_of c.args.self.now).claims c.args.seat
    = c.granted-granted.ensures ∙ ap (λ (s : LockState). holds_of s.claims c.args.seat) (kept.kept.machine_is ∙ ap lock_of view_is) in
    subst (λ (s : Set). length c.into.inside.reads.items + length (rising s) ≤ vec_capacity c.into.inside.reads) (sym (c.minus-reads.ensures ∙ ap (λ (h : Granted). difference h.reads c.index-before.result.now.reads) held))
    (subst (λ f. length f.reads + length (rising (difference (holds_of (lock_of c.args.self.now).claims c.args.seat).reads c.index-before.result.now.reads)) ≤ f.reads_room) (sym c.into.view_is)
    (c.requires.room c.index-before.result.now (ap (λ x. slice_get x.taken c.args.seat) (sym view_is) ∙ there)).reads)

pub take_writes-requires-clause-have : goal.take_writes-requires-clause-have
take_writes-requires-clause-have g c =
    let a = c.deref_mut-all.result.now in
    let whole = shown g.T.Editable.after g.T.Editable.taken g.T.Editable.number g.M.Machine.state g.M.Machine.watched c.deref_mut-all.ensures.value c.self.invariant in
    let kept = whole.stands in
    let view_is = ap contents_of c.deref_mut-all.ensures.value ∙ c.self.view_is in
    let seats : a.opening.seats ≡ c.args.self.now.beginning.seats = ap (λ x. x.beginning.seats) view_is in
    have_new_writes g.T.Editable.after g.T.Editable.taken g.T.Editable.number (g.M.Machine.state a.machine) a.history.spare a.opening a.history.entries a.taken.items a.homes.items _ _ kept c.args.seat
    c.index-before.result.now c.granted-granted.result c.minus-reads.result c.minus-writes.result
    (taken_at a.taken.items a.opening.seats c.from.result c.args.seat c.index-before.result.now kept.kept.taken_is.each_seat c.from.ensures (subst (λ n. c.args.seat < n) (sym seats) c.requires.seat) c.index-before.ensures)
    c.granted-granted.ensures c.minus-reads.ensures c.minus-writes.ensures c.take_reads.new.homes.items c.take_reads.ensures.homes

pub take_writes-requires-clause-room : goal.take_writes-requires-clause-room
take_writes-requires-clause-room g c =
    let a = c.deref_mut-all.result.now in
    let whole = shown g.T.Editable.after g.T.Editable.taken g.T.Editable.number g.M.Machine.state g.M.Machine.watched c.deref_mut-all.ensures.value c.self.invariant in
    let kept = whole.stands in
    let view_is = ap contents_of c.deref_mut-all.ensures.value ∙ c.self.view_is in
    let seats : a.opening.seats ≡ c.args.self.now.beginning.seats = ap (λ x. x.beginning.seats) view_is in
    let there = taken_at a.taken.items a.opening.seats c.from.result c.args.seat c.index-before.result.now kept.kept.taken_is.each_seat c.from.ensures (subst (λ n. c.args.seat < n) (sym seats) c.requires.seat) c.index-before.ensures in
    let held : c.granted-granted.result ≡ holds_of (lock_of c.args.self.now).claims c.args.seat
    = c.granted-granted.ensures ∙ ap (λ (s : LockState). holds_of s.claims c.args.seat) (kept.kept.machine_is ∙ ap lock_of view_is) in
    subst (λ (s : Set). length c.into.inside.writes.items + length (rising s) ≤ vec_capacity c.into.inside.writes) (sym (c.minus-writes.ensures ∙ ap (λ (h : Granted). difference h.writes c.index-before.result.now.writes) held))
    (subst (λ f. length f.writes + length (rising (difference (holds_of (lock_of c.args.self.now).claims c.args.seat).writes c.index-before.result.now.writes)) ≤ f.writes_room) (sym c.into.view_is)
    (c.requires.room c.index-before.result.now (ap (λ x. slice_get x.taken c.args.seat) (sym view_is) ∙ there)).writes)

pub invariant_of-self : goal.invariant_of-self
invariant_of-self g c =
    let a = c.deref_mut-all.result.now in
    let whole = shown g.T.Editable.after g.T.Editable.taken g.T.Editable.number g.M.Machine.state g.M.Machine.watched c.deref_mut-all.ensures.value c.self.invariant in
    let kept = whole.stands in
    let view_is = ap contents_of c.deref_mut-all.ensures.value ∙ c.self.view_is in
    let seats : a.opening.seats ≡ c.args.self.now.beginning.seats = ap (λ x. x.beginning.seats) view_is in
    record {
      stands = state_taken g.T.Editable.after g.T.Editable.taken g.T.Editable.number (g.M.Machine.state a.machine) a.history.spare a.opening a.history.entries a.taken.items a.homes.items _ _ kept c.args.seat
          c.index-before.result.now c.granted-granted.result c.minus-reads.result c.minus-writes.result
          (taken_at a.taken.items a.opening.seats c.from.result c.args.seat c.index-before.result.now kept.kept.taken_is.each_seat c.from.ensures (subst (λ n. c.args.seat < n) (sym seats) c.requires.seat) c.index-before.ensures)
          c.granted-granted.ensures c.minus-reads.ensures c.minus-writes.ensures c.take_reads.new.homes.items c.take_writes.new.homes.items c.from-2.result c.from-2.ensures
          c.take_reads.ensures.homes c.take_writes.ensures.homes c.take_reads.ensures.known c.take_writes.ensures.known;
      told = whole.told;
    }

pub returns-clause-lent : goal.returns-clause-lent
returns-clause-lent g c =
    let a = c.deref_mut-all.result.now in
    let whole = shown g.T.Editable.after g.T.Editable.taken g.T.Editable.number g.M.Machine.state g.M.Machine.watched c.deref_mut-all.ensures.value c.self.invariant in
    let kept = whole.stands in
    let view_is = ap contents_of c.deref_mut-all.ensures.value ∙ c.self.view_is in
    let seats : a.opening.seats ≡ c.args.self.now.beginning.seats = ap (λ x. x.beginning.seats) view_is in
    let there = taken_at a.taken.items a.opening.seats c.from.result c.args.seat c.index-before.result.now kept.kept.taken_is.each_seat c.from.ensures (subst (λ n. c.args.seat < n) (sym seats) c.requires.seat) c.index-before.ensures in
    let lent : LentFields g.row.T.Denot = record { reads = c.into.inside.reads.items; writes = c.into.inside.writes.items; reads_room = vec_capacity c.into.inside.reads; writes_room = vec_capacity c.into.inside.writes } in
    let lent2 : LentFields g.row.T.Denot = record { reads = c.take_reads.new.into.items; writes = c.take_writes.new.into.items; reads_room = vec_capacity c.take_reads.new.into; writes_room = vec_capacity c.take_writes.new.into } in
    subst (λ (x : Contents g.row.T.Denot g.row.T-Edit.Denot). IsLentNow g.T.Editable.after x (holds_of (lock_of x).claims c.args.seat) lent2) view_is
    (subst (λ (s : LockState). IsLentNow g.T.Editable.after (record { beginning = a.opening; entries = a.history.entries; taken = a.taken.items }) (holds_of s.claims c.args.seat) lent2) kept.kept.machine_is
    (lent_taken g.T.Editable.after g.T.Editable.taken g.T.Editable.number (g.M.Machine.state a.machine) a.history.spare a.opening a.history.entries a.taken.items a.homes.items _ _ kept c.args.seat
    c.index-before.result.now c.granted-granted.result c.minus-reads.result c.minus-writes.result there
    c.granted-granted.ensures c.minus-reads.ensures c.minus-writes.ensures c.take_reads.new.homes.items
    lent lent2
    c.take_reads.ensures.homes c.take_reads.ensures.known c.take_writes.ensures.known
    (subst (λ (x : Contents g.row.T.Denot g.row.T-Edit.Denot). IsLentNow g.T.Editable.after x c.index-before.result.now lent) (sym view_is)
    (subst (λ f. IsLentNow g.T.Editable.after c.args.self.now c.index-before.result.now f) (sym c.into.view_is)
    (c.requires.lent c.index-before.result.now (ap (λ x. slice_get x.taken c.args.seat) (sym view_is) ∙ there))))
    c.take_reads.ensures.into c.take_writes.ensures.into))

pub returns-clause-room : goal.returns-clause-room
returns-clause-room g c =
    (c.take_reads.ensures.capacity ∙ ap (λ (f : LentFields g.row.T.Denot). f.reads_room) c.into.view_is, c.take_writes.ensures.capacity ∙ ap (λ (f : LentFields g.row.T.Denot). f.writes_room) c.into.view_is)
