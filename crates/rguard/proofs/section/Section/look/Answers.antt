use Rattle.std.proofs.Common.{◌≡◌, ℕ, true, false, ◌<◌, arith, List, [], ◌++◌, Some, refl, sym, ap, subst, ◌∙◌, append-nil}
use Rattle.std.specs.Prelude.{slice_get, slice_set}
use Rattle.rclaim.specs.Events.{seat_of}
use Rattle.rlock.specs.Known.{IsTrueOf, entered}
use Rattle.rmodel.specs.Holds.{holds_of}
use Rattle.rvalue.specs.Entries.{EntryFields}
use Rattle.rstate.specs.Contents.{Contents, lock_of, is_ready, IsLentNow}
use Rattle.rstate.specs.Histories.{lock_after, IsLawfulFrom}
use Rattle.rstate.proofs.homes.Lists.{same_item, get_here, get_beside}
use Rattle.rguard.specs.Seats.{SeatOf, Goes, IsOneTurn}
use Rattle.rguard.specs.LentSections.{SectionFields, Waits}
use Rattle.rguard.proofs.seats.Finding.{Finds, finds}
use Rattle.rguard.proofs.Looking.{ready_seen, held_is, may_take_lent, may_take_room, waits_still, holds_now}
use Rattle.rguard.proofs.seats.Turning.{went, one_turn, seen_is, number_is, has_now, knows_now}
use Rattle.rguard.proofs.section.Section.look.Goals as goal

pub take-requires-clause-lent : goal.take-requires-clause-lent
take-requires-clause-lent g c κs within =
    let a = c.self.inside in
    let V = g.row.T.Denot in
    let E = g.row.T-Edit.Denot in
    let view : SectionFields V E = record { site = a.lock.now; seat = a.seat; lent = a.lent; own = a.own.items; acts = a.acts.items } in
    let w : Waits g.T.Editable.after g.T.Editable.taken g.T.Editable.number c.requires.0 view = subst (λ (s : SectionFields V E). Waits g.T.Editable.after g.T.Editable.taken g.T.Editable.number c.requires.0 s) (sym c.self.view_is) c.requires.1 in
    let found = c.state-state.result.now in
    let f : Finds g.T.Editable.after g.T.Editable.taken g.T.Editable.number w.began a.seat found = finds g.T.Editable.after g.T.Editable.taken g.T.Editable.number w.began a.lock.now a.seat found w.from.knows
    (subst (λ (x : Contents V E). IsTrueOf (λ (entry : EntryFields E). seat_of entry.event) (λ n (before later : Contents V E). slice_get later.taken n ≡ slice_get before.taken n) a.seat x.beginning x.entries x) (sym c.state-state.ensures.value) c.enter-turn.ensures.state)
    c.history.ensures.lawful in
    let pass_is : c.enter-turn.result.pass ≡ entered a.seat found.entries = c.enter-turn.ensures.pass ∙ ap (λ (x : Contents V E). entered a.seat x.entries) (sym c.state-state.ensures.value) in
    may_take_lent g.T.Editable.after g.T.Editable.taken g.T.Editable.number c.requires.0 w.began a.lock.now a.seat a.lent a.own.items a.acts.items w.from found f c.number-number.result c.number-number.ensures

pub take-requires-clause-room : goal.take-requires-clause-room
take-requires-clause-room g c κs within =
    let a = c.self.inside in
    let V = g.row.T.Denot in
    let E = g.row.T-Edit.Denot in
    let view : SectionFields V E = record { site = a.lock.now; seat = a.seat; lent = a.lent; own = a.own.items; acts = a.acts.items } in
    let w : Waits g.T.Editable.after g.T.Editable.taken g.T.Editable.number c.requires.0 view = subst (λ (s : SectionFields V E). Waits g.T.Editable.after g.T.Editable.taken g.T.Editable.number c.requires.0 s) (sym c.self.view_is) c.requires.1 in
    let found = c.state-state.result.now in
    let f : Finds g.T.Editable.after g.T.Editable.taken g.T.Editable.number w.began a.seat found = finds g.T.Editable.after g.T.Editable.taken g.T.Editable.number w.began a.lock.now a.seat found w.from.knows
    (subst (λ (x : Contents V E). IsTrueOf (λ (entry : EntryFields E). seat_of entry.event) (λ n (before later : Contents V E). slice_get later.taken n ≡ slice_get before.taken n) a.seat x.beginning x.entries x) (sym c.state-state.ensures.value) c.enter-turn.ensures.state)
    c.history.ensures.lawful in
    let pass_is : c.enter-turn.result.pass ≡ entered a.seat found.entries = c.enter-turn.ensures.pass ∙ ap (λ (x : Contents V E). entered a.seat x.entries) (sym c.state-state.ensures.value) in
    may_take_room g.T.Editable.after g.T.Editable.taken g.T.Editable.number c.requires.0 w.began a.lock.now a.seat a.lent a.own.items a.acts.items w.from found f c.number-number.result c.number-number.ensures

pub leave-requires-clause-entries : goal.leave-requires-clause-entries
leave-requires-clause-entries g c = ([], c.take.ensures.entries ∙ ap (λ s. s.entries) c.state-state.ensures.value ∙ ap (λ p. p.seen) (sym c.enter-turn.ensures.pass) ∙ sym (append-nil c.enter-turn.result.pass.seen), λ k d less. absurd (none k less))
  where
    none : (k : ℕ) → k < 0 → ⊥
    none k less = omega arith

pub leave-requires-clause-others : goal.leave-requires-clause-others
leave-requires-clause-others g c = λ found is k differ.
    ap (λ ts. slice_get ts k) c.take.ensures.taken
    ∙ get_beside c.state-state.result.now.taken c.number-number.result k _ (λ e. differ (sym e ∙ c.number-number.ensures ∙ ap (λ p. p.number) (sym c.enter-turn.ensures.pass)))
    ∙ ap (λ s. slice_get s.taken k) c.state-state.ensures.value
    ∙ ap (λ s. slice_get s.taken k) (same_item c.enter-turn.result.state found (sym c.enter-turn.ensures.found ∙ is))

pub returns-then-ready-clause-holds : goal.returns-then-ready-clause-holds
returns-then-ready-clause-holds g c = λ kind waits.
    let a = c.self.inside in
    let V = g.row.T.Denot in
    let E = g.row.T-Edit.Denot in
    let view : SectionFields V E = record { site = a.lock.now; seat = a.seat; lent = a.lent; own = a.own.items; acts = a.acts.items } in
    let w : Waits g.T.Editable.after g.T.Editable.taken g.T.Editable.number kind view = subst (λ (s : SectionFields V E). Waits g.T.Editable.after g.T.Editable.taken g.T.Editable.number kind s) (sym c.self.view_is) waits in
    let found = c.state-state.result.now in
    let f : Finds g.T.Editable.after g.T.Editable.taken g.T.Editable.number w.began a.seat found = finds g.T.Editable.after g.T.Editable.taken g.T.Editable.number w.began a.lock.now a.seat found w.from.knows
    (subst (λ (x : Contents V E). IsTrueOf (λ (entry : EntryFields E). seat_of entry.event) (λ n (before later : Contents V E). slice_get later.taken n ≡ slice_get before.taken n) a.seat x.beginning x.entries x) (sym c.state-state.ensures.value) c.enter-turn.ensures.state)
    c.history.ensures.lawful in
    let pass_is : c.enter-turn.result.pass ≡ entered a.seat found.entries = c.enter-turn.ensures.pass ∙ ap (λ (x : Contents V E). entered a.seat x.entries) (sym c.state-state.ensures.value) in
    let later = c.leave.result in
    let now = c.take.new.self in
    let longer : now.entries ≡ found.entries ++ [] = c.take.ensures.entries ∙ sym (append-nil found.entries) in
    let seen = seen_is g.T.Editable.after g.T.Editable.taken g.T.Editable.number w.began a.seat found now c.enter-turn.result.pass later [] f longer pass_is c.leave.ensures ∙ c.take.ensures.entries in
    let same = number_is g.T.Editable.after g.T.Editable.taken g.T.Editable.number w.began a.seat found now c.enter-turn.result.pass later [] f longer pass_is c.leave.ensures in
    let knows = knows_now g.T.Editable.after g.T.Editable.taken g.T.Editable.number w.began a.seat found now c.enter-turn.result.pass later [] f longer pass_is c.leave.ensures a.lock.now w.from.knows
    (subst (λ (es : List (EntryFields E)). IsLawfulFrom g.T.Editable.after g.T.Editable.taken g.T.Editable.number w.began es) (sym c.take.ensures.entries) f.lawful) refl in
    let taken : slice_get now.taken a.seat.number ≡ Some (holds_of (lock_after w.began found.entries).claims a.seat.number) =
    ap (λ ts. slice_get ts a.seat.number) c.take.ensures.taken
    ∙ (λ i. slice_get (slice_set found.taken (c.number-number.ensures i) (holds_of (lock_of found).claims (c.number-number.ensures i))) a.seat.number)
    ∙ get_here found.taken a.seat.number w.from.had _ (f.has_taken w.from.had w.from.has_lent.taken)
    ∙ ap Some (held_is g.T.Editable.after g.T.Editable.taken g.T.Editable.number kind w.began a.lock.now a.seat a.lent a.own.items a.acts.items w.from found f) in
    record {
      began = w.began;
      from = holds_now g.T.Editable.after g.T.Editable.taken g.T.Editable.number kind w.began a.lock.now a.seat a.lent a.own.items a.acts.items w.from found f later c.take.new.into seen same
          (ap (is_ready (lock_of found)) (sym c.number-number.ensures) ∙ sym c.ready.ensures ∙ c.if-ready.true)
          (has_now g.T.Editable.after g.T.Editable.taken g.T.Editable.number w.began a.seat found now c.enter-turn.result.pass later [] f longer pass_is c.leave.ensures _ taken)
          (subst (λ (n : ℕ). IsLentNow g.T.Editable.after found (holds_of (lock_of found).claims n) c.take.new.into) c.number-number.ensures c.take.ensures.lent)
          knows;
    }

pub leave-requires-else-ready-clause-entries : goal.leave-requires-else-ready-clause-entries
leave-requires-else-ready-clause-entries g c = ([], ap (λ s. s.entries) c.state-state.ensures.value ∙ ap (λ p. p.seen) (sym c.enter-turn.ensures.pass) ∙ sym (append-nil c.enter-turn.result.pass.seen), λ k d less. absurd (none k less))
  where
    none : (k : ℕ) → k < 0 → ⊥
    none k less = omega arith

pub returns-else-ready-clause-waits : goal.returns-else-ready-clause-waits
returns-else-ready-clause-waits g c = λ kind waits.
    let a = c.self.inside in
    let V = g.row.T.Denot in
    let E = g.row.T-Edit.Denot in
    let view : SectionFields V E = record { site = a.lock.now; seat = a.seat; lent = a.lent; own = a.own.items; acts = a.acts.items } in
    let w : Waits g.T.Editable.after g.T.Editable.taken g.T.Editable.number kind view = subst (λ (s : SectionFields V E). Waits g.T.Editable.after g.T.Editable.taken g.T.Editable.number kind s) (sym c.self.view_is) waits in
    let found = c.state-state.result.now in
    let f : Finds g.T.Editable.after g.T.Editable.taken g.T.Editable.number w.began a.seat found = finds g.T.Editable.after g.T.Editable.taken g.T.Editable.number w.began a.lock.now a.seat found w.from.knows
    (subst (λ (x : Contents V E). IsTrueOf (λ (entry : EntryFields E). seat_of entry.event) (λ n (before later : Contents V E). slice_get later.taken n ≡ slice_get before.taken n) a.seat x.beginning x.entries x) (sym c.state-state.ensures.value) c.enter-turn.ensures.state)
    c.history.ensures.lawful in
    let pass_is : c.enter-turn.result.pass ≡ entered a.seat found.entries = c.enter-turn.ensures.pass ∙ ap (λ (x : Contents V E). entered a.seat x.entries) (sym c.state-state.ensures.value) in
    let later = c.leave-else-ready.result in
    let longer : found.entries ≡ found.entries ++ [] = sym (append-nil found.entries) in
    let knows = knows_now g.T.Editable.after g.T.Editable.taken g.T.Editable.number w.began a.seat found found c.enter-turn.result.pass later [] f longer pass_is c.leave-else-ready.ensures a.lock.now w.from.knows f.lawful refl in
    record {
      began = w.began;
      from = waits_still g.T.Editable.after g.T.Editable.taken g.T.Editable.number kind w.began a.lock.now a.seat a.lent a.own.items a.acts.items w.from found f later
          (seen_is g.T.Editable.after g.T.Editable.taken g.T.Editable.number w.began a.seat found found c.enter-turn.result.pass later [] f longer pass_is c.leave-else-ready.ensures)
          (number_is g.T.Editable.after g.T.Editable.taken g.T.Editable.number w.began a.seat found found c.enter-turn.result.pass later [] f longer pass_is c.leave-else-ready.ensures)
          (has_now g.T.Editable.after g.T.Editable.taken g.T.Editable.number w.began a.seat found found c.enter-turn.result.pass later [] f longer pass_is c.leave-else-ready.ensures w.from.had (f.has_taken w.from.had w.from.has_lent.taken))
          knows;
    }

pub returns-then-ready-clause-ready : goal.returns-then-ready-clause-ready
returns-then-ready-clause-ready g c =
    let a = c.self.inside in
    let V = g.row.T.Denot in
    let E = g.row.T-Edit.Denot in
    let view : SectionFields V E = record { site = a.lock.now; seat = a.seat; lent = a.lent; own = a.own.items; acts = a.acts.items } in
    let w : Waits g.T.Editable.after g.T.Editable.taken g.T.Editable.number c.requires.0 view = subst (λ (s : SectionFields V E). Waits g.T.Editable.after g.T.Editable.taken g.T.Editable.number c.requires.0 s) (sym c.self.view_is) c.requires.1 in
    let found = c.state-state.result.now in
    let f : Finds g.T.Editable.after g.T.Editable.taken g.T.Editable.number w.began a.seat found = finds g.T.Editable.after g.T.Editable.taken g.T.Editable.number w.began a.lock.now a.seat found w.from.knows
    (subst (λ (x : Contents V E). IsTrueOf (λ (entry : EntryFields E). seat_of entry.event) (λ n (before later : Contents V E). slice_get later.taken n ≡ slice_get before.taken n) a.seat x.beginning x.entries x) (sym c.state-state.ensures.value) c.enter-turn.ensures.state)
    c.history.ensures.lawful in
    let pass_is : c.enter-turn.result.pass ≡ entered a.seat found.entries = c.enter-turn.ensures.pass ∙ ap (λ (x : Contents V E). entered a.seat x.entries) (sym c.state-state.ensures.value) in
    let later = c.leave.result in
    let now = c.take.new.self in
    let longer : now.entries ≡ found.entries ++ [] = c.take.ensures.entries ∙ sym (append-nil found.entries) in
    let seen = seen_is g.T.Editable.after g.T.Editable.taken g.T.Editable.number w.began a.seat found now c.enter-turn.result.pass later [] f longer pass_is c.leave.ensures ∙ c.take.ensures.entries in
    let same = number_is g.T.Editable.after g.T.Editable.taken g.T.Editable.number w.began a.seat found now c.enter-turn.result.pass later [] f longer pass_is c.leave.ensures in
    let goes = went g.T.Editable.after g.T.Editable.taken g.T.Editable.number w.began a.seat found now c.enter-turn.result.pass later [] f longer pass_is c.leave.ensures in
    let turn = one_turn g.T.Editable.after g.T.Editable.taken g.T.Editable.number w.began a.seat found now c.enter-turn.result.pass later [] f longer pass_is c.leave.ensures in
    let ready = ready_seen g.T.Editable.after g.T.Editable.taken g.T.Editable.number w.began a.seat found f later true (goes.same.2 ∙ w.from.knows.opening) seen same (ap (is_ready (lock_of found)) (sym c.number-number.ensures) ∙ sym c.ready.ensures ∙ c.if-ready.true) in
    let from_seat : a.seat ≡ c.args.self.seat = ap (λ (s : SectionFields V E). s.seat) c.self.view_is in
    record {
      site = ap (λ (s : SectionFields V E). s.site) c.self.view_is;
      acts = ap (λ (s : SectionFields V E). s.acts) c.self.view_is;
      goes = subst (λ (x : SeatOf V E). Goes x [] later) from_seat goes;
      turn = subst (λ (x : SeatOf V E). IsOneTurn x [] later) from_seat turn;
      ready = ready;
    }

pub returns-else-ready-clause-pending : goal.returns-else-ready-clause-pending
returns-else-ready-clause-pending g c =
    let a = c.self.inside in
    let V = g.row.T.Denot in
    let E = g.row.T-Edit.Denot in
    let view : SectionFields V E = record { site = a.lock.now; seat = a.seat; lent = a.lent; own = a.own.items; acts = a.acts.items } in
    let w : Waits g.T.Editable.after g.T.Editable.taken g.T.Editable.number c.requires.0 view = subst (λ (s : SectionFields V E). Waits g.T.Editable.after g.T.Editable.taken g.T.Editable.number c.requires.0 s) (sym c.self.view_is) c.requires.1 in
    let found = c.state-state.result.now in
    let f : Finds g.T.Editable.after g.T.Editable.taken g.T.Editable.number w.began a.seat found = finds g.T.Editable.after g.T.Editable.taken g.T.Editable.number w.began a.lock.now a.seat found w.from.knows
    (subst (λ (x : Contents V E). IsTrueOf (λ (entry : EntryFields E). seat_of entry.event) (λ n (before later : Contents V E). slice_get later.taken n ≡ slice_get before.taken n) a.seat x.beginning x.entries x) (sym c.state-state.ensures.value) c.enter-turn.ensures.state)
    c.history.ensures.lawful in
    let pass_is : c.enter-turn.result.pass ≡ entered a.seat found.entries = c.enter-turn.ensures.pass ∙ ap (λ (x : Contents V E). entered a.seat x.entries) (sym c.state-state.ensures.value) in
    let later = c.leave-else-ready.result in
    let longer : found.entries ≡ found.entries ++ [] = sym (append-nil found.entries) in
    let seen = seen_is g.T.Editable.after g.T.Editable.taken g.T.Editable.number w.began a.seat found found c.enter-turn.result.pass later [] f longer pass_is c.leave-else-ready.ensures in
    let same = number_is g.T.Editable.after g.T.Editable.taken g.T.Editable.number w.began a.seat found found c.enter-turn.result.pass later [] f longer pass_is c.leave-else-ready.ensures in
    let goes = went g.T.Editable.after g.T.Editable.taken g.T.Editable.number w.began a.seat found found c.enter-turn.result.pass later [] f longer pass_is c.leave-else-ready.ensures in
    let turn = one_turn g.T.Editable.after g.T.Editable.taken g.T.Editable.number w.began a.seat found found c.enter-turn.result.pass later [] f longer pass_is c.leave-else-ready.ensures in
    let from_seat : a.seat ≡ c.args.self.seat = ap (λ (s : SectionFields V E). s.seat) c.self.view_is in
    record {
      site = ap (λ (s : SectionFields V E). s.site) c.self.view_is;
      acts = ap (λ (s : SectionFields V E). s.acts) c.self.view_is;
      goes = subst (λ (x : SeatOf V E). Goes x [] later) from_seat goes;
      turn = subst (λ (x : SeatOf V E). IsOneTurn x [] later) from_seat turn;
      ready = ready_seen g.T.Editable.after g.T.Editable.taken g.T.Editable.number w.began a.seat found f later false (goes.same.2 ∙ w.from.knows.opening) seen same (ap (is_ready (lock_of found)) (sym c.number-number.ensures) ∙ sym c.ready.ensures ∙ c.if-ready.false);
    }
