use Rattle.std.proofs.Common.{◌≡◌, ℕ, List, [], ◌∷◌, ◌++◌, Some, refl, sym, ap, subst, ◌∙◌, append-nil}
use Rattle.std.specs.Prelude.{slice_get, slice_set}
use Rattle.rclaim.specs.Events.{seat_of}
use Rattle.rclaim.specs.declared.event.Event.TheVariants.{Ask}
use Rattle.rlock.specs.Known.{IsTrueOf, entered}
use Rattle.rmodel.specs.declared.granted.Granted.{Granted}
use Rattle.rmodel.specs.Holds.{holds_of}
use Rattle.rmodel.specs.State.{LockState}
use Rattle.rvalue.specs.Entries.{EntryFields}
use Rattle.rstate.specs.Contents.{Contents, lock_of, is_ready, IsLentNow}
use Rattle.rstate.specs.Histories.{lock_after, IsLawfulFrom}
use Rattle.rstate.specs.Moves.{HasRoomFor}
use Rattle.rstate.proofs.homes.Lists.{same_item, get_here, get_beside}
use Rattle.rguard.specs.declared.kind.GuardKind.TheVariants as kinds
use Rattle.rguard.specs.LentGuards.{KeepsValues, KeepsHolding, IsPartOf}
use Rattle.rguard.specs.Seats.{Goes, IsOneTurn, bare}
use Rattle.rguard.specs.LentSections.{SectionFields, HasRoom, Holds, guarded}
use Rattle.rguard.proofs.Asking.{waits_of, ready_of, ask_fits, ask_accepted, waits_for_part, keeps_values, keeps_holding}
use Rattle.rguard.proofs.seats.Finding.{Finds, finds, lock_is, holding_later}
use Rattle.rguard.proofs.Looking.{held_is, may_take_lent, may_take_room, holds_now}
use Rattle.rguard.proofs.seats.Turning.{went, one_turn, seen_is, number_is, has_now, knows_now, appends_one, appends_none}
use Rattle.rguard.proofs.section.Section.ask_with_room.Goals as goal

pub ask-requires-clause-fits : goal.ask-requires-clause-fits
ask-requires-clause-fits g c κs within =
    let a = c.self.inside in
    let V = g.row.T.Denot in
    let E = g.row.T-Edit.Denot in
    let view : SectionFields V E = record { site = a.lock.now; seat = a.seat; lent = a.lent; own = a.own.items; acts = a.acts.items } in
    let h : Holds g.T.Editable.after g.T.Editable.taken g.T.Editable.number kinds.Nest view = subst (λ (s : SectionFields V E). Holds g.T.Editable.after g.T.Editable.taken g.T.Editable.number kinds.Nest s) (sym c.self.view_is) c.requires.holds in
    let found = c.state-state.result.now in
    let f : Finds g.T.Editable.after g.T.Editable.taken g.T.Editable.number h.began a.seat found = finds g.T.Editable.after g.T.Editable.taken g.T.Editable.number h.began a.lock.now a.seat found h.from.knows
    (subst (λ (x : Contents V E). IsTrueOf (λ (entry : EntryFields E). seat_of entry.event) (λ n (before later : Contents V E). slice_get later.taken n ≡ slice_get before.taken n) a.seat x.beginning x.entries x) (sym c.state-state.ensures.value) c.enter-turn.ensures.state)
    c.history.ensures.lawful in
    let part = subst (λ (s : SectionFields V E). IsPartOf s.seat c.args.set) (sym c.self.view_is) c.requires.part h.began h.from.knows.opening in
    ask_fits g.T.Editable.after g.T.Editable.taken g.T.Editable.number h.began view h.from found f c.args.set part c.number-number.result c.number-number.ensures

pub ask-requires-clause-accepted : goal.ask-requires-clause-accepted
ask-requires-clause-accepted g c κs within =
    let a = c.self.inside in
    let V = g.row.T.Denot in
    let E = g.row.T-Edit.Denot in
    let view : SectionFields V E = record { site = a.lock.now; seat = a.seat; lent = a.lent; own = a.own.items; acts = a.acts.items } in
    let h : Holds g.T.Editable.after g.T.Editable.taken g.T.Editable.number kinds.Nest view = subst (λ (s : SectionFields V E). Holds g.T.Editable.after g.T.Editable.taken g.T.Editable.number kinds.Nest s) (sym c.self.view_is) c.requires.holds in
    let found = c.state-state.result.now in
    let f : Finds g.T.Editable.after g.T.Editable.taken g.T.Editable.number h.began a.seat found = finds g.T.Editable.after g.T.Editable.taken g.T.Editable.number h.began a.lock.now a.seat found h.from.knows
    (subst (λ (x : Contents V E). IsTrueOf (λ (entry : EntryFields E). seat_of entry.event) (λ n (before later : Contents V E). slice_get later.taken n ≡ slice_get before.taken n) a.seat x.beginning x.entries x) (sym c.state-state.ensures.value) c.enter-turn.ensures.state)
    c.history.ensures.lawful in
    let part = subst (λ (s : SectionFields V E). IsPartOf s.seat c.args.set) (sym c.self.view_is) c.requires.part h.began h.from.knows.opening in
    ask_accepted g.T.Editable.after g.T.Editable.taken g.T.Editable.number h.began view h.from found f c.args.set part c.number-number.result c.number-number.ensures

pub leave-seat-requires-clause-entries : goal.leave-seat-requires-clause-entries
leave-seat-requires-clause-entries g c =
    let a = c.self.inside in
    let V = g.row.T.Denot in
    let E = g.row.T-Edit.Denot in
    let found = c.state-state.result.now in
    let now = c.ask.new.self in
    let longer : now.entries ≡ found.entries ++ bare (Ask a.seat.number c.args.set) ∷ [] = c.in-Ok.ensures.ok ∙ ap (λ n. found.entries ++ bare (Ask n c.args.set) ∷ []) c.number-number.ensures in
    let pass_is : c.enter-turn.result.pass ≡ entered a.seat found.entries = c.enter-turn.ensures.pass ∙ ap (λ (x : Contents V E). entered a.seat x.entries) (sym c.state-state.ensures.value) in
    appends_one a.seat c.enter-turn.result.pass found now (bare (Ask a.seat.number c.args.set)) refl longer pass_is

pub take-requires-clause-lent : goal.take-requires-clause-lent
take-requires-clause-lent g c κs within =
    let a = c.self.inside in
    let V = g.row.T.Denot in
    let E = g.row.T-Edit.Denot in
    let view : SectionFields V E = record { site = a.lock.now; seat = a.seat; lent = a.lent; own = a.own.items; acts = a.acts.items } in
    let h : Holds g.T.Editable.after g.T.Editable.taken g.T.Editable.number kinds.Nest view = subst (λ (s : SectionFields V E). Holds g.T.Editable.after g.T.Editable.taken g.T.Editable.number kinds.Nest s) (sym c.self.view_is) c.requires.holds in
    let found = c.state-state.result.now in
    let f : Finds g.T.Editable.after g.T.Editable.taken g.T.Editable.number h.began a.seat found = finds g.T.Editable.after g.T.Editable.taken g.T.Editable.number h.began a.lock.now a.seat found h.from.knows
    (subst (λ (x : Contents V E). IsTrueOf (λ (entry : EntryFields E). seat_of entry.event) (λ n (before later : Contents V E). slice_get later.taken n ≡ slice_get before.taken n) a.seat x.beginning x.entries x) (sym c.state-state.ensures.value) c.enter-turn.ensures.state)
    c.history.ensures.lawful in
    let room : HasRoom a.lent = subst (λ (s : SectionFields V E). HasRoom s.lent) (sym c.self.view_is) c.requires.room in
    let w = waits_of g.T.Editable.after g.T.Editable.taken g.T.Editable.number kinds.Nest h.began view h.from room in
    subst (λ (x : Contents V E). (had : Granted) → slice_get x.taken c.number-number.result ≡ Some had → IsLentNow g.T.Editable.after x had a.lent) (sym c.in-Err.ensures.err)
    (may_take_lent g.T.Editable.after g.T.Editable.taken g.T.Editable.number kinds.Nest h.began a.lock.now a.seat a.lent a.own.items a.acts.items w found f c.number-number.result c.number-number.ensures)

pub take-requires-clause-room : goal.take-requires-clause-room
take-requires-clause-room g c κs within =
    let a = c.self.inside in
    let V = g.row.T.Denot in
    let E = g.row.T-Edit.Denot in
    let view : SectionFields V E = record { site = a.lock.now; seat = a.seat; lent = a.lent; own = a.own.items; acts = a.acts.items } in
    let h : Holds g.T.Editable.after g.T.Editable.taken g.T.Editable.number kinds.Nest view = subst (λ (s : SectionFields V E). Holds g.T.Editable.after g.T.Editable.taken g.T.Editable.number kinds.Nest s) (sym c.self.view_is) c.requires.holds in
    let found = c.state-state.result.now in
    let f : Finds g.T.Editable.after g.T.Editable.taken g.T.Editable.number h.began a.seat found = finds g.T.Editable.after g.T.Editable.taken g.T.Editable.number h.began a.lock.now a.seat found h.from.knows
    (subst (λ (x : Contents V E). IsTrueOf (λ (entry : EntryFields E). seat_of entry.event) (λ n (before later : Contents V E). slice_get later.taken n ≡ slice_get before.taken n) a.seat x.beginning x.entries x) (sym c.state-state.ensures.value) c.enter-turn.ensures.state)
    c.history.ensures.lawful in
    let room : HasRoom a.lent = subst (λ (s : SectionFields V E). HasRoom s.lent) (sym c.self.view_is) c.requires.room in
    let w = waits_of g.T.Editable.after g.T.Editable.taken g.T.Editable.number kinds.Nest h.began view h.from room in
    subst (λ (x : Contents V E). (had : Granted) → slice_get x.taken c.number-number.result ≡ Some had → HasRoomFor had (holds_of (lock_of x).claims c.number-number.result) a.lent) (sym c.in-Err.ensures.err)
    (may_take_room g.T.Editable.after g.T.Editable.taken g.T.Editable.number kinds.Nest h.began a.lock.now a.seat a.lent a.own.items a.acts.items w found f c.number-number.result c.number-number.ensures)

pub leave-seat-requires-in-Err-clause-entries : goal.leave-seat-requires-in-Err-clause-entries
leave-seat-requires-in-Err-clause-entries g c =
    let a = c.self.inside in
    let V = g.row.T.Denot in
    let E = g.row.T-Edit.Denot in
    let found = c.state-state.result.now in
    let pass_is : c.enter-turn.result.pass ≡ entered a.seat found.entries = c.enter-turn.ensures.pass ∙ ap (λ (x : Contents V E). entered a.seat x.entries) (sym c.state-state.ensures.value) in
    appends_none a.seat c.enter-turn.result.pass found c.take.new.self (c.take.ensures.entries ∙ ap (λ (x : Contents V E). x.entries) c.in-Err.ensures.err) pass_is

pub leave-seat-requires-in-Err-clause-others : goal.leave-seat-requires-in-Err-clause-others
leave-seat-requires-in-Err-clause-others g c = λ found is k differ.
    ap (λ ts. slice_get ts k) c.take.ensures.taken
    ∙ get_beside c.ask.new.self.taken c.number-number.result k _ (λ e. differ (sym e ∙ c.number-number.ensures ∙ ap (λ p. p.number) (sym c.enter-turn.ensures.pass)))
    ∙ ap (λ s. slice_get s.taken k) c.in-Err.ensures.err
    ∙ ap (λ s. slice_get s.taken k) c.state-state.ensures.value
    ∙ ap (λ s. slice_get s.taken k) (same_item c.enter-turn.result.state found (sym c.enter-turn.ensures.found ∙ is))

pub returns-in-Ok-clause-waits : goal.returns-in-Ok-clause-waits
returns-in-Ok-clause-waits g c =
    let a = c.self.inside in
    let V = g.row.T.Denot in
    let E = g.row.T-Edit.Denot in
    let view : SectionFields V E = record { site = a.lock.now; seat = a.seat; lent = a.lent; own = a.own.items; acts = a.acts.items } in
    let h : Holds g.T.Editable.after g.T.Editable.taken g.T.Editable.number kinds.Nest view = subst (λ (s : SectionFields V E). Holds g.T.Editable.after g.T.Editable.taken g.T.Editable.number kinds.Nest s) (sym c.self.view_is) c.requires.holds in
    let found = c.state-state.result.now in
    let f : Finds g.T.Editable.after g.T.Editable.taken g.T.Editable.number h.began a.seat found = finds g.T.Editable.after g.T.Editable.taken g.T.Editable.number h.began a.lock.now a.seat found h.from.knows
    (subst (λ (x : Contents V E). IsTrueOf (λ (entry : EntryFields E). seat_of entry.event) (λ n (before later : Contents V E). slice_get later.taken n ≡ slice_get before.taken n) a.seat x.beginning x.entries x) (sym c.state-state.ensures.value) c.enter-turn.ensures.state)
    c.history.ensures.lawful in
    let part = subst (λ (s : SectionFields V E). IsPartOf s.seat c.args.set) (sym c.self.view_is) c.requires.part h.began h.from.knows.opening in
    let room : HasRoom a.lent = subst (λ (s : SectionFields V E). HasRoom s.lent) (sym c.self.view_is) c.requires.room in
    let now = c.ask.new.self in
    let longer : now.entries ≡ found.entries ++ bare (Ask a.seat.number c.args.set) ∷ [] = c.in-Ok.ensures.ok ∙ ap (λ n. found.entries ++ bare (Ask n c.args.set) ∷ []) c.number-number.ensures in
    let pass_is : c.enter-turn.result.pass ≡ entered a.seat found.entries = c.enter-turn.ensures.pass ∙ ap (λ (x : Contents V E). entered a.seat x.entries) (sym c.state-state.ensures.value) in
    record {
      began = h.began;
      from = waits_for_part g.T.Editable.after g.T.Editable.taken g.T.Editable.number h.began view h.from found f c.args.set part room now c.enter-turn.result.pass c.leave-seat.result longer pass_is c.leave-seat.ensures
          c.ask.ensures.beginning c.history-in-Ok.ensures.lawful c.ask.ensures.taken;
    }

pub returns-in-Ok-clause-goes : goal.returns-in-Ok-clause-goes
returns-in-Ok-clause-goes g c =
    let a = c.self.inside in
    let V = g.row.T.Denot in
    let E = g.row.T-Edit.Denot in
    let view : SectionFields V E = record { site = a.lock.now; seat = a.seat; lent = a.lent; own = a.own.items; acts = a.acts.items } in
    let h : Holds g.T.Editable.after g.T.Editable.taken g.T.Editable.number kinds.Nest view = subst (λ (s : SectionFields V E). Holds g.T.Editable.after g.T.Editable.taken g.T.Editable.number kinds.Nest s) (sym c.self.view_is) c.requires.holds in
    let found = c.state-state.result.now in
    let f : Finds g.T.Editable.after g.T.Editable.taken g.T.Editable.number h.began a.seat found = finds g.T.Editable.after g.T.Editable.taken g.T.Editable.number h.began a.lock.now a.seat found h.from.knows
    (subst (λ (x : Contents V E). IsTrueOf (λ (entry : EntryFields E). seat_of entry.event) (λ n (before later : Contents V E). slice_get later.taken n ≡ slice_get before.taken n) a.seat x.beginning x.entries x) (sym c.state-state.ensures.value) c.enter-turn.ensures.state)
    c.history.ensures.lawful in
    let now = c.ask.new.self in
    let longer : now.entries ≡ found.entries ++ bare (Ask a.seat.number c.args.set) ∷ [] = c.in-Ok.ensures.ok ∙ ap (λ n. found.entries ++ bare (Ask n c.args.set) ∷ []) c.number-number.ensures in
    let pass_is : c.enter-turn.result.pass ≡ entered a.seat found.entries = c.enter-turn.ensures.pass ∙ ap (λ (x : Contents V E). entered a.seat x.entries) (sym c.state-state.ensures.value) in
    subst (λ (s : SectionFields V E). Goes s.seat (bare (Ask s.seat.number c.args.set) ∷ []) c.leave-seat.result) c.self.view_is (went g.T.Editable.after g.T.Editable.taken g.T.Editable.number h.began a.seat found now c.enter-turn.result.pass c.leave-seat.result (bare (Ask a.seat.number c.args.set) ∷ []) f longer pass_is c.leave-seat.ensures)

pub returns-in-Ok-clause-turn : goal.returns-in-Ok-clause-turn
returns-in-Ok-clause-turn g c =
    let a = c.self.inside in
    let V = g.row.T.Denot in
    let E = g.row.T-Edit.Denot in
    let view : SectionFields V E = record { site = a.lock.now; seat = a.seat; lent = a.lent; own = a.own.items; acts = a.acts.items } in
    let h : Holds g.T.Editable.after g.T.Editable.taken g.T.Editable.number kinds.Nest view = subst (λ (s : SectionFields V E). Holds g.T.Editable.after g.T.Editable.taken g.T.Editable.number kinds.Nest s) (sym c.self.view_is) c.requires.holds in
    let found = c.state-state.result.now in
    let f : Finds g.T.Editable.after g.T.Editable.taken g.T.Editable.number h.began a.seat found = finds g.T.Editable.after g.T.Editable.taken g.T.Editable.number h.began a.lock.now a.seat found h.from.knows
    (subst (λ (x : Contents V E). IsTrueOf (λ (entry : EntryFields E). seat_of entry.event) (λ n (before later : Contents V E). slice_get later.taken n ≡ slice_get before.taken n) a.seat x.beginning x.entries x) (sym c.state-state.ensures.value) c.enter-turn.ensures.state)
    c.history.ensures.lawful in
    let now = c.ask.new.self in
    let longer : now.entries ≡ found.entries ++ bare (Ask a.seat.number c.args.set) ∷ [] = c.in-Ok.ensures.ok ∙ ap (λ n. found.entries ++ bare (Ask n c.args.set) ∷ []) c.number-number.ensures in
    let pass_is : c.enter-turn.result.pass ≡ entered a.seat found.entries = c.enter-turn.ensures.pass ∙ ap (λ (x : Contents V E). entered a.seat x.entries) (sym c.state-state.ensures.value) in
    subst (λ (s : SectionFields V E). IsOneTurn s.seat (bare (Ask s.seat.number c.args.set) ∷ []) c.leave-seat.result) c.self.view_is (one_turn g.T.Editable.after g.T.Editable.taken g.T.Editable.number h.began a.seat found now c.enter-turn.result.pass c.leave-seat.result (bare (Ask a.seat.number c.args.set) ∷ []) f longer pass_is c.leave-seat.ensures)

pub returns-in-Err-clause-holds : goal.returns-in-Err-clause-holds
returns-in-Err-clause-holds g c =
    let a = c.self.inside in
    let V = g.row.T.Denot in
    let E = g.row.T-Edit.Denot in
    let view : SectionFields V E = record { site = a.lock.now; seat = a.seat; lent = a.lent; own = a.own.items; acts = a.acts.items } in
    let h : Holds g.T.Editable.after g.T.Editable.taken g.T.Editable.number kinds.Nest view = subst (λ (s : SectionFields V E). Holds g.T.Editable.after g.T.Editable.taken g.T.Editable.number kinds.Nest s) (sym c.self.view_is) c.requires.holds in
    let found = c.state-state.result.now in
    let f : Finds g.T.Editable.after g.T.Editable.taken g.T.Editable.number h.began a.seat found = finds g.T.Editable.after g.T.Editable.taken g.T.Editable.number h.began a.lock.now a.seat found h.from.knows
    (subst (λ (x : Contents V E). IsTrueOf (λ (entry : EntryFields E). seat_of entry.event) (λ n (before later : Contents V E). slice_get later.taken n ≡ slice_get before.taken n) a.seat x.beginning x.entries x) (sym c.state-state.ensures.value) c.enter-turn.ensures.state)
    c.history.ensures.lawful in
    let room : HasRoom a.lent = subst (λ (s : SectionFields V E). HasRoom s.lent) (sym c.self.view_is) c.requires.room in
    let w = waits_of g.T.Editable.after g.T.Editable.taken g.T.Editable.number kinds.Nest h.began view h.from room in
    let now = c.take.new.self in
    let later = c.leave-seat-in-Err.result in
    let same_entries : now.entries ≡ found.entries = c.take.ensures.entries ∙ ap (λ (x : Contents V E). x.entries) c.in-Err.ensures.err in
    let longer : now.entries ≡ found.entries ++ [] = same_entries ∙ sym (append-nil found.entries) in
    let pass_is : c.enter-turn.result.pass ≡ entered a.seat found.entries = c.enter-turn.ensures.pass ∙ ap (λ (x : Contents V E). entered a.seat x.entries) (sym c.state-state.ensures.value) in
    let seen = seen_is g.T.Editable.after g.T.Editable.taken g.T.Editable.number h.began a.seat found now c.enter-turn.result.pass later [] f longer pass_is c.leave-seat-in-Err.ensures ∙ same_entries in
    let same = number_is g.T.Editable.after g.T.Editable.taken g.T.Editable.number h.began a.seat found now c.enter-turn.result.pass later [] f longer pass_is c.leave-seat-in-Err.ensures in
    let knows = knows_now g.T.Editable.after g.T.Editable.taken g.T.Editable.number h.began a.seat found now c.enter-turn.result.pass later [] f longer pass_is c.leave-seat-in-Err.ensures a.lock.now h.from.knows (subst (λ (es : List (EntryFields E)). IsLawfulFrom g.T.Editable.after g.T.Editable.taken g.T.Editable.number h.began es) (sym same_entries) f.lawful) refl in
    let held_now : slice_get now.taken a.seat.number ≡ Some (holds_of (lock_after h.began found.entries).claims a.seat.number) =
    ap (λ ts. slice_get ts a.seat.number) c.take.ensures.taken
    ∙ (λ i. slice_get (slice_set (c.in-Err.ensures.err i).taken (c.number-number.ensures i) (holds_of (lock_of (c.in-Err.ensures.err i)).claims (c.number-number.ensures i))) a.seat.number)
    ∙ get_here found.taken a.seat.number w.had _ (f.has_taken w.had w.has_lent.taken)
    ∙ ap Some (held_is g.T.Editable.after g.T.Editable.taken g.T.Editable.number kinds.Nest h.began a.lock.now a.seat a.lent a.own.items a.acts.items w found f) in
    record {
      began = h.began;
      from = holds_now g.T.Editable.after g.T.Editable.taken g.T.Editable.number kinds.Nest h.began a.lock.now a.seat a.lent a.own.items a.acts.items w found f later c.take.new.into seen same
          (ap (λ (s : LockState). is_ready s a.seat.number) (lock_is g.T.Editable.after g.T.Editable.taken g.T.Editable.number h.began a.seat found f) ∙ ready_of (lock_after h.began found.entries) a.seat.number (holding_later g.T.Editable.after g.T.Editable.taken g.T.Editable.number h.began a.seat found f h.from.holding))
          (has_now g.T.Editable.after g.T.Editable.taken g.T.Editable.number h.began a.seat found now c.enter-turn.result.pass later [] f longer pass_is c.leave-seat-in-Err.ensures _ held_now)
          (subst (λ (x : Contents V E). IsLentNow g.T.Editable.after x (holds_of (lock_of x).claims a.seat.number) c.take.new.into) c.in-Err.ensures.err
          (subst (λ (n : ℕ). IsLentNow g.T.Editable.after c.ask.new.self (holds_of (lock_of c.ask.new.self).claims n) c.take.new.into) c.number-number.ensures c.take.ensures.lent))
          knows;
    }

pub returns-in-Err-clause-err : goal.returns-in-Err-clause-err
returns-in-Err-clause-err g c =
    let a = c.self.inside in
    let V = g.row.T.Denot in
    let E = g.row.T-Edit.Denot in
    let view : SectionFields V E = record { site = a.lock.now; seat = a.seat; lent = a.lent; own = a.own.items; acts = a.acts.items } in
    let h : Holds g.T.Editable.after g.T.Editable.taken g.T.Editable.number kinds.Nest view = subst (λ (s : SectionFields V E). Holds g.T.Editable.after g.T.Editable.taken g.T.Editable.number kinds.Nest s) (sym c.self.view_is) c.requires.holds in
    let found = c.state-state.result.now in
    let f : Finds g.T.Editable.after g.T.Editable.taken g.T.Editable.number h.began a.seat found = finds g.T.Editable.after g.T.Editable.taken g.T.Editable.number h.began a.lock.now a.seat found h.from.knows
    (subst (λ (x : Contents V E). IsTrueOf (λ (entry : EntryFields E). seat_of entry.event) (λ n (before later : Contents V E). slice_get later.taken n ≡ slice_get before.taken n) a.seat x.beginning x.entries x) (sym c.state-state.ensures.value) c.enter-turn.ensures.state)
    c.history.ensures.lawful in
    let now = c.take.new.self in
    let later = c.leave-seat-in-Err.result in
    let same_entries : now.entries ≡ found.entries = c.take.ensures.entries ∙ ap (λ (x : Contents V E). x.entries) c.in-Err.ensures.err in
    let longer : now.entries ≡ found.entries ++ [] = same_entries ∙ sym (append-nil found.entries) in
    let pass_is : c.enter-turn.result.pass ≡ entered a.seat found.entries = c.enter-turn.ensures.pass ∙ ap (λ (x : Contents V E). entered a.seat x.entries) (sym c.state-state.ensures.value) in (
      ap (λ (s : SectionFields V E). s.site) c.self.view_is,
      ap (λ (s : SectionFields V E). s.acts) c.self.view_is,
      subst (λ (s : SectionFields V E). Goes s.seat [] later) c.self.view_is (went g.T.Editable.after g.T.Editable.taken g.T.Editable.number h.began a.seat found now c.enter-turn.result.pass later [] f longer pass_is c.leave-seat-in-Err.ensures),
    )

pub returns-in-Err-clause-turn_err : goal.returns-in-Err-clause-turn_err
returns-in-Err-clause-turn_err g c =
    let a = c.self.inside in
    let V = g.row.T.Denot in
    let E = g.row.T-Edit.Denot in
    let view : SectionFields V E = record { site = a.lock.now; seat = a.seat; lent = a.lent; own = a.own.items; acts = a.acts.items } in
    let h : Holds g.T.Editable.after g.T.Editable.taken g.T.Editable.number kinds.Nest view = subst (λ (s : SectionFields V E). Holds g.T.Editable.after g.T.Editable.taken g.T.Editable.number kinds.Nest s) (sym c.self.view_is) c.requires.holds in
    let found = c.state-state.result.now in
    let f : Finds g.T.Editable.after g.T.Editable.taken g.T.Editable.number h.began a.seat found = finds g.T.Editable.after g.T.Editable.taken g.T.Editable.number h.began a.lock.now a.seat found h.from.knows
    (subst (λ (x : Contents V E). IsTrueOf (λ (entry : EntryFields E). seat_of entry.event) (λ n (before later : Contents V E). slice_get later.taken n ≡ slice_get before.taken n) a.seat x.beginning x.entries x) (sym c.state-state.ensures.value) c.enter-turn.ensures.state)
    c.history.ensures.lawful in
    let now = c.take.new.self in
    let later = c.leave-seat-in-Err.result in
    let same_entries : now.entries ≡ found.entries = c.take.ensures.entries ∙ ap (λ (x : Contents V E). x.entries) c.in-Err.ensures.err in
    let longer : now.entries ≡ found.entries ++ [] = same_entries ∙ sym (append-nil found.entries) in
    let pass_is : c.enter-turn.result.pass ≡ entered a.seat found.entries = c.enter-turn.ensures.pass ∙ ap (λ (x : Contents V E). entered a.seat x.entries) (sym c.state-state.ensures.value) in
    subst (λ (s : SectionFields V E). IsOneTurn s.seat [] later) c.self.view_is (one_turn g.T.Editable.after g.T.Editable.taken g.T.Editable.number h.began a.seat found now c.enter-turn.result.pass later [] f longer pass_is c.leave-seat-in-Err.ensures)

pub returns-in-Err-clause-values : goal.returns-in-Err-clause-values
returns-in-Err-clause-values g c =
    let a = c.self.inside in
    let V = g.row.T.Denot in
    let E = g.row.T-Edit.Denot in
    let view : SectionFields V E = record { site = a.lock.now; seat = a.seat; lent = a.lent; own = a.own.items; acts = a.acts.items } in
    let h : Holds g.T.Editable.after g.T.Editable.taken g.T.Editable.number kinds.Nest view = subst (λ (s : SectionFields V E). Holds g.T.Editable.after g.T.Editable.taken g.T.Editable.number kinds.Nest s) (sym c.self.view_is) c.requires.holds in
    let found = c.state-state.result.now in
    let f : Finds g.T.Editable.after g.T.Editable.taken g.T.Editable.number h.began a.seat found = finds g.T.Editable.after g.T.Editable.taken g.T.Editable.number h.began a.lock.now a.seat found h.from.knows
    (subst (λ (x : Contents V E). IsTrueOf (λ (entry : EntryFields E). seat_of entry.event) (λ n (before later : Contents V E). slice_get later.taken n ≡ slice_get before.taken n) a.seat x.beginning x.entries x) (sym c.state-state.ensures.value) c.enter-turn.ensures.state)
    c.history.ensures.lawful in
    let now = c.take.new.self in
    let later = c.leave-seat-in-Err.result in
    let same_entries : now.entries ≡ found.entries = c.take.ensures.entries ∙ ap (λ (x : Contents V E). x.entries) c.in-Err.ensures.err in
    let longer : now.entries ≡ found.entries ++ [] = same_entries ∙ sym (append-nil found.entries) in
    let pass_is : c.enter-turn.result.pass ≡ entered a.seat found.entries = c.enter-turn.ensures.pass ∙ ap (λ (x : Contents V E). entered a.seat x.entries) (sym c.state-state.ensures.value) in
    let goes : Goes a.seat [] later = went g.T.Editable.after g.T.Editable.taken g.T.Editable.number h.began a.seat found now c.enter-turn.result.pass later [] f longer pass_is c.leave-seat-in-Err.ensures in
    subst (λ (s : SectionFields V E). KeepsValues g.T.Editable.after (guarded s) (record { site = a.lock.now; seat = later; acts = a.acts.items })) c.self.view_is
    (keeps_values g.T.Editable.after g.T.Editable.taken g.T.Editable.number h.began a.lock.now a.lock.now a.seat later a.acts.items found f h.from.knows.opening goes.same.2 (seen_is g.T.Editable.after g.T.Editable.taken g.T.Editable.number h.began a.seat found now c.enter-turn.result.pass later [] f longer pass_is c.leave-seat-in-Err.ensures ∙ same_entries))

pub returns-in-Err-clause-holding : goal.returns-in-Err-clause-holding
returns-in-Err-clause-holding g c =
    let a = c.self.inside in
    let V = g.row.T.Denot in
    let E = g.row.T-Edit.Denot in
    let view : SectionFields V E = record { site = a.lock.now; seat = a.seat; lent = a.lent; own = a.own.items; acts = a.acts.items } in
    let h : Holds g.T.Editable.after g.T.Editable.taken g.T.Editable.number kinds.Nest view = subst (λ (s : SectionFields V E). Holds g.T.Editable.after g.T.Editable.taken g.T.Editable.number kinds.Nest s) (sym c.self.view_is) c.requires.holds in
    let found = c.state-state.result.now in
    let f : Finds g.T.Editable.after g.T.Editable.taken g.T.Editable.number h.began a.seat found = finds g.T.Editable.after g.T.Editable.taken g.T.Editable.number h.began a.lock.now a.seat found h.from.knows
    (subst (λ (x : Contents V E). IsTrueOf (λ (entry : EntryFields E). seat_of entry.event) (λ n (before later : Contents V E). slice_get later.taken n ≡ slice_get before.taken n) a.seat x.beginning x.entries x) (sym c.state-state.ensures.value) c.enter-turn.ensures.state)
    c.history.ensures.lawful in
    let now = c.take.new.self in
    let later = c.leave-seat-in-Err.result in
    let same_entries : now.entries ≡ found.entries = c.take.ensures.entries ∙ ap (λ (x : Contents V E). x.entries) c.in-Err.ensures.err in
    let longer : now.entries ≡ found.entries ++ [] = same_entries ∙ sym (append-nil found.entries) in
    let pass_is : c.enter-turn.result.pass ≡ entered a.seat found.entries = c.enter-turn.ensures.pass ∙ ap (λ (x : Contents V E). entered a.seat x.entries) (sym c.state-state.ensures.value) in
    let goes : Goes a.seat [] later = went g.T.Editable.after g.T.Editable.taken g.T.Editable.number h.began a.seat found now c.enter-turn.result.pass later [] f longer pass_is c.leave-seat-in-Err.ensures in
    subst (λ (s : SectionFields V E). KeepsHolding s.seat later) c.self.view_is
    (keeps_holding g.T.Editable.after g.T.Editable.taken g.T.Editable.number h.began a.seat later found f h.from.knows.opening goes.same.2 goes.same.1 (seen_is g.T.Editable.after g.T.Editable.taken g.T.Editable.number h.began a.seat found now c.enter-turn.result.pass later [] f longer pass_is c.leave-seat-in-Err.ensures ∙ same_entries))
