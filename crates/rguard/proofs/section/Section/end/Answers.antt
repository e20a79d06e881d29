use Rattle.std.proofs.Common.{◌≡◌, [], ◌∷◌, ◌++◌, refl, sym, ap, subst, ◌∙◌}
use Rattle.std.specs.Prelude.{slice_get}
use Rattle.rclaim.specs.Events.{seat_of}
use Rattle.rclaim.specs.declared.event.Event.TheVariants.{Finish}
use Rattle.rlock.specs.Known.{IsTrueOf, entered}
use Rattle.rvalue.specs.Entries.{EntryFields}
use Rattle.rstate.specs.Contents.{Contents}
use Rattle.rstate.proofs.homes.Lists.{same_item, get_beside}
use Rattle.rguard.specs.Seats.{Goes, IsOneTurn}
use Rattle.rguard.specs.LentSections.{SectionFields, Ends}
use Rattle.rguard.proofs.Ending.{finish_follows, finish_home, idle_now}
use Rattle.rguard.proofs.seats.Finding.{Finds, finds}
use Rattle.rguard.proofs.seats.Turning.{went, one_turn, appends_one}
use Rattle.rguard.proofs.section.Section.end.Goals as goal

pub finish-lent-requires-clause-right : goal.finish-lent-requires-clause-right
finish-lent-requires-clause-right g c κs within =
    let a = c.self.inside in
    let V = g.row.T.Denot in
    let E = g.row.T-Edit.Denot in
    let view : SectionFields V E = record { site = a.lock.now; seat = a.seat; lent = a.lent; own = a.own.items; acts = a.acts.items } in
    let w : Ends g.T.Editable.after g.T.Editable.taken g.T.Editable.number view = subst (λ (s : SectionFields V E). Ends g.T.Editable.after g.T.Editable.taken g.T.Editable.number s) (sym c.self.view_is) c.requires in
    let found = c.state-state.result.now in
    let f : Finds g.T.Editable.after g.T.Editable.taken g.T.Editable.number w.began a.seat found = finds g.T.Editable.after g.T.Editable.taken g.T.Editable.number w.began a.lock.now a.seat found w.from.knows
    (subst (λ (x : Contents V E). IsTrueOf (λ (entry : EntryFields E). seat_of entry.event) (λ n (before later : Contents V E). slice_get later.taken n ≡ slice_get before.taken n) a.seat x.beginning x.entries x) (sym c.state-state.ensures.value) c.enter-turn.ensures.state)
    c.history.ensures.lawful in
    finish_follows g.T.Editable.after g.T.Editable.taken g.T.Editable.number w.began a.seat found f c.number-number.result a.acts.items c.number-number.ensures w.from.knows.there w.from.holding w.from.right

pub finish-lent-requires-clause-back : goal.finish-lent-requires-clause-back
finish-lent-requires-clause-back g c κs within =
    let a = c.self.inside in
    let V = g.row.T.Denot in
    let E = g.row.T-Edit.Denot in
    let view : SectionFields V E = record { site = a.lock.now; seat = a.seat; lent = a.lent; own = a.own.items; acts = a.acts.items } in
    let w : Ends g.T.Editable.after g.T.Editable.taken g.T.Editable.number view = subst (λ (s : SectionFields V E). Ends g.T.Editable.after g.T.Editable.taken g.T.Editable.number s) (sym c.self.view_is) c.requires in
    let found = c.state-state.result.now in
    let f : Finds g.T.Editable.after g.T.Editable.taken g.T.Editable.number w.began a.seat found = finds g.T.Editable.after g.T.Editable.taken g.T.Editable.number w.began a.lock.now a.seat found w.from.knows
    (subst (λ (x : Contents V E). IsTrueOf (λ (entry : EntryFields E). seat_of entry.event) (λ n (before later : Contents V E). slice_get later.taken n ≡ slice_get before.taken n) a.seat x.beginning x.entries x) (sym c.state-state.ensures.value) c.enter-turn.ensures.state)
    c.history.ensures.lawful in
    finish_home g.T.Editable.after g.T.Editable.taken g.T.Editable.number w.began a.seat found f c.number-number.result a.acts.items a.lent c.number-number.ensures w.from.right w.from.taken_is w.from.lent

pub leave-seat-requires-clause-entries : goal.leave-seat-requires-clause-entries
leave-seat-requires-clause-entries g c =
    let a = c.self.inside in
    let V = g.row.T.Denot in
    let E = g.row.T-Edit.Denot in
    let found = c.state-state.result.now in
    let entry : EntryFields E = record { event = Finish a.seat.number; acts = a.acts.items } in
    let now = c.finish-lent.new.self in
    let longer : now.entries ≡ found.entries ++ entry ∷ [] = c.finish-lent.ensures.entries ∙ ap (λ n. found.entries ++ record { event = Finish n; acts = a.acts.items } ∷ []) c.number-number.ensures in
    let pass_is : c.enter-turn.result.pass ≡ entered a.seat found.entries = c.enter-turn.ensures.pass ∙ ap (λ (x : Contents V E). entered a.seat x.entries) (sym c.state-state.ensures.value) in
    appends_one a.seat c.enter-turn.result.pass found now entry refl longer pass_is

pub leave-seat-requires-clause-others : goal.leave-seat-requires-clause-others
leave-seat-requires-clause-others g c = λ found is k differ.
    ap (λ ts. slice_get ts k) c.finish-lent.ensures.taken
    ∙ get_beside c.state-state.result.now.taken c.number-number.result k _ (λ e. differ (sym e ∙ c.number-number.ensures ∙ ap (λ p. p.number) (sym c.enter-turn.ensures.pass)))
    ∙ ap (λ s. slice_get s.taken k) c.state-state.ensures.value
    ∙ ap (λ s. slice_get s.taken k) (same_item c.enter-turn.result.state found (sym c.enter-turn.ensures.found ∙ is))

pub returns-clause-goes : goal.returns-clause-goes
returns-clause-goes g c =
    let a = c.self.inside in
    let V = g.row.T.Denot in
    let E = g.row.T-Edit.Denot in
    let view : SectionFields V E = record { site = a.lock.now; seat = a.seat; lent = a.lent; own = a.own.items; acts = a.acts.items } in
    let w : Ends g.T.Editable.after g.T.Editable.taken g.T.Editable.number view = subst (λ (s : SectionFields V E). Ends g.T.Editable.after g.T.Editable.taken g.T.Editable.number s) (sym c.self.view_is) c.requires in
    let found = c.state-state.result.now in
    let f : Finds g.T.Editable.after g.T.Editable.taken g.T.Editable.number w.began a.seat found = finds g.T.Editable.after g.T.Editable.taken g.T.Editable.number w.began a.lock.now a.seat found w.from.knows
    (subst (λ (x : Contents V E). IsTrueOf (λ (entry : EntryFields E). seat_of entry.event) (λ n (before later : Contents V E). slice_get later.taken n ≡ slice_get before.taken n) a.seat x.beginning x.entries x) (sym c.state-state.ensures.value) c.enter-turn.ensures.state)
    c.history.ensures.lawful in
    let entry : EntryFields E = record { event = Finish a.seat.number; acts = a.acts.items } in
    let now = c.finish-lent.new.self in
    let longer : now.entries ≡ found.entries ++ entry ∷ [] = c.finish-lent.ensures.entries ∙ ap (λ n. found.entries ++ record { event = Finish n; acts = a.acts.items } ∷ []) c.number-number.ensures in
    let pass_is : c.enter-turn.result.pass ≡ entered a.seat found.entries = c.enter-turn.ensures.pass ∙ ap (λ (x : Contents V E). entered a.seat x.entries) (sym c.state-state.ensures.value) in
    subst (λ (s : SectionFields V E). Goes s.seat (record { event = Finish s.seat.number; acts = s.acts } ∷ []) c.leave-seat.result) c.self.view_is (went g.T.Editable.after g.T.Editable.taken g.T.Editable.number w.began a.seat found now c.enter-turn.result.pass c.leave-seat.result (entry ∷ []) f longer pass_is c.leave-seat.ensures)

pub returns-clause-turn : goal.returns-clause-turn
returns-clause-turn g c =
    let a = c.self.inside in
    let V = g.row.T.Denot in
    let E = g.row.T-Edit.Denot in
    let view : SectionFields V E = record { site = a.lock.now; seat = a.seat; lent = a.lent; own = a.own.items; acts = a.acts.items } in
    let w : Ends g.T.Editable.after g.T.Editable.taken g.T.Editable.number view = subst (λ (s : SectionFields V E). Ends g.T.Editable.after g.T.Editable.taken g.T.Editable.number s) (sym c.self.view_is) c.requires in
    let found = c.state-state.result.now in
    let f : Finds g.T.Editable.after g.T.Editable.taken g.T.Editable.number w.began a.seat found = finds g.T.Editable.after g.T.Editable.taken g.T.Editable.number w.began a.lock.now a.seat found w.from.knows
    (subst (λ (x : Contents V E). IsTrueOf (λ (entry : EntryFields E). seat_of entry.event) (λ n (before later : Contents V E). slice_get later.taken n ≡ slice_get before.taken n) a.seat x.beginning x.entries x) (sym c.state-state.ensures.value) c.enter-turn.ensures.state)
    c.history.ensures.lawful in
    let entry : EntryFields E = record { event = Finish a.seat.number; acts = a.acts.items } in
    let now = c.finish-lent.new.self in
    let longer : now.entries ≡ found.entries ++ entry ∷ [] = c.finish-lent.ensures.entries ∙ ap (λ n. found.entries ++ record { event = Finish n; acts = a.acts.items } ∷ []) c.number-number.ensures in
    let pass_is : c.enter-turn.result.pass ≡ entered a.seat found.entries = c.enter-turn.ensures.pass ∙ ap (λ (x : Contents V E). entered a.seat x.entries) (sym c.state-state.ensures.value) in
    subst (λ (s : SectionFields V E). IsOneTurn s.seat (record { event = Finish s.seat.number; acts = s.acts } ∷ []) c.leave-seat.result) c.self.view_is (one_turn g.T.Editable.after g.T.Editable.taken g.T.Editable.number w.began a.seat found now c.enter-turn.result.pass c.leave-seat.result (entry ∷ []) f longer pass_is c.leave-seat.ensures)

pub returns-clause-idle : goal.returns-clause-idle
returns-clause-idle g c =
    let a = c.self.inside in
    let V = g.row.T.Denot in
    let E = g.row.T-Edit.Denot in
    let view : SectionFields V E = record { site = a.lock.now; seat = a.seat; lent = a.lent; own = a.own.items; acts = a.acts.items } in
    let w : Ends g.T.Editable.after g.T.Editable.taken g.T.Editable.number view = subst (λ (s : SectionFields V E). Ends g.T.Editable.after g.T.Editable.taken g.T.Editable.number s) (sym c.self.view_is) c.requires in
    let found = c.state-state.result.now in
    let f : Finds g.T.Editable.after g.T.Editable.taken g.T.Editable.number w.began a.seat found = finds g.T.Editable.after g.T.Editable.taken g.T.Editable.number w.began a.lock.now a.seat found w.from.knows
    (subst (λ (x : Contents V E). IsTrueOf (λ (entry : EntryFields E). seat_of entry.event) (λ n (before later : Contents V E). slice_get later.taken n ≡ slice_get before.taken n) a.seat x.beginning x.entries x) (sym c.state-state.ensures.value) c.enter-turn.ensures.state)
    c.history.ensures.lawful in
    let entry : EntryFields E = record { event = Finish a.seat.number; acts = a.acts.items } in
    let now = c.finish-lent.new.self in
    let longer : now.entries ≡ found.entries ++ entry ∷ [] = c.finish-lent.ensures.entries ∙ ap (λ n. found.entries ++ record { event = Finish n; acts = a.acts.items } ∷ []) c.number-number.ensures in
    let pass_is : c.enter-turn.result.pass ≡ entered a.seat found.entries = c.enter-turn.ensures.pass ∙ ap (λ (x : Contents V E). entered a.seat x.entries) (sym c.state-state.ensures.value) in
    let goes : Goes a.seat (entry ∷ []) c.leave-seat.result = went g.T.Editable.after g.T.Editable.taken g.T.Editable.number w.began a.seat found now c.enter-turn.result.pass c.leave-seat.result (entry ∷ []) f longer pass_is c.leave-seat.ensures in
    idle_now a.seat.mine c.leave-seat.result.mine a.seat.number a.acts.items goes.mine
