use Rattle.std.proofs.Common.{◌≡◌, ℕ, List, [], ◌∷◌, ◌++◌, refl, sym, ap, subst, ◌∙◌}
use Rattle.std.specs.Prelude.{slice_get, slice_set}
use Rattle.rclaim.specs.Events.{seat_of}
use Rattle.rclaim.specs.declared.event.Event.TheVariants.{Rise}
use Rattle.rlock.specs.Known.{IsTrueOf, entered}
use Rattle.rmodel.specs.Holds.{nothing}
use Rattle.rvalue.specs.declared.act.Act.{Act}
use Rattle.rvalue.specs.Entries.{EntryFields}
use Rattle.rstate.specs.Contents.{Contents}
use Rattle.rstate.proofs.homes.Lists.{same_item, get_beside}
use Rattle.rguard.specs.declared.kind.GuardKind.TheVariants as kinds
use Rattle.rguard.specs.Seats.{Goes, IsOneTurn}
use Rattle.rguard.specs.LentSections.{SectionFields, Holds, WaitsFrom}
use Rattle.rguard.proofs.seats.Finding.{Finds, finds}
use Rattle.rguard.proofs.LentRising.{rise_follows, rise_home, waits_to_write}
use Rattle.rguard.proofs.seats.Turning.{went, one_turn, appends_one}
use Rattle.rguard.proofs.section.Section.rise.Goals as goal

pub rise-requires-clause-right : goal.rise-requires-clause-right
rise-requires-clause-right g c κs within =
    let a = c.self.inside in
    let V = g.row.T.Denot in
    let E = g.row.T-Edit.Denot in
    let view : SectionFields V E = record { site = a.lock.now; seat = a.seat; lent = a.lent; own = a.own.items; acts = a.acts.items } in
    let w : Holds g.T.Editable.after g.T.Editable.taken g.T.Editable.number kinds.Rise view = subst (λ (s : SectionFields V E). Holds g.T.Editable.after g.T.Editable.taken g.T.Editable.number kinds.Rise s) (sym c.self.view_is) c.requires.holds in
    let found = c.state-state.result.now in
    let f : Finds g.T.Editable.after g.T.Editable.taken g.T.Editable.number w.began a.seat found = finds g.T.Editable.after g.T.Editable.taken g.T.Editable.number w.began a.lock.now a.seat found w.from.knows
    (subst (λ (x : Contents V E). IsTrueOf (λ (entry : EntryFields E). seat_of entry.event) (λ n (before later : Contents V E). slice_get later.taken n ≡ slice_get before.taken n) a.seat x.beginning x.entries x) (sym c.state-state.ensures.value) c.enter-turn.ensures.state)
    c.history.ensures.lawful in
    rise_follows g.T.Editable.after g.T.Editable.taken g.T.Editable.number w.began view w.from found f c.number-number.result c.number-number.ensures

pub rise-requires-clause-back : goal.rise-requires-clause-back
rise-requires-clause-back g c κs within =
    let a = c.self.inside in
    let V = g.row.T.Denot in
    let E = g.row.T-Edit.Denot in
    let view : SectionFields V E = record { site = a.lock.now; seat = a.seat; lent = a.lent; own = a.own.items; acts = a.acts.items } in
    let w : Holds g.T.Editable.after g.T.Editable.taken g.T.Editable.number kinds.Rise view = subst (λ (s : SectionFields V E). Holds g.T.Editable.after g.T.Editable.taken g.T.Editable.number kinds.Rise s) (sym c.self.view_is) c.requires.holds in
    let found = c.state-state.result.now in
    let f : Finds g.T.Editable.after g.T.Editable.taken g.T.Editable.number w.began a.seat found = finds g.T.Editable.after g.T.Editable.taken g.T.Editable.number w.began a.lock.now a.seat found w.from.knows
    (subst (λ (x : Contents V E). IsTrueOf (λ (entry : EntryFields E). seat_of entry.event) (λ n (before later : Contents V E). slice_get later.taken n ≡ slice_get before.taken n) a.seat x.beginning x.entries x) (sym c.state-state.ensures.value) c.enter-turn.ensures.state)
    c.history.ensures.lawful in
    rise_home g.T.Editable.after g.T.Editable.taken g.T.Editable.number w.began view w.from found f c.number-number.result c.number-number.ensures

pub leave-requires-clause-entries : goal.leave-requires-clause-entries
leave-requires-clause-entries g c =
    let a = c.self.inside in
    let V = g.row.T.Denot in
    let E = g.row.T-Edit.Denot in
    let found = c.state-state.result.now in
    let entry : EntryFields E = record { event = Rise a.seat.number; acts = a.acts.items } in
    let now = c.rise.new.self in
    let longer : now.entries ≡ found.entries ++ entry ∷ [] = c.rise.ensures.entries ∙ ap (λ n. found.entries ++ record { event = Rise n; acts = a.acts.items } ∷ []) c.number-number.ensures in
    let pass_is : c.enter-turn.result.pass ≡ entered a.seat found.entries = c.enter-turn.ensures.pass ∙ ap (λ (x : Contents V E). entered a.seat x.entries) (sym c.state-state.ensures.value) in
    appends_one a.seat c.enter-turn.result.pass found now entry refl longer pass_is

pub leave-requires-clause-others : goal.leave-requires-clause-others
leave-requires-clause-others g c = λ found is k differ.
    ap (λ ts. slice_get ts k) c.rise.ensures.taken
    ∙ get_beside c.state-state.result.now.taken c.number-number.result k _ (λ e. differ (sym e ∙ c.number-number.ensures ∙ ap (λ p. p.number) (sym c.enter-turn.ensures.pass)))
    ∙ ap (λ s. slice_get s.taken k) c.state-state.ensures.value
    ∙ ap (λ s. slice_get s.taken k) (same_item c.enter-turn.result.state found (sym c.enter-turn.ensures.found ∙ is))

pub returns-clause-waits : goal.returns-clause-waits
returns-clause-waits g c =
    let a = c.self.inside in
    let V = g.row.T.Denot in
    let E = g.row.T-Edit.Denot in
    let view : SectionFields V E = record { site = a.lock.now; seat = a.seat; lent = a.lent; own = a.own.items; acts = a.acts.items } in
    let w : Holds g.T.Editable.after g.T.Editable.taken g.T.Editable.number kinds.Rise view = subst (λ (s : SectionFields V E). Holds g.T.Editable.after g.T.Editable.taken g.T.Editable.number kinds.Rise s) (sym c.self.view_is) c.requires.holds in
    let found = c.state-state.result.now in
    let f : Finds g.T.Editable.after g.T.Editable.taken g.T.Editable.number w.began a.seat found = finds g.T.Editable.after g.T.Editable.taken g.T.Editable.number w.began a.lock.now a.seat found w.from.knows
    (subst (λ (x : Contents V E). IsTrueOf (λ (entry : EntryFields E). seat_of entry.event) (λ n (before later : Contents V E). slice_get later.taken n ≡ slice_get before.taken n) a.seat x.beginning x.entries x) (sym c.state-state.ensures.value) c.enter-turn.ensures.state)
    c.history.ensures.lawful in
    let entry : EntryFields E = record { event = Rise a.seat.number; acts = a.acts.items } in
    let now = c.rise.new.self in
    let longer : now.entries ≡ found.entries ++ entry ∷ [] = c.rise.ensures.entries ∙ ap (λ n. found.entries ++ record { event = Rise n; acts = a.acts.items } ∷ []) c.number-number.ensures in
    let pass_is : c.enter-turn.result.pass ≡ entered a.seat found.entries = c.enter-turn.ensures.pass ∙ ap (λ (x : Contents V E). entered a.seat x.entries) (sym c.state-state.ensures.value) in
    let first = waits_to_write g.T.Editable.after g.T.Editable.taken g.T.Editable.number w.began view w.from found f now c.enter-turn.result.pass c.leave.result longer pass_is c.leave.ensures c.rise.ensures.beginning c.history-2.ensures.lawful
    (c.rise.ensures.taken ∙ ap (λ n. slice_set found.taken n nothing) c.number-number.ensures) c.args.next c.requires.next in
    record {
      began = w.began;
      from = subst (λ (own : List (ℕ × V)). WaitsFrom g.T.Editable.after g.T.Editable.taken g.T.Editable.number kinds.Write w.began (record { site = a.lock.now; seat = c.leave.result; lent = c.args.next; own = own; acts = c.new.result.items })) (sym c.clear.ensures.items)
          (subst (λ (acts : List (Act E)). WaitsFrom g.T.Editable.after g.T.Editable.taken g.T.Editable.number kinds.Write w.began (record { site = a.lock.now; seat = c.leave.result; lent = c.args.next; own = []; acts = acts })) (sym c.new.ensures.items) first);
    }

pub returns-clause-goes : goal.returns-clause-goes
returns-clause-goes g c =
    let a = c.self.inside in
    let V = g.row.T.Denot in
    let E = g.row.T-Edit.Denot in
    let view : SectionFields V E = record { site = a.lock.now; seat = a.seat; lent = a.lent; own = a.own.items; acts = a.acts.items } in
    let w : Holds g.T.Editable.after g.T.Editable.taken g.T.Editable.number kinds.Rise view = subst (λ (s : SectionFields V E). Holds g.T.Editable.after g.T.Editable.taken g.T.Editable.number kinds.Rise s) (sym c.self.view_is) c.requires.holds in
    let found = c.state-state.result.now in
    let f : Finds g.T.Editable.after g.T.Editable.taken g.T.Editable.number w.began a.seat found = finds g.T.Editable.after g.T.Editable.taken g.T.Editable.number w.began a.lock.now a.seat found w.from.knows
    (subst (λ (x : Contents V E). IsTrueOf (λ (entry : EntryFields E). seat_of entry.event) (λ n (before later : Contents V E). slice_get later.taken n ≡ slice_get before.taken n) a.seat x.beginning x.entries x) (sym c.state-state.ensures.value) c.enter-turn.ensures.state)
    c.history.ensures.lawful in
    let entry : EntryFields E = record { event = Rise a.seat.number; acts = a.acts.items } in
    let now = c.rise.new.self in
    let longer : now.entries ≡ found.entries ++ entry ∷ [] = c.rise.ensures.entries ∙ ap (λ n. found.entries ++ record { event = Rise n; acts = a.acts.items } ∷ []) c.number-number.ensures in
    let pass_is : c.enter-turn.result.pass ≡ entered a.seat found.entries = c.enter-turn.ensures.pass ∙ ap (λ (x : Contents V E). entered a.seat x.entries) (sym c.state-state.ensures.value) in
    subst (λ (s : SectionFields V E). Goes s.seat (record { event = Rise s.seat.number; acts = s.acts } ∷ []) c.leave.result) c.self.view_is (went g.T.Editable.after g.T.Editable.taken g.T.Editable.number w.began a.seat found now c.enter-turn.result.pass c.leave.result (entry ∷ []) f longer pass_is c.leave.ensures)

pub returns-clause-turn : goal.returns-clause-turn
returns-clause-turn g c =
    let a = c.self.inside in
    let V = g.row.T.Denot in
    let E = g.row.T-Edit.Denot in
    let view : SectionFields V E = record { site = a.lock.now; seat = a.seat; lent = a.lent; own = a.own.items; acts = a.acts.items } in
    let w : Holds g.T.Editable.after g.T.Editable.taken g.T.Editable.number kinds.Rise view = subst (λ (s : SectionFields V E). Holds g.T.Editable.after g.T.Editable.taken g.T.Editable.number kinds.Rise s) (sym c.self.view_is) c.requires.holds in
    let found = c.state-state.result.now in
    let f : Finds g.T.Editable.after g.T.Editable.taken g.T.Editable.number w.began a.seat found = finds g.T.Editable.after g.T.Editable.taken g.T.Editable.number w.began a.lock.now a.seat found w.from.knows
    (subst (λ (x : Contents V E). IsTrueOf (λ (entry : EntryFields E). seat_of entry.event) (λ n (before later : Contents V E). slice_get later.taken n ≡ slice_get before.taken n) a.seat x.beginning x.entries x) (sym c.state-state.ensures.value) c.enter-turn.ensures.state)
    c.history.ensures.lawful in
    let entry : EntryFields E = record { event = Rise a.seat.number; acts = a.acts.items } in
    let now = c.rise.new.self in
    let longer : now.entries ≡ found.entries ++ entry ∷ [] = c.rise.ensures.entries ∙ ap (λ n. found.entries ++ record { event = Rise n; acts = a.acts.items } ∷ []) c.number-number.ensures in
    let pass_is : c.enter-turn.result.pass ≡ entered a.seat found.entries = c.enter-turn.ensures.pass ∙ ap (λ (x : Contents V E). entered a.seat x.entries) (sym c.state-state.ensures.value) in
    subst (λ (s : SectionFields V E). IsOneTurn s.seat (record { event = Rise s.seat.number; acts = s.acts } ∷ []) c.leave.result) c.self.view_is (one_turn g.T.Editable.after g.T.Editable.taken g.T.Editable.number w.began a.seat found now c.enter-turn.result.pass c.leave.result (entry ∷ []) f longer pass_is c.leave.ensures)
