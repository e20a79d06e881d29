use Rattle.std.proofs.Common.{[], ◌∷◌, List, sym, subst}
use Rattle.rclaim.specs.declared.event.Event.TheVariants.{Finish}
use Rattle.rvalue.specs.declared.act.Act.{Act}
use Rattle.rguard.specs.Seats.{Goes, IsOneTurn, bare}
use Rattle.rguard.specs.LentSections.{SectionFields, Holds}
use Rattle.rguard.proofs.LentEditing.{ends_bare}
use Rattle.rguard.proofs.section.Section.discard.Goals as goal

pub end-requires-after_bounds : goal.end-requires-after_bounds
end-requires-after_bounds g c κs within =
    let a = c.section.inside in
    let V = g.row.T.Denot in
    let E = g.row.T-Edit.Denot in
    let view : SectionFields V E = record { site = a.lock.now; seat = a.seat; lent = a.lent; own = a.own.items; acts = a.acts.items } in
    let h : Holds g.T.Editable.after g.T.Editable.taken g.T.Editable.number c.requires.0 view = subst (λ (s : SectionFields V E). Holds g.T.Editable.after g.T.Editable.taken g.T.Editable.number c.requires.0 s) (sym c.section.view_is) c.requires.1 in
    record { began = h.began; from = ends_bare g.T.Editable.after g.T.Editable.taken g.T.Editable.number h.began view c.requires.0 a.own.items c.clear.new.self.items c.clear.ensures.items h.from }

pub returns-clause-goes : goal.returns-clause-goes
returns-clause-goes g c =
    subst (λ (s : SectionFields g.row.T.Denot g.row.T-Edit.Denot). Goes s.seat (bare (Finish s.seat.number) ∷ []) c.end.result) c.section.view_is
    (subst (λ (acts : List (Act g.row.T-Edit.Denot)). Goes c.section.inside.seat (record { event = Finish c.section.inside.seat.number; acts = acts } ∷ []) c.end.result) c.clear.ensures.items c.end.ensures.goes)

pub returns-clause-turn : goal.returns-clause-turn
returns-clause-turn g c =
    subst (λ (s : SectionFields g.row.T.Denot g.row.T-Edit.Denot). IsOneTurn s.seat (bare (Finish s.seat.number) ∷ []) c.end.result) c.section.view_is
    (subst (λ (acts : List (Act g.row.T-Edit.Denot)). IsOneTurn c.section.inside.seat (record { event = Finish c.section.inside.seat.number; acts = acts } ∷ []) c.end.result) c.clear.ensures.items c.end.ensures.turn)
