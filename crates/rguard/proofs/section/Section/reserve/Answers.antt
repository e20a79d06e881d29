use Rattle.std.proofs.Common.{sym, ap, subst}
use Rattle.rguard.specs.LentSections.{SectionFields, Holds, guarded}
use Rattle.rguard.specs.declared.kind.GuardKind.TheVariants.{Nest}
use Rattle.rguard.proofs.Asking.{holds_reserved}
use Rattle.rguard.proofs.section.Section.reserve.Goals as goal

pub returns-clause-holds : goal.returns-clause-holds
returns-clause-holds g c =
    let a = c.self.inside in
    let V = g.row.T.Denot in
    let E = g.row.T-Edit.Denot in
    let view : SectionFields V E = record { site = a.lock.now; seat = a.seat; lent = a.lent; own = a.own.items; acts = a.acts.items } in
    let h : Holds g.T.Editable.after g.T.Editable.taken g.T.Editable.number Nest view = subst (λ (s : SectionFields V E). Holds g.T.Editable.after g.T.Editable.taken g.T.Editable.number Nest s) (sym c.self.view_is) c.requires in
    record { began = h.began; from = holds_reserved g.T.Editable.after g.T.Editable.taken g.T.Editable.number h.began view c.reserve.new.self c.reserve.ensures.reads c.reserve.ensures.writes h.from }

pub returns-clause-same : goal.returns-clause-same
returns-clause-same g c = ap (λ (s : SectionFields g.row.T.Denot g.row.T-Edit.Denot). guarded s) c.self.view_is
