use Rattle.std.proofs.Common.{◌≡◌, refl, sym, append-nil, ◌∙◌, ap, subst, ◌++◌, [], append_assoc}
use Rattle.rlock.proofs.Entries.{IsPrefix-trans}
use Rattle.rguard.specs.declared.kind.GuardKind.{GuardKind}
use Rattle.rguard.specs.Seats.{SeatOf, Goes}
use Rattle.rguard.specs.LentSections.{SectionFields, Waits}
use Rattle.rguard.proofs.section.Section.wait.Goals as goal

module _ {V E : Type 0} where
  goes_nowhere : (a : SeatOf V E) → Goes a [] a
  goes_nowhere a = record { same = (refl, refl, refl); seen = ([], append-nil a.seen); mine = sym (append-nil a.mine) }

  goes_on : (a b c : SeatOf V E) → Goes a [] b → Goes b [] c → Goes a [] c
  goes_on a b c p q = record {
    same = (q.same.0 ∙ p.same.0, q.same.1 ∙ p.same.1, q.same.2 ∙ p.same.2);
    seen = IsPrefix-trans a.seen b.seen c.seen p.seen q.seen;
    mine = q.mine ∙ ap (λ es. es ++ []) p.mine ∙ append_assoc a.mine [] [];
  }

pub loop-init : goal.loop-init
loop-init g c = (λ kind waits. waits, refl, refl, goes_nowhere c.args.self.seat)

pub look-requires-after_bounds : goal.look-requires-after_bounds
look-requires-after_bounds g c κs within = (c.requires.0, c.loop.invariant.0 c.requires.0 c.requires.1)

pub returns-in-Ok-clause-holds : goal.returns-in-Ok-clause-holds
returns-in-Ok-clause-holds g c = λ kind waits. c.in-Ok.ensures.holds kind (c.loop.invariant.0 kind waits)

pub returns-in-Ok-clause-same : goal.returns-in-Ok-clause-same
returns-in-Ok-clause-same g c = (c.in-Ok.ensures.ready.site ∙ c.loop.invariant.1, c.in-Ok.ensures.ready.acts ∙ c.loop.invariant.2)

pub returns-in-Ok-clause-goes : goal.returns-in-Ok-clause-goes
returns-in-Ok-clause-goes g c = goes_on c.args.self.seat c.loop.waiting.seat c.in-Ok.section.seat c.loop.invariant.3 c.in-Ok.ensures.ready.goes

pub rest-waiting-requires-after_bounds : goal.rest-waiting-requires-after_bounds
rest-waiting-requires-after_bounds g c κs within = (c.requires.0, c.in-Err.ensures.waits c.requires.0 (c.loop.invariant.0 c.requires.0 c.requires.1))

pub loop-preserved : goal.loop-preserved
loop-preserved g c =
    let V = g.row.T.Denot in
    let E = g.row.T-Edit.Denot in
    subst
    (λ (s : SectionFields V E). ((kind : GuardKind) → Waits g.T.Editable.after g.T.Editable.taken g.T.Editable.number kind c.args.self → Waits g.T.Editable.after g.T.Editable.taken g.T.Editable.number kind s)
    × (s.site ≡ c.args.self.site) × (s.acts ≡ c.args.self.acts) × Goes c.args.self.seat [] s.seat)
    (sym c.rest-waiting.ensures) (
      λ kind waits. c.in-Err.ensures.waits kind (c.loop.invariant.0 kind waits),
      c.in-Err.ensures.pending.site ∙ c.loop.invariant.1,
      c.in-Err.ensures.pending.acts ∙ c.loop.invariant.2,
      goes_on c.args.self.seat c.loop.waiting.seat c.in-Err.section.seat c.loop.invariant.3 c.in-Err.ensures.pending.goes,
    )
