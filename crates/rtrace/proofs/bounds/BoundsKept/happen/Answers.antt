use Rattle.std.proofs.Common.{Option, subst}
use Rattle.rtrace.specs.declared.told_bounds.ToldBounds.{ToldBounds}
use Rattle.rtrace.specs.ToldBounds.{IsMade}
use Rattle.rtrace.proofs.Results.{on_ok}
use Rattle.rtrace.proofs.ToldSteps.{made_event, some_events}
use Rattle.rtrace.proofs.bounds.BoundsKept.happen.Goals as goal

pub happen-requires : goal.happen-requires
happen-requires c =
    let p = c.requires.0 in (
      p.groups,
      p.seats,
      p.cap,
      p.events,
      c.requires.1,
      made_event c.args.tasks c.args.self.now.told c.in-Some.told p c.requires.1 (subst (λ (o : Option ToldBounds). IsMade c.args.tasks c.args.self.now.told o) c.in-Some.is c.in_ok-make.ensures.made) c.requires.4 c.requires.2,
      c.requires.3,
    )

pub returns-in-Some-clause-told : goal.returns-in-Some-clause-told
returns-in-Some-clause-told c = on_ok c.happen.result _ _ c.happen.ensures.ok (λ ok p items told accepted tasks. (
  some_events p.events c.args.event.now,
  ok p.groups p.seats p.cap p.events items (made_event c.args.tasks c.args.self.now.told c.in-Some.told p items (subst (λ (o : Option ToldBounds). IsMade c.args.tasks c.args.self.now.told o) c.in-Some.is c.in_ok-make.ensures.made) tasks told) accepted,
))
