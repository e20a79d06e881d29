use Rattle.std.proofs.Common.{◌≡◌, Result, refl, subst, ◌∙◌}
use Rattle.std.specs.Fn.{FnOnceReturnsAtMut}
use Rattle.rnlp_lock.specs.Asking.{nested_of}
use Rattle.rnlp_lock.specs.declared.stop.Stop.{Stop}
use Rattle.rnlp_lock.specs.declared.stop.Stop.TheVariants.{NoMemory}
use Rattle.rnlp_lock.proofs.Asks.{made_nest, nest_ends_by, no_nest, who_stays}
use Rattle.rnlp_lock.proofs.Making.{may_tell, to_nothing}
use Rattle.rnlp_lock.proofs.nests.Nests.through_nested.Goals as goal

pub conclude_nested-requires : goal.conclude_nested-requires
conclude_nested-requires g c =
    may_tell c.f-outcome.result (λ (r : Result g.row.A.Denot Stop). FnOnceReturnsAtMut g.F.FnOnce c.args.f c.in-Ok.nest r c.f-outcome.new.arg2) _ (record { shown = _; shows = refl; left = _; met = c.f-outcome.ensures; leaves = refl })
    (λ answer did. c.requires.allowed c.in-Ok.nest answer c.f-outcome.new.arg2 c.in-Ok.ensures.0 did)

pub returns-in-Ok-clause-who : goal.returns-in-Ok-clause-who
returns-in-Ok-clause-who g c =
    let stays = c.requires.stays c.in-Ok.nest c.f-outcome.result c.f-outcome.new.arg2 (record { shown = _; shows = refl; left = _; met = c.f-outcome.ensures; leaves = refl }) in
    c.conclude_nested.ensures.who
    ∙ who_stays (nested_of c.args.reads c.args.writes c.args.first) (g.Self.Nests.seat c.args.self) (g.Self.Nests.nesting c.in-Ok.nest) (g.Self.Nests.nesting c.f-outcome.new.arg2) c.in-Ok.ensures.0 stays

pub returns-in-Ok-clause-ends : goal.returns-in-Ok-clause-ends
returns-in-Ok-clause-ends g c =
    let did : FnOnceReturnsAtMut g.F.FnOnce c.args.f c.in-Ok.nest c.f-outcome.result c.f-outcome.new.arg2 = record { shown = _; shows = refl; left = _; met = c.f-outcome.ensures; leaves = refl } in
    let stays = c.requires.stays c.in-Ok.nest c.f-outcome.result c.f-outcome.new.arg2 did in
    nest_ends_by g.Self.Nests.nesting (λ (nest : g.row.Self-Nesting.Denot) (answer : Result g.row.A.Denot Stop) (later : g.row.Self-Nesting.Denot). FnOnceReturnsAtMut g.F.FnOnce c.args.f nest answer later) c.args.reads c.args.writes c.args.first
    (g.Self.Nests.seat c.args.self) (g.Self.Nests.seat c.conclude_nested.result.0) c.conclude_nested.result.1 c.in-Ok.ensures.1
    (made_nest (nested_of c.args.reads c.args.writes c.args.first) _ c.f-outcome.result c.conclude_nested.result.1 (g.Self.Nests.seat c.args.self) (g.Self.Nests.nesting c.in-Ok.nest) (g.Self.Nests.nesting c.f-outcome.new.arg2)
    (g.Self.Nests.seat c.conclude_nested.result.0) c.in-Ok.ensures.0 stays
    (λ answer is. (c.in-Ok.nest, c.f-outcome.new.arg2, refl, refl, subst (λ (r : Result g.row.A.Denot Stop). FnOnceReturnsAtMut g.F.FnOnce c.args.f c.in-Ok.nest r c.f-outcome.new.arg2) is did))
    c.conclude_nested.ensures.ok)
    (to_nothing _ _ (λ stop. stop ≡ NoMemory) _ _ c.f-outcome.result c.conclude_nested.result.1
    (no_nest (nested_of c.args.reads c.args.writes c.args.first) c.conclude_nested.result.1 (g.Self.Nests.seat c.args.self) (g.Self.Nests.nesting c.in-Ok.nest) (g.Self.Nests.nesting c.f-outcome.new.arg2)
    (g.Self.Nests.seat c.conclude_nested.result.0) c.in-Ok.ensures.0 stays c.conclude_nested.ensures.err)
    c.conclude_nested.ensures.cause
    (λ stop is. (c.in-Ok.nest, c.f-outcome.new.arg2, c.in-Ok.ensures.0, subst (λ (r : Result g.row.A.Denot Stop). FnOnceReturnsAtMut g.F.FnOnce c.args.f c.in-Ok.nest r c.f-outcome.new.arg2) is did)))
