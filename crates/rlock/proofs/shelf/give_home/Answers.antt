use Rattle.std.proofs.Common.{sym, ap, subst, ◌∙◌}
use Rattle.std.proofs.lemmas.Option.{same_Some}
use Rattle.rlock.specs.declared.shelf.Shelf.{Shelf}
use Rattle.rlock.specs.declared.shelf.Spot.TheVariants.{Home}
use Rattle.rlock.proofs.Shelves.{Allowed, one_set, put_others, knows, is_out, as_many, given_home}
use Rattle.rlock.proofs.shelf.give_home.Goals as goal

pub leave-requires-clause-others : goal.leave-requires-clause-others
leave-requires-clause-others g c = λ found is k differ.
    subst (λ (s : Shelf). Allowed k s c.put.new.self) (c.state.ensures.value ∙ same_Some c.enter-turn.result.state found (sym c.enter-turn.ensures.found ∙ is))
    (put_others c.state.result.now c.put.new.self c.args.spot c.args.pass.number c.args.value
    (is_out c.args.pass c.state.result.now (knows c.args.pass c.state.result.now c.enter-turn.result.state c.enter-turn.ensures.state.its_last c.state.ensures.value) c.args.spot c.requires.out)
    c.put.ensures k (λ e. differ (e ∙ ap (λ p. p.number) (sym c.enter-turn.ensures.pass))))

pub returns-clause-only : goal.returns-clause-only
returns-clause-only g c =
    given_home c.args.pass c.leave.result c.state.result.now c.put.new.self
    (knows c.args.pass c.state.result.now c.enter-turn.result.state c.enter-turn.ensures.state.its_last c.state.ensures.value)
    (ap (λ p. p.last) c.leave.ensures) (ap (λ p. p.number) c.leave.ensures ∙ ap (λ p. p.number) c.enter-turn.ensures.pass)
    c.args.spot c.args.value c.requires.out c.put.ensures

pub returns-clause-spots : goal.returns-clause-spots
returns-clause-spots g c =
    as_many c.args.pass c.leave.result c.state.result.now c.put.new.self
    (knows c.args.pass c.state.result.now c.enter-turn.result.state c.enter-turn.ensures.state.its_last c.state.ensures.value)
    (ap (λ p. p.last) c.leave.ensures)
    (one_set c.state.result.now c.put.new.self c.args.spot (Home c.args.value) c.put.ensures)
