use Rattle.std.proofs.Common.{List, sym, ap, subst, ◌∙◌}
use Rattle.std.specs.Prelude.{slice_get}
use Rattle.std.proofs.lemmas.Option.{same_Some}
use Rattle.rlock.specs.declared.shelf.Shelf.{Shelf}
use Rattle.rlock.specs.declared.shelf.Spot.{Spot}
use Rattle.rlock.proofs.Shelves.{Allowed, take_beside, take_many, take_others, not_home, knows, was_out, as_many}
use Rattle.rlock.proofs.shelf.take_out.Goals as goal

pub leave-requires-clause-others : goal.leave-requires-clause-others
leave-requires-clause-others g c = λ found is k differ.
    subst (λ (s : Shelf). Allowed k s c.take-value.new.self) (c.state.ensures.value ∙ same_Some c.enter-turn.result.state found (sym c.enter-turn.ensures.found ∙ is))
    (take_others c.state.result.now c.take-value.new.self c.args.spot c.number-number.result c.take-value.result c.take-value.ensures.taken c.take-value.ensures.none k
    (λ e. differ (e ∙ (c.number-number.ensures ∙ ap (λ p. p.number) (sym c.enter-turn.ensures.pass)))))

pub returns-clause-none : goal.returns-clause-none
returns-clause-none g c =
    not_home c.leave.result c.state.result.now c.take-value.new.self c.args.spot c.take-value.result (ap (λ p. p.last) c.leave.ensures) c.take-value.ensures.home c.take-value.ensures.none

pub returns-clause-none_out : goal.returns-clause-none_out
returns-clause-none_out g c = λ none.
    was_out c.args.pass c.leave.result c.state.result.now c.take-value.new.self
    (knows c.args.pass c.state.result.now c.enter-turn.result.state c.enter-turn.ensures.state.its_last c.state.ensures.value)
    (ap (λ p. p.last) c.leave.ensures) (ap (λ p. p.number) c.leave.ensures ∙ ap (λ p. p.number) c.enter-turn.ensures.pass)
    c.args.spot (ap (λ (spots : List Spot). slice_get spots c.args.spot) (c.take-value.ensures.none none))

pub returns-clause-only : goal.returns-clause-only
returns-clause-only g c = λ other away.
    was_out c.args.pass c.leave.result c.state.result.now c.take-value.new.self
    (knows c.args.pass c.state.result.now c.enter-turn.result.state c.enter-turn.ensures.state.its_last c.state.ensures.value)
    (ap (λ p. p.last) c.leave.ensures) (ap (λ p. p.number) c.leave.ensures ∙ ap (λ p. p.number) c.enter-turn.ensures.pass)
    other (take_beside c.state.result.now c.take-value.new.self c.args.spot c.number-number.result c.take-value.result c.take-value.ensures.taken c.take-value.ensures.none other away)

pub returns-clause-spots : goal.returns-clause-spots
returns-clause-spots g c =
    as_many c.args.pass c.leave.result c.state.result.now c.take-value.new.self
    (knows c.args.pass c.state.result.now c.enter-turn.result.state c.enter-turn.ensures.state.its_last c.state.ensures.value)
    (ap (λ p. p.last) c.leave.ensures)
    (take_many c.state.result.now c.take-value.new.self c.args.spot c.number-number.result c.take-value.result c.take-value.ensures.taken c.take-value.ensures.none)
