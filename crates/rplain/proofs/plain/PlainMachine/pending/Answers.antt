use Rattle.std.proofs.Common.{◌&&◌, List, sym, ap, subst, ◌∙◌}
use Rattle.std.specs.Option.{is_some}
use Rattle.rmodel.specs.declared.claimed.Claimed.{Claimed}
use Rattle.rmodel.specs.Holds.{Alone}
use Rattle.rmodel.specs.Steps.{is_not_holding}
use Rattle.rmodel.specs.WellFormed.{EachPair}
use Rattle.rplain.specs.Machine.{Standing}
use Rattle.rplain.specs.Plain.{state_of}
use Rattle.rplain.specs.Sweep.{is_of}
use Rattle.rmodel.proofs.reaching.OneOfSeat.{each_alone}
use Rattle.rplain.proofs.stepping.Marked.{placed_where}
use Rattle.rplain.proofs.plain.PlainMachine.pending.Goals as goal

pub is_not_holding-requires-clause-alone : goal.is_not_holding-requires-clause-alone
is_not_holding-requires-clause-alone c =
    subst (λ (xs : List Claimed). EachPair Alone xs) (sym c.deref.ensures.value) (each_alone (state_of c.self.inside) c.self.invariant.reached)

pub returns-then-is_some : goal.returns-then-is_some
returns-then-is_some c =
    let xs = c.args.self.now.state.claims in
    c.is_not_holding.ensures
    ∙ ap (λ (l : List Claimed). is_not_holding l c.args.seat) (c.deref.ensures.value ∙ ap (λ (m : Standing). m.state.claims) c.self.view_is)
    ∙ ap (λ b. b && is_not_holding xs c.args.seat)
    (sym c.if-is_some.true ∙ c.is_some.ensures ∙ ap is_some c.place_of_any-place.ensures ∙ placed_where (is_of c.args.seat) xs)

pub returns-else-is_some : goal.returns-else-is_some
returns-else-is_some c =
    let xs = c.args.self.now.state.claims in
    c.if-is_some.false
    ∙ ap (λ b. b && is_not_holding xs c.args.seat)
    (sym c.if-is_some.false ∙ c.is_some.ensures ∙ ap is_some c.place_of_any-place.ensures ∙ placed_where (is_of c.args.seat) xs)
