use Rattle.std.proofs.Common.{sym, ◌∙◌}
use Rattle.rcover.proofs.following.Following.pass.Goals as goal

pub let_go-requires-clause-ahead : goal.let_go-requires-clause-ahead
let_go-requires-clause-ahead c = (c.args.machine.now, c.requires.ahead.0, c.requires.ahead.1)

pub let_go-requires-clause-calm : goal.let_go-requires-clause-calm
let_go-requires-clause-calm c = c.requires.calm

pub let_go-requires-clause-finish : goal.let_go-requires-clause-finish
let_go-requires-clause-finish c = sym c.is_finish.ensures ∙ c.if-is_finish.true

pub returns-then-is_finish : goal.returns-then-is_finish
returns-then-is_finish c = λ p g. c.let_go.ensures c.args.machine.now p g
