use Rattle.std.proofs.Common.{sym, ap, ◌∙◌}
use Rattle.rcover_laws.specs.Ended.{waits_in}
use Rattle.rcover_laws.proofs.waits.waits_in.Goals as goal

pub returns-in-First : goal.returns-in-First
returns-in-First c = c.waits_first.ensures c.args.moment.now ∙ sym (ap (λ w. waits_in w c.args.moment.now c.args.x.now) c.in-First.is)

pub returns-in-Ask : goal.returns-in-Ask
returns-in-Ask c = c.waits_for_ask.ensures c.args.moment.now ∙ sym (ap (λ w. waits_in w c.args.moment.now c.args.x.now) c.in-Ask.is)
