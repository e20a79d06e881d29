use Rattle.std.proofs.Common.{◌∙◌}
use Rattle.rbound_table.proofs.BoundFacts.{first_bounds, rise_bounds, ask_bounds}
use Rattle.rbound_table.proofs.bounds.answered.Goals as goal

pub returns-in-First : goal.returns-in-First
returns-in-First c =
    c.first_answer.ensures.value
    ∙ first_bounds c.args.needs.now c.args.answers.now c.requires.answers c.args.task c.args.k c.requires.task c.args.which c.first_claim.result c.in-First.is c.first_claim.ensures c.first_answer.ensures.below

pub returns-in-Rise : goal.returns-in-Rise
returns-in-Rise c =
    c.rise_answer.ensures
    ∙ rise_bounds c.args.needs.now c.args.answers.now c.requires.answers c.args.task c.args.k c.requires.task c.args.which c.write_claim.result c.in-Rise.is c.write_claim.ensures

pub returns-in-Some : goal.returns-in-Some
returns-in-Some c =
    c.asked_answer.ensures.value
    ∙ ask_bounds c.args.needs.now c.args.answers.now c.requires.answers c.args.task c.args.k c.requires.task c.args.which c.in-Ask.i c.in-Some.part c.write_claim-in-Some.result c.in-Ask.is c.in-Some.ensures
    c.write_claim-in-Some.ensures c.asked_answer.ensures.below
