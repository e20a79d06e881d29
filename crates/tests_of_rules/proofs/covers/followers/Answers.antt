use Rattle.std.proofs.Common.{[], subst, arith}
use Rattle.rexpand.specs.Groups.{ReadGroups}
use Rattle.rcover.specs.Knows.{Knows}
use Rattle.tests_of_rules.specs.Stories.{past}
use Rattle.tests_of_rules.proofs.covers.followers.Goals as goal

pub returns-clause-follows : goal.returns-clause-follows
returns-clause-follows c = c.in_ok-following.ensures.follows c.args.groups.now 4 4 (omega arith) (omega arith) (omega arith)

pub returns-clause-told : goal.returns-clause-told
returns-clause-told c = subst (λ (g : ReadGroups). Knows c.in_ok-covers.covers (past g 4 [])) c.in_ok-copy.ensures c.in_ok-covers.ensures
