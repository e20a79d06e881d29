use Rattle.std.proofs.Common.{rules}
use Rattle.rbound_table.proofs.answers.ask_answer.Goals as goal

pub returns-clause-value : goal.returns-clause-value
returns-clause-value c = search rules
