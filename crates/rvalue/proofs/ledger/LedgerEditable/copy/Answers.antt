use Rattle.std.proofs.Common.{rules}
use Rattle.rvalue.proofs.ledger.LedgerEditable.copy.Goals as goal

pub returns : goal.returns
returns c = search rules
