use Rattle.std.proofs.Common.{rules}
use Rattle.io_ends.proofs.tried.Tried.read_once.Goals as goal

pub returns-in-Err-clause-bytes : goal.returns-in-Err-clause-bytes
returns-in-Err-clause-bytes g c = search rules
