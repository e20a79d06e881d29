use Rattle.std.proofs.Common.{rules}
use Rattle.io_ends.proofs.memory_sink.MemSinkSink.write.Goals as goal

pub returns-then-begin-clause-kept : goal.returns-then-begin-clause-kept
returns-then-begin-clause-kept c = search rules
