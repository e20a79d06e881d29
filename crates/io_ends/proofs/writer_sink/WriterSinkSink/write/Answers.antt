use Rattle.std.proofs.Common.{rules}
use Rattle.io_ends.proofs.writer_sink.WriterSinkSink.write.Goals as goal

pub returns-clause-appended : goal.returns-clause-appended
returns-clause-appended g c = search rules
