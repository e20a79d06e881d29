use Rattle.std.proofs.Common.{length, ◌==◌}
use Rattle.io_ends.specs.Tries.{tries_of}
use Rattle.io_ends.proofs.Told.{counts_answer}
use Rattle.io_ends.proofs.tried.Tried.call_write.Goals as goal

pub returns-clause-bytes : goal.returns-clause-bytes
returns-clause-bytes g c = rw c.count.ensures.device c.write-answer.ensures.bytes

pub returns-clause-counted : goal.returns-clause-counted
returns-clause-counted g c =
    counts_answer c.told_of.result c.write-answer.result c.is_empty.result (length c.args.piece.now == 0)
    (tries_of c.args.self.now) (tries_of c.count.new.self)
    c.told_of.ensures c.is_empty.ensures c.count.ensures.counted
