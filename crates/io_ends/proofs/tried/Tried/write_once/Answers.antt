use Rattle.std.proofs.Common.{length, ◌==◌}
use Rattle.io_ends.specs.Tries.{Tries, tries_of}
use Rattle.io_ends.proofs.Told.{told_within, told_some, told_appends, counts_told, quiet_counts, interruption_counts, fault_counts}
use Rattle.io_ends.proofs.tried.Tried.write_once.Goals as goal

pub returns-clause-bound : goal.returns-clause-bound
returns-clause-bound g c = told_within c.told_of.result c.call_write.result c.is_empty.result (length c.args.piece.now) c.told_of.ensures c.call_write.ensures.bound

pub returns-clause-some : goal.returns-clause-some
returns-clause-some g c = told_some c.told_of.result c.call_write.result c.is_empty.result (length c.args.piece.now) c.told_of.ensures c.is_empty.ensures

pub returns-clause-bytes : goal.returns-clause-bytes
returns-clause-bytes g c =
    told_appends (g.W.Write.contents c.args.self.now.device) (g.W.Write.contents c.call_write.new.self.device) c.args.piece.now
    c.told_of.result c.call_write.result c.is_empty.result c.told_of.ensures c.call_write.ensures.bytes

pub returns-clause-quiet : goal.returns-clause-quiet
returns-clause-quiet g c =
    let before : Tries = tries_of c.args.self.now in
    let after : Tries = tries_of c.call_write.new.self in
    quiet_counts c.told_of.result before after
    (counts_told c.told_of.result c.call_write.result c.is_empty.result (length c.args.piece.now == 0) before after c.told_of.ensures c.is_empty.ensures c.call_write.ensures.counted)

pub returns-clause-interrupted : goal.returns-clause-interrupted
returns-clause-interrupted g c =
    let before : Tries = tries_of c.args.self.now in
    let after : Tries = tries_of c.call_write.new.self in
    interruption_counts c.told_of.result before after
    (counts_told c.told_of.result c.call_write.result c.is_empty.result (length c.args.piece.now == 0) before after c.told_of.ensures c.is_empty.ensures c.call_write.ensures.counted)

pub returns-clause-fault : goal.returns-clause-fault
returns-clause-fault g c =
    let before : Tries = tries_of c.args.self.now in
    let after : Tries = tries_of c.call_write.new.self in
    fault_counts c.told_of.result before after
    (counts_told c.told_of.result c.call_write.result c.is_empty.result (length c.args.piece.now == 0) before after c.told_of.ensures c.is_empty.ensures c.call_write.ensures.counted)
