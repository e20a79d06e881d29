use Rattle.std.proofs.Common.{false, arith}
use Rattle.csv.specs.Records.{fields_of}
use Rattle.rtrace_form.specs.Faults.{read_all}
use Rattle.rtrace_form.proofs.texts.Lists.{entries_few}
use Rattle.rtrace_read.proofs.Names.{one_more}
use Rattle.rtrace_replay.proofs.replaying.ReplayingRecords.take.Goals as goal

pub take_record-requires : goal.take_record-requires
take_record-requires c =
    let h = c.requires in
    let few = entries_few false h.0 in
    let many = h.2 in
    (read_all false h.0, h.1, omega (arith, few, many))

pub returns-clause-bad : goal.returns-clause-bad
returns-clause-bad c = λ cause e rows k. c.take_record.ensures.bad cause e (read_all false rows) k

pub returns-clause-still : goal.returns-clause-still
returns-clause-still c = λ cause e.
    let still = c.take_record.ensures.still cause e in (
      still.0,
      (rw e at c.take_record.ensures.untaken),
      still.1,
      one_more c.args.self.now.reading c.take_record.new.self.reading (fields_of c.args.fields.now) (c.take_record.ensures.names cause e),
    )
