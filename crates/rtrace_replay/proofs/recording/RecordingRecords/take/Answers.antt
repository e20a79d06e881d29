use Rattle.std.proofs.Common.{false, arith}
use Rattle.rtrace_form.specs.Faults.{read_all}
use Rattle.rtrace_form.proofs.texts.Lists.{entries_few}
use Rattle.rtrace_replay.proofs.recording.RecordingRecords.take.Goals as goal

pub take_record-requires : goal.take_record-requires
take_record-requires c =
    let h = c.requires in
    let few = entries_few false h.0 in
    let many = h.2 in
    (read_all false h.0, h.1, omega (arith, few, many))

pub returns-clause-bad : goal.returns-clause-bad
returns-clause-bad c = λ cause e rows k. c.take_record.ensures.bad cause e (read_all false rows) k
