use Rattle.std.proofs.Common.{Err, ap}
use Rattle.csv.specs.Records.{fields_of}
use Rattle.rtrace_replay.proofs.Following.{never_act}
use Rattle.rtrace_replay.proofs.Replays.{one_err}
use Rattle.rtrace_replay.proofs.Kept.{event_list, other_list}
use Rattle.rtrace_replay.proofs.recording.Recording.take_record.Goals as goal

pub take_record-requires : goal.take_record-requires
take_record-requires c = (c.requires.0, c.requires.1.replay, c.requires.2)

pub returns-in-Ok-clause-taken : goal.returns-in-Ok-clause-taken
returns-in-Ok-clause-taken c = λ s k.
    let row = fields_of c.args.fields.now in
    let taken = c.in_default.ensures.taken s k.replay in
    let told = (rw c.in-Event.is at c.in_default.ensures.told) s k.replay in
    (taken.0, record { replay = taken.1; events = event_list s row c.in-Event.event c.args.self.now.events.items _ told.0 told.1 k.events c.in-Ok.ensures.items })

pub returns-in-Act-clause-taken : goal.returns-in-Act-clause-taken
returns-in-Act-clause-taken c = λ s k.
    let taken = c.in_default.ensures.taken s k.replay in
    let told = (rw c.in-Act.is at c.in_default.ensures.told) s k.replay in
    absurd (never_act s (fields_of c.args.fields.now) taken.0 c.in-Act.field-0 told.0 told.1 told.2)

pub returns-in-Wait-clause-taken : goal.returns-in-Wait-clause-taken
returns-in-Wait-clause-taken c = λ s k.
    let taken = c.in_default.ensures.taken s k.replay in
    let told = (rw c.in-Wait.is at c.in_default.ensures.told) s k.replay in
    (taken.0, record { replay = taken.1; events = other_list s (fields_of c.args.fields.now) c.args.self.now.events.items told.0 told.1 k.events })

pub returns-in-Other-clause-taken : goal.returns-in-Other-clause-taken
returns-in-Other-clause-taken c = λ s k.
    let taken = c.in_default.ensures.taken s k.replay in
    let told = (rw c.in-Other.is at c.in_default.ensures.told) s k.replay in
    (taken.0, record { replay = taken.1; events = other_list s (fields_of c.args.fields.now) c.args.self.now.events.items told.0 told.1 k.events })

pub returns-in-Err-clause-bad : goal.returns-in-Err-clause-bad
returns-in-Err-clause-bad c = λ code e s k. c.in-Err.ensures.bad code (ap Err (one_err e)) s k.replay
