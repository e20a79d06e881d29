use Rattle.std.proofs.Common.{false, Err, ap}
use Rattle.rtrace_form.specs.SoFar.{told_in}
use Rattle.rtrace_form.specs.Faults.{read_all}
use Rattle.rtrace_form.proofs.texts.Lists.{list_fault}
use Rattle.rtrace_replay.specs.Replaying.{KnowsReplay}
use Rattle.rtrace_replay.proofs.Endings.{taken_ended, taken_spells}
use Rattle.rtrace_replay.proofs.Replays.{one_err}
use Rattle.rtrace_replay.proofs.replaying.replay_by.Goals as goal

pub made-requires : goal.made-requires
made-requires c =
    let h = c.in-Ok.ensures.taken in
    (read_all false h.rows, h.knows, taken_ended false KnowsReplay c.args.bytes.now c.take_text.new.taker h)

pub returns-in-Ok-made-clause-made : goal.returns-in-Ok-made-clause-made
returns-in-Ok-made-clause-made c =
    let h = c.in-Ok.ensures.taken in
    let spelled = taken_spells KnowsReplay c.args.bytes.now c.take_text.new.taker h in
    let ended = taken_ended false KnowsReplay c.args.bytes.now c.take_text.new.taker h in
    let text = c.in-Ok-made.ensures.text (read_all false h.rows) h.knows ended in (
      told_in (read_all false h.rows),
      (h.rows, h.are, spelled),
      text.0,
      text.1,
    )

pub returns-in-Err-clause-bad : goal.returns-in-Err-clause-bad
returns-in-Err-clause-bad c = λ fault e. list_fault false c.args.bytes.now fault (c.in-Err.ensures.bad fault (ap Err (one_err e)))
