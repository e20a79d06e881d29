use Rattle.std.proofs.Common.{◌∙◌}
use Rattle.rtrace_replay.proofs.recording.Recording.made.Goals as goal

pub machine_of-requires : goal.machine_of-requires
machine_of-requires c = (c.requires.0, c.requires.1.replay.reading, c.requires.2)

pub made-requires : goal.made-requires
made-requires c = (c.requires.0, c.requires.1.replay, c.requires.2)

pub returns-clause-text : goal.returns-clause-text
returns-clause-text c = λ s k ended. c.in_ok-replayed.ensures.text s k.replay ended

pub returns-clause-steps : goal.returns-clause-steps
returns-clause-steps c = λ s k ended. record { state = c.in_ok-machine.ensures s k.replay.reading ended; events = (λ i. (c.replace-events.ensures.value i).items) ∙ k.events }
