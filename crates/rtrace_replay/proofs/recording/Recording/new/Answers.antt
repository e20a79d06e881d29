use Rattle.rtrace_replay.proofs.recording.Recording.new.Goals as goal

pub returns : goal.returns
returns c = record { replay = c.new.ensures.knows; events = c.new-2.ensures.items }
