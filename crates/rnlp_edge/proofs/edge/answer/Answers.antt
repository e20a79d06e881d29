use Rattle.std.proofs.Common.{map}
use Rattle.std.specs.Prelude.{string_bytes}
use Rattle.rnlp_edge.proofs.Promised.{program_keeps}
use Rattle.rnlp_edge.proofs.edge.answer.Goals as goal

pub returns-clause-promise : goal.returns-clause-promise
returns-clause-promise g c =
    program_keeps g.S.Source.left g.S.Source.faults g.K.Sink.written g.K.Sink.faults _ _ _ _ _ _ (map string_bytes c.args.words.now) _ _ c.told_answer.result c.told_answer.ensures.answer
