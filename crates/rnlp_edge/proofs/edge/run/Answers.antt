use Rattle.std.proofs.Common.{map, ap, ◌∙◌}
use Rattle.std.specs.Prelude.{string_bytes}
use Rattle.rnlp_cli.specs.Status.{status_number}
use Rattle.rnlp_edge.proofs.Promised.{run_keeps}
use Rattle.rnlp_edge.proofs.edge.run.Goals as goal

pub returns-clause-promise : goal.returns-clause-promise
returns-clause-promise g c =
    run_keeps g.S.Source.left g.S.Source.faults g.K.Sink.written g.K.Sink.faults _ _ _ _ _ _ (λ had. map string_bytes had.items) c.args.words.now _ _ _ c.answered_in_lines-status.result.0 _
    (c.from.ensures ∙ c.number.ensures ∙ ap status_number c.explain-status.ensures) c.answered_in_lines-status.ensures.answer
