use Rattle.std.proofs.Common.{◌∙◌}
use Rattle.rdrill.specs.Summary.{summary_text}
use Rattle.rnlp_cli.specs.Outputs.{drill_text}
use Rattle.rnlp_cli.proofs.Outcomes.{surely_written}
use Rattle.rnlp_cli.proofs.drilling.drill_tool.Goals as goal

pub returns-clause-written : goal.returns-clause-written
returns-clause-written g c =
    surely_written c.deref.result.now (drill_text c.args.count (g.A.Audience.all c.args.audience.now)) _ _ _ _ _ c.write_output.result
    (c.deref.ensures.value ∙ (c.push_summary.ensures ∙ (λ i. summary_text c.args.count (c.drill.ensures.told i) (c.drill.ensures.state i)))) c.write_output.ensures
