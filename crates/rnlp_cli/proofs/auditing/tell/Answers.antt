use Rattle.std.proofs.Common.{◌∙◌}
use Rattle.rnlp_cli.specs.Outputs.{audit_text}
use Rattle.rnlp_cli.proofs.Outcomes.{surely_written}
use Rattle.rnlp_cli.proofs.auditing.tell.Goals as goal

pub returns : goal.returns
returns g c = surely_written c.deref.result.now (audit_text c.args.counts.events c.args.counts.waits) _ _ _ _ _ c.write_output.result (c.deref.ensures.value ∙ c.in-Ok.ensures) c.write_output.ensures
