use Rattle.std.proofs.Common.{◌∙◌}
use Rattle.rnlp_cli.specs.BoundText.{bounds_text}
use Rattle.rnlp_cli.proofs.Outcomes.{surely_written}
use Rattle.rnlp_cli.proofs.bounding.write_bounds.Goals as goal

pub returns : goal.returns
returns g c = surely_written c.deref.result.now (bounds_text c.args.script.now c.args.cap) _ _ _ _ _ c.write_output.result (c.deref.ensures.value ∙ c.in-Ok.ensures) c.write_output.ensures
