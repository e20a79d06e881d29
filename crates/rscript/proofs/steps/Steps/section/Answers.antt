use Rattle.std.proofs.Common.{◌∙◌}
use Rattle.rscript.proofs.Cuts.{section_is}
use Rattle.rscript.proofs.steps.Steps.section.Goals as goal

pub returns : goal.returns
returns c = section_is c.args.self.now c.deref.result.now c.args.k c.start.result c.end.result (c.deref.ensures.value ∙ c.self.view_is) c.start.ensures.start c.end.ensures.end
