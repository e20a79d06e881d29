use Rattle.std.proofs.Common.{List, sym, subst}
use Rattle.rcover.specs.declared.section.CoverSection.{CoverSection}
use Rattle.rcover.specs.Kept.{HaveLengths}
use Rattle.rcover.proofs.run.close_read.Goals as goal

pub returns-clause-lengths : goal.returns-clause-lengths
returns-clause-lengths c = λ len are have. c.add_found.ensures.lengths len (c.section_at.ensures.lengths len are) (subst (λ (ss : List CoverSection). HaveLengths len ss) (sym c.clear.ensures.items) tt)
