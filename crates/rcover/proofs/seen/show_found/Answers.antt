use Rattle.std.proofs.Common.{List, sym, subst}
use Rattle.rcover.specs.declared.section.CoverSection.{CoverSection}
use Rattle.rcover.specs.Kept.{HaveLengths}
use Rattle.rcover.proofs.seen.show_found.Goals as goal

pub returns-clause-lengths : goal.returns-clause-lengths
returns-clause-lengths c = λ len are.
    record {
      reads = c.add_found.ensures.lengths len (c.section_at.ensures.lengths len are) (subst (λ (ss : List CoverSection). HaveLengths len ss) (sym c.clear-2.ensures.items) tt);
      writes = subst (λ (ss : List CoverSection). HaveLengths len ss) (sym c.clear.ensures.items) tt;
    }
