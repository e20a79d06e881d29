use Rattle.std.proofs.Common.{List, sym, ap, subst, ◌∙◌}
use Rattle.rcover.specs.declared.section.CoverSection.{CoverSection}
use Rattle.rcover.specs.Kept.{HaveLengths}
use Rattle.rcover.proofs.seen.show_write.Goals as goal

pub returns-then-least-clause-lengths : goal.returns-then-least-clause-lengths
returns-then-least-clause-lengths c = λ len are own have. record {
  reads = subst (λ (ss : List CoverSection). HaveLengths len ss) (sym (c.copy_sections.ensures.items ∙ c.deref.ensures.value)) have.reads;
  writes = c.push_section.ensures.lengths len (ap (λ (s : CoverSection). s.len) c.section_of.ensures ∙ own ∙ sym (ap (λ (s : CoverSection). len s.claim) c.section_of.ensures)) (subst (λ (ss : List CoverSection). HaveLengths len ss) (sym (c.copy_sections-2.ensures.items ∙ c.deref-2.ensures.value)) have.writes);
}

pub returns-clause-lengths : goal.returns-clause-lengths
returns-clause-lengths c = λ len are own have.
    record {
      reads = c.add_found.ensures.lengths len (c.section_at.ensures.lengths len are) (subst (λ (ss : List CoverSection). HaveLengths len ss) (sym (c.copy_sections.ensures.items ∙ c.deref.ensures.value)) have.reads);
      writes = subst (λ (ss : List CoverSection). HaveLengths len ss) (sym (c.copy_sections-2.ensures.items ∙ c.deref-2.ensures.value)) have.writes;
    }
