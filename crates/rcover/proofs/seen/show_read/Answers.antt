use Rattle.std.proofs.Common.{List, sym, ap, subst, ◌∙◌}
use Rattle.rcover.specs.declared.section.CoverSection.{CoverSection}
use Rattle.rcover.specs.Kept.{HaveLengths}
use Rattle.rcover.proofs.seen.show_read.Goals as goal

pub returns-then-not-holds_at-clause-lengths : goal.returns-then-not-holds_at-clause-lengths
returns-then-not-holds_at-clause-lengths c = λ len are own have. c.show_found.ensures.lengths len are

pub returns-clause-lengths : goal.returns-clause-lengths
returns-clause-lengths c = λ len are own have. record {
  reads = subst (λ (ss : List CoverSection). HaveLengths len ss) (sym (c.copy_sections.ensures.items ∙ c.deref.ensures.value)) have.reads;
  writes = c.push_section.ensures.lengths len (ap (λ (s : CoverSection). s.len) c.section_of.ensures ∙ own ∙ sym (ap (λ (s : CoverSection). len s.claim) c.section_of.ensures)) (subst (λ (ss : List CoverSection). HaveLengths len ss) (sym c.clear.ensures.items) tt);
}
