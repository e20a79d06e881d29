use Rattle.std.proofs.Common.{ap, ◌∙◌}
use Rattle.std.specs.FinSet.{contains, empty, insert}
use Rattle.rset.specs.Sets.{Set}
use Rattle.rset.proofs.SetLemmas.{contains_insert}
use Rattle.tests_on_threads.proofs.refusals.left_by_sections.Goals as goal

pub are_made-requires-clause-first : goal.are_made-requires-clause-first
are_made-requires-clause-first g c κs within =
    ap (λ (s : Set). contains s 0) (c.with-both.ensures ∙ ap (λ (s : Set). insert s 1) c.one.ensures)
    ∙ contains_insert (insert empty 0) 1 0 ∙ contains_insert empty 0 0
