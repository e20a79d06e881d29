use Rattle.std.proofs.Common.{sym, ap, ◌∙◌}
use Rattle.std.specs.Option.{option_map}
use Rattle.rcover.specs.Kept.{section_of}
use Rattle.rcover.specs.Last.{first_at}
use Rattle.rcover.proofs.Kept.{same_against}
use Rattle.rcover.proofs.run.taken_at.Goals as goal

pub returns-clause-taken : goal.returns-clause-taken
returns-clause-taken c = λ d reads writes.
    c.section_at.ensures.section ∙ ap (λ p. option_map (section_of c.args.lengths.now) (first_at p c.args.moment.now)) (same_against c.args.c.now d (sym reads) (sym writes))
