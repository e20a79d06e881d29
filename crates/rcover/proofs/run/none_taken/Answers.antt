use Rattle.std.proofs.Common.{sym, ap, ◌∙◌}
use Rattle.std.specs.Option.{option_map}
use Rattle.rcover.specs.Kept.{section_of}
use Rattle.rcover.proofs.Kept.{none_against}
use Rattle.rcover.proofs.run.none_taken.Goals as goal

pub returns : goal.returns
returns c = λ ls m d reads writes. sym (ap (option_map (section_of ls)) (none_against d (reads ∙ c.empty.ensures) (writes ∙ c.empty-2.ensures) m))
