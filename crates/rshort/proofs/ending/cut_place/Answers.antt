use Rattle.std.proofs.Common.{Some, sym, ◌∙◌}
use Rattle.rshort.proofs.Quoteless.{cut_at_line}
use Rattle.rshort.proofs.ending.cut_place.Goals as goal

pub returns-in-Some-clause-cut : goal.returns-in-Some-clause-cut
returns-in-Some-clause-cut c = cut_at_line c.args.bytes.now (Some c.in-Some.at) (sym c.contains.ensures.value ∙ c.if-contains.false) c.in-Some.ensures
