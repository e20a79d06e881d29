use Rattle.std.proofs.Common.{sym, ◌∙◌}
use Rattle.rplain.proofs.stepping.Marked.{first_lacks, none_lacks}
use Rattle.rplain.proofs.list.is_not_holding.Goals as goal

pub returns-in-Some : goal.returns-in-Some
returns-in-Some c = c.lacks.ensures ∙ first_lacks c.args.seat c.args.claims.now c.in-Some.i c.index-claims-i.result c.requires.alone (sym c.requires.place ∙ c.in-Some.is) c.index-claims-i.is

pub returns-in-None : goal.returns-in-None
returns-in-None c = none_lacks c.args.seat c.args.claims.now c.requires.alone (sym c.requires.place ∙ c.in-None.is)
