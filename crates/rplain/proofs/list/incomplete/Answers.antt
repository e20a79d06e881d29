use Rattle.std.proofs.Common.{◌-◌, length, ap, ◌∙◌}
use Rattle.rplain.proofs.stepping.Marked.{whole_are}
use Rattle.rplain.proofs.list.incomplete.Goals as goal

pub returns : goal.returns
returns c = ap (λ n. length c.args.claims.now - n) c.requires ∙ whole_are c.args.claims.now
