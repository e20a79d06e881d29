use Rattle.std.proofs.Common.{sym, ◌∙◌}
use Rattle.rplain.proofs.settling.SoFar.{unread}
use Rattle.rplain.proofs.new_claim.is_read.Goals as goal

pub returns-else-meets : goal.returns-else-meets
returns-else-meets c = c.if-meets.false ∙ sym (unread c.args.read c.args.resources (sym c.meets.ensures ∙ c.if-meets.false) c.args.claims.now c.requires)
