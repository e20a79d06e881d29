use Rattle.std.proofs.Common.{not, sym, ap, ◌∙◌}
use Rattle.rplain.proofs.settling.SoFar.{past_unread}
use Rattle.rplain.proofs.new_claim.new_is_past.Goals as goal

pub returns-then-not-meets : goal.returns-then-not-meets
returns-then-not-meets c =
    ap not c.if-not-meets.true ∙ sym (past_unread c.args.read c.args.claim.now c.args.claims.now (sym c.meets.ensures ∙ c.if-not-meets.true) c.requires)
