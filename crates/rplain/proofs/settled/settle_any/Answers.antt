use Rattle.std.proofs.Common.{rules, ap, ◌∙◌}
use Rattle.rplain.proofs.settling.SweepSteps.{given_none, seen_of_none, statuses_none, grants_none}
use Rattle.rplain.proofs.settled.settle_any.Goals as goal

pub returns-then-is_empty-clause-items : goal.returns-then-is_empty-clause-items
returns-then-is_empty-clause-items c = given_none c.args.claims.now.items (search rules)

pub returns-then-is_empty-clause-seen : goal.returns-then-is_empty-clause-seen
returns-then-is_empty-clause-seen c = c.no_seen.ensures ∙ seen_of_none c.args.claims.now.items (search rules)

pub returns-then-is_empty-clause-statuses : goal.returns-then-is_empty-clause-statuses
returns-then-is_empty-clause-statuses c =
    ap (λ changes. changes.statuses) c.clear.ensures ∙ statuses_none c.args.claims.now.items (search rules)

pub returns-then-is_empty-clause-grants : goal.returns-then-is_empty-clause-grants
returns-then-is_empty-clause-grants c =
    ap (λ changes. changes.grants) c.clear.ensures ∙ grants_none c.args.claims.now.items (search rules)
