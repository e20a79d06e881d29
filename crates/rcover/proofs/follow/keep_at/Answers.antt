use Rattle.std.proofs.Common.{sym, ◌∙◌}
use Rattle.rcover.specs.Follow.{table_of}
use Rattle.rcover.proofs.Tables.{same_kept}
use Rattle.rcover.proofs.follow.keep_at.Goals as goal

pub returns-then-not-is_due-clause-kept : goal.returns-then-not-is_due-clause-kept
returns-then-not-is_due-clause-kept c = λ seat.
    let x = c.args.x.now in
    let table = table_of c.args.runs.now in
    same_kept c.args.last.now c.args.next.now table x (λ on. c.requires.undue (sym c.is_due.ensures ∙ c.if-not-is_due.true) on (table x.claim.seat)) seat
