use Rattle.std.proofs.Common.{length, sym, ap, ◌∙◌, arith, get_or}
use Rattle.std.proofs.lemmas.Bool.{le-ltb}
use Rattle.rclaim.specs.Changes.{ChangeLists}
use Rattle.rtrace_read.proofs.DueLines.{due_status, no_due_status}
use Rattle.rtrace_read.proofs.due.is_status_at.Goals as goal

pub returns-then-told-len-clause-due : goal.returns-then-told-len-clause-due
returns-then-told-len-clause-due c =
    let many = ap (λ (x : ChangeLists). length x.statuses) c.changes.view_is in
    let at = ap (λ (x : ChangeLists). get_or x.statuses c.args.told c.index.result.now) c.changes.view_is in
    c.is_same.ensures ∙ sym (due_status c.args.changes.now c.args.told c.index.result.now c.args.change (omega (arith, many)) (cc))

pub returns-else-told-len-clause-due : goal.returns-else-told-len-clause-due
returns-else-told-len-clause-due c =
    let many = ap (λ (x : ChangeLists). length x.statuses) c.changes.view_is in
    le-ltb c.args.told c.len.result c.if-told-len.false ∙ sym (no_due_status c.args.changes.now c.args.told c.args.change (omega (arith, many)))
