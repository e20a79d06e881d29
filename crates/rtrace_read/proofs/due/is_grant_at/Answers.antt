use Rattle.std.proofs.Common.{◌≡◌, ◌-◌, length, sym, ap, ◌∙◌, arith, get_or}
use Rattle.std.proofs.lemmas.Bool.{le-ltb}
use Rattle.rclaim.specs.Changes.{ChangeLists}
use Rattle.rtrace_read.proofs.DueLines.{grant_before, grant_at, grant_past}
use Rattle.rtrace_read.proofs.due.is_grant_at.Goals as goal

pub returns-then-told-statuses-clause-due : goal.returns-then-told-statuses-clause-due
returns-then-told-statuses-clause-due c =
    let many = ap (λ (x : ChangeLists). length x.statuses) c.changes.view_is in
    sym (grant_before c.args.changes.now.statuses c.args.changes.now.grants c.args.told c.args.seat c.args.set (omega (arith, many)))

pub returns-then-place-len-clause-due : goal.returns-then-place-len-clause-due
returns-then-place-len-clause-due c =
    let many = ap (λ (x : ChangeLists). length x.statuses) c.changes.view_is in
    let more = ap (λ (x : ChangeLists). length x.grants) c.changes.view_is in
    let size : c.len-statuses.result ≡ length c.args.changes.now.statuses = omega (arith, many) in
    let at = ap (λ (x : ChangeLists). get_or x.grants (c.args.told - c.len-statuses.result) c.index.result.now) c.changes.view_is in
    c.is_same_grant.ensures
    ∙ sym (grant_at c.args.changes.now.statuses c.args.changes.now.grants c.args.told c.args.seat c.args.set c.index.result.now (omega (arith, size)) (omega (arith, size, more))
    (c.index.ensures ∙ at ∙ ap (λ n. get_or c.args.changes.now.grants (c.args.told - n) c.index.result.now) size))

pub returns-else-place-len-clause-due : goal.returns-else-place-len-clause-due
returns-else-place-len-clause-due c =
    let many = ap (λ (x : ChangeLists). length x.statuses) c.changes.view_is in
    let more = ap (λ (x : ChangeLists). length x.grants) c.changes.view_is in
    let size : c.len-statuses.result ≡ length c.args.changes.now.statuses = omega (arith, many) in
    le-ltb (c.args.told - c.len-statuses.result) c.len.result c.if-place-len.false
    ∙ sym (grant_past c.args.changes.now.statuses c.args.changes.now.grants c.args.told c.args.seat c.args.set (omega (arith, size)) (omega (arith, size, more)))
