use Rattle.std.proofs.Common.{◌≡◌, true, sym, subst, ◌∙◌}
use Rattle.rset.specs.declared.TheConstants.{SEATS}
use Rattle.rcover_laws.specs.Lists.{AreAtMost}
use Rattle.rcover.specs.Follow.{table_of}
use Rattle.rcover.specs.Kept.{may_wait}
use Rattle.rcover.proofs.Tables.{none_kept, some_kept}
use Rattle.rcover.proofs.Undue.{kept_by_event}
use Rattle.rcover.proofs.follow.keep_due.Goals as goal

pub returns-then-not-may_wait-clause-kept : goal.returns-then-not-may_wait-clause-kept
returns-then-not-may_wait-clause-kept c = λ seat.
    none_kept c.args.last.now c.args.next.now (table_of c.args.runs.now) c.args.x.now (sym (c.may_wait.ensures c.args.next.now c.requires.rising) ∙ c.if-not-may_wait.true) seat

pub keep_wait-requires-clause-few : goal.keep_wait-requires-clause-few
keep_wait-requires-clause-few c =
    let m = c.args.last.now in
    let n = c.args.next.now in
    let x = c.args.x.now in
    let a = table_of c.args.runs.now x.claim.seat in
    let on : may_wait n x ≡ true = sym (c.may_wait.ensures c.args.next.now c.requires.rising) ∙ c.if-not-may_wait.false in
    subst (AreAtMost SEATS) (kept_by_event c.args.event.now m n x c.requires.stood a on) (c.requires.few on)

pub returns-clause-kept : goal.returns-clause-kept
returns-clause-kept c = λ seat.
    let m = c.args.last.now in
    let n = c.args.next.now in
    let x = c.args.x.now in
    let table = table_of c.args.runs.now in
    let on : may_wait n x ≡ true = sym (c.may_wait.ensures c.args.next.now c.requires.rising) ∙ c.if-not-may_wait.false in
    c.keep_wait.ensures.kept seat
    ∙ some_kept m n table x on _ (kept_by_event c.args.event.now m n x c.requires.stood (table x.claim.seat) on) seat
