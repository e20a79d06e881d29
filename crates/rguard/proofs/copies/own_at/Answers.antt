use Rattle.std.proofs.Common.{ℕ, Some, sym, ap, ◌∙◌}
use Rattle.rguard.proofs.Copying.{found_here, found_behind}
use Rattle.rguard.proofs.copies.own_at.Goals as goal

pub returns-then-copy-place : goal.returns-then-copy-place
returns-then-copy-place g c =
    let is = c.copy.view_is in
    ap (λ (copy : ℕ × g.row.T.Denot). Some copy.1) is
    ∙ found_here c.args.own.now c.loop-copy.copy-index c.args.place c.copy-item.result c.loop-copy-test.true c.copy-item.is (sym (ap (λ (copy : ℕ × g.row.T.Denot). copy.0) is) ∙ c.if-copy-place.true) c.loop-copy.invariant

pub loop-copy-preserved : goal.loop-copy-preserved
loop-copy-preserved g c =
    found_behind c.args.own.now c.loop-copy.copy-index c.args.place c.copy-item.result c.loop-copy-test.true c.copy-item.is
    (λ same. c.if-copy-place.false (ap (λ (copy : ℕ × g.row.T.Denot). copy.0) c.copy.view_is ∙ same)) c.loop-copy.invariant
