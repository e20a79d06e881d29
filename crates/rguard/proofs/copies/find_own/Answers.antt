use Rattle.std.proofs.Common.{◌≡◌, ℕ, sym, ap, ◌∙◌}
use Rattle.rguard.proofs.Copying.{found_behind, index_here, index_behind}
use Rattle.rguard.proofs.copies.find_own.Goals as goal

pub returns-then-copy-place-clause-index : goal.returns-then-copy-place-clause-index
returns-then-copy-place-clause-index g c =
    index_here c.args.own.now c.loop-i.i c.args.place c.index-own-i.result c.loop-i-test.true c.index-own-i.is (sym (ap (λ (copy : ℕ × g.row.T.Denot). copy.0) c.copy.view_is) ∙ c.if-copy-place.true) c.loop-i.invariant.1

pub loop-i-preserved : goal.loop-i-preserved
loop-i-preserved g c =
    let differ : c.index-own-i.result.0 ≡ c.args.place → ⊥ = λ same. c.if-copy-place.false (ap (λ (copy : ℕ × g.row.T.Denot). copy.0) c.copy.view_is ∙ same) in (
      found_behind c.args.own.now c.loop-i.i c.args.place c.index-own-i.result c.loop-i-test.true c.index-own-i.is differ c.loop-i.invariant.0,
      index_behind c.args.own.now c.loop-i.i c.args.place c.index-own-i.result c.loop-i-test.true c.index-own-i.is differ c.loop-i.invariant.1,
    )
