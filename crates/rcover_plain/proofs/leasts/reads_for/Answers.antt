use Rattle.std.proofs.Common.{sym, ap, arith, ◌∙◌}
use Rattle.rcover_laws.specs.Line.{read_for}
use Rattle.rcover_plain.specs.Lists.{moments_in}
use Rattle.rcover_laws.specs.Lists.{with_option}
use Rattle.rcover_plain.proofs.Pushed.{different_more}
use Rattle.rcover_plain.proofs.leasts.reads_for.Goals as goal

pub loop-d-preserved : goal.loop-d-preserved
loop-d-preserved c =
    let find = read_for c.args.c.now (moments_in c.args.moments.now) in
    c.in_ok-add_read_for.ensures ∙ ap (λ rs. with_option rs (find c.d-item.result)) c.loop-d.invariant
    ∙ sym (different_more find c.args.leasts.now c.loop-d.d-index c.d-item.result (omega arith) c.d-item.is)
