use Rattle.std.proofs.Common.{take, sym, ap, arith, ◌∙◌}
use Rattle.rcover_laws.specs.Line.{leasts}
use Rattle.rcover_plain.specs.Lists.{moments_in}
use Rattle.rcover_laws.specs.Lists.{with_different}
use Rattle.rcover_plain.proofs.Pushed.{moments_more, leasts_more}
use Rattle.rcover_plain.proofs.leasts.leasts_of.Goals as goal

pub loop-moment-preserved : goal.loop-moment-preserved
loop-moment-preserved c =
    let ms = c.args.moments.now in
    let i = c.loop-moment.moment-index in
    c.in_ok-add_different.ensures ∙ (λ k. with_different (c.loop-moment.invariant k) (c.least_of.ensures k))
    ∙ sym (leasts_more c.args.c.now (moments_in (take i ms)) c.deref.result.now)
    ∙ ap (leasts c.args.c.now) (sym (moments_more ms i c.moment-item.result c.deref.result.now (omega arith) c.moment-item.is c.deref.ensures.value))
