use Rattle.std.proofs.Common.{take, cond, filter, sym, ap, arith, ◌++◌, ◌∷◌, [], ◌∙◌}
use Rattle.rcover_laws.specs.Line.{is_kept_least}
use Rattle.rcover_plain.specs.Lists.{moments_in}
use Rattle.rcover_plain.proofs.Pushed.{filter_more, moments_more}
use Rattle.rcover_plain.proofs.leasts.kept_moments.Goals as goal

pub loop-moment-preserved : goal.loop-moment-preserved
loop-moment-preserved c =
    let ms = c.args.moments.now in
    let i = c.loop-moment.moment-index in
    let test = is_kept_least c.args.c.now c.args.d.now in
    let m = c.deref-in-loop-moment.result.now in
    c.in_ok-push_if.ensures
    ∙ (λ k. cond ((c.is_kept_least.ensures ∙ ap test (c.deref.ensures.value ∙ sym c.deref-in-loop-moment.ensures.value)) k) (c.loop-moment.invariant k ++ m ∷ []) (c.loop-moment.invariant k))
    ∙ sym (filter_more test (moments_in (take i ms)) m)
    ∙ ap (filter test) (sym (moments_more ms i c.moment-item.result m (omega arith) c.moment-item.is c.deref-in-loop-moment.ensures.value))
