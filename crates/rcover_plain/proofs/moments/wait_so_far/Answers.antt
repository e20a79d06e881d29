use Rattle.std.proofs.Common.{take, cond, sym, ap, arith, ◌++◌, ◌∷◌, [], ◌∙◌}
use Rattle.rcover_laws.specs.Ended.{waits_in}
use Rattle.rcover_plain.specs.Lists.{moments_in}
use Rattle.rcover_laws.specs.Told.{stands, run_of}
use Rattle.rcover_plain.proofs.Pushed.{moments_more}
use Rattle.rcover_laws.proofs.told.Runs.{run_push}
use Rattle.rcover_plain.proofs.moments.wait_so_far.Goals as goal

pub loop-moment-preserved : goal.loop-moment-preserved
loop-moment-preserved c =
    let ms = c.args.moments.now in
    let i = c.loop-moment.moment-index in
    let test = stands (waits_in c.args.which) c.args.c.now in
    c.in_ok-go_on.ensures ∙ (λ k. cond ((c.stands.ensures ∙ ap test (c.deref.ensures.value ∙ sym c.deref-in-loop-moment.ensures.value)) k) (c.loop-moment.invariant k ++ c.deref-in-loop-moment.result.now ∷ []) [])
    ∙ sym (run_push test (moments_in (take i ms)) c.deref-in-loop-moment.result.now)
    ∙ ap (run_of test) (sym (moments_more ms i c.moment-item.result c.deref-in-loop-moment.result.now (omega arith) c.moment-item.is c.deref-in-loop-moment.ensures.value))
