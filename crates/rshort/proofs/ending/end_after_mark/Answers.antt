use Rattle.std.proofs.Common.{◌+◌, List, ℕ, drop, sym, subst}
use Rattle.rshort.specs.Closed.{IsEnd}
use Rattle.rshort.specs.Cut.{MayBeCut}
use Rattle.rshort.proofs.Marks.{all_after, cut_at_end}
use Rattle.rshort.proofs.ending.end_after_mark.Goals as goal

pub returns-in-Some-clause-cut : goal.returns-in-Some-clause-cut
returns-in-Some-clause-cut c =
    let bytes = c.args.bytes.now in
    let at = c.in-Some.at in
    subst (λ n. IsEnd (drop n bytes) at → MayBeCut bytes (n + at)) (sym c.mark_len-mark.ensures.mark) (cut_at_end bytes at)
    (subst (λ (xs : List ℕ). IsEnd xs at) (all_after bytes c.mark_len-mark.result) c.in-Some.ensures.end)
