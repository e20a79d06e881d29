use Rattle.std.proofs.Common.{◌≤◌, List, ℕ, drop, length, sym, subst, arith}
use Rattle.rshort.specs.Cut.{IsCutText, IsShortened}
use Rattle.rshort.proofs.Marks.{all_after, of_some, shortened}
use Rattle.rshort.proofs.cutter.shorten.Goals as goal

pub returns : goal.returns
returns c =
    let bytes = c.args.bytes.now in
    let long : 3 ≤ length bytes = let h = c.if-bytes-lt3.false in omega (arith, h) in
    subst (IsShortened bytes) (sym c.in_ok-insert.ensures.items) (shortened bytes c.in-Some.short.items long (subst (λ n. IsCutText (drop n bytes) c.in-Some.short.items) c.mark_len-mark.ensures.mark
    (subst (λ (xs : List ℕ). IsCutText xs c.in-Some.short.items) (all_after bytes c.mark_len-mark.result) (of_some _ c.in_ok-short.field-0 c.in-Some.short c.in-Some.is c.in_ok-short.ensures))))
