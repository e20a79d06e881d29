use Rattle.std.proofs.Common.{◌≡◌, ◌++◌, map}
use Rattle.std.specs.List.{range_with_len}
use Rattle.rtrace_form.specs.Texts.{text_of}
use Rattle.rbound.specs.declared.which.Which.TheVariants.{Ask}
use Rattle.rnlp_cli.specs.BoundText.{wait_row}
use Rattle.rnlp_cli.proofs.bound_lines.push_asks.Given as goal

abbrev pub invariant-loop-i : goal.invariant-loop-i
invariant-loop-i l = l.text.items ≡ l.fn.text.items ++ text_of (map (λ i. wait_row l.bounds.needs l.bounds.cap l.name l.task l.number (Ask i)) (range_with_len 0 l.i))
