use Rattle.std.proofs.Common.{ℕ, List, ◌++◌, take, drop, ap, ◌∙◌, append_assoc}
use Rattle.std.proofs.lemmas.Result.{on_ok_weaker}
use Rattle.rbound.specs.Bounds.{numbers_in}
use Rattle.rtrace_write.specs.Waits.{bound_text}
use Rattle.rtrace_write.proofs.Filling.{part_is}
use Rattle.rtrace_write.proofs.open_text.push_part.Goals as goal

pub returns : goal.returns
returns c =
    let piece : List ℕ = drop c.args.from (take c.args.to c.args.text.now) in
    let bound : List ℕ = bound_text (numbers_in c.args.bound) in
    on_ok_weaker c.push_bound.result
    (λ e. e ∙ ap (λ (t : List ℕ). t ++ bound) (c.in_ok-extend_from_slice.ensures.items ∙ ap (λ (t : List ℕ). c.args.closed.now.items ++ t) (part_is c.args.from c.args.to c.args.text.now c.requires.0)) ∙ append_assoc c.args.closed.now.items piece bound)
    c.push_bound.ensures.ok
