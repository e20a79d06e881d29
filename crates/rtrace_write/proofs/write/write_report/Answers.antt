use Rattle.std.proofs.Common.{ℕ, List, ◌++◌, subst, ◌∙◌}
use Rattle.io_ends.specs.Ends.{Appends, AppendsPrefix}
use Rattle.rtrace_write.proofs.write.write_report.Goals as goal

pub returns-in_err-write_parts-clause-prefix : goal.returns-in_err-write_parts-clause-prefix
returns-in_err-write_parts-clause-prefix g c =
    let text = (λ i. c.as_slice.ensures i ++ (c.as_slice-2.ensures i ++ c.as_slice-3.ensures i)) ∙ c.in_ok-parts.ensures in
    λ _. subst (λ (t : List ℕ). AppendsPrefix (g.K.Sink.written c.args.sink.now) (g.K.Sink.written c.write_parts.new.sink) t) text c.in_err-write_parts.ensures.prefix

pub returns-clause-whole : goal.returns-clause-whole
returns-clause-whole g c =
    let text = (λ i. c.as_slice.ensures i ++ (c.as_slice-2.ensures i ++ c.as_slice-3.ensures i)) ∙ c.in_ok-parts.ensures in
    subst (λ (t : List ℕ). Appends (g.K.Sink.written c.args.sink.now) (g.K.Sink.written c.write_parts.new.sink) t) text c.in_ok-write_parts.ensures.whole
