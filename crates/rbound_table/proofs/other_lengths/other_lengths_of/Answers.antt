use Rattle.std.proofs.Common.{ap, ◌∙◌}
use Rattle.rbound_table.specs.Lengths.{others_in}
use Rattle.rbound_table.proofs.other_lengths.other_lengths_of.Goals as goal

pub returns : goal.returns
returns c = record {
  keeps = c.in_ok-others_of.ensures ∙ ap (λ cells. others_in cells c.args.tasks) c.deref.ensures.value;
  bars = c.in_ok-others_of-2.ensures ∙ ap (λ cells. others_in cells c.args.tasks) c.deref-2.ensures.value;
  delays = c.in_ok-delays_of.ensures;
}
