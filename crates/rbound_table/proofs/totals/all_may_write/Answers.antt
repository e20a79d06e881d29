use Rattle.std.proofs.Common.{◌==◌, ap, sym, ◌∙◌}
use Rattle.rbound.specs.Bounds.{one_if}
use Rattle.rbound_table.proofs.TotalFacts.{as_number, may_write}
use Rattle.rbound_table.proofs.totals.all_may_write.Goals as goal

pub returns : goal.returns
returns c = ap (λ n. c.args.totals.now.only_readers == n) (c.from.ensures ∙ as_number c.only_reads.result ∙ ap one_if c.only_reads.ensures) ∙ sym (may_write c.args.rows.now c.args.tasks c.args.totals.now c.requires.totals c.args.task c.requires.task)
