use Rattle.std.proofs.Common.{◌≡◌, fold, nat_lt, ap, ◌∙◌}
use Rattle.std.specs.List.{list_all}
use Rattle.rset.specs.Sets.{rising}
use Rattle.rset.specs.declared.TheConstants.{RESOURCES}
use Rattle.rbound_table.proofs.TableFacts.{rising_all_below}
use Rattle.rbound_table.specs.Tables.{with_member}
use Rattle.rbound_table.proofs.table.take_claim.Goals as goal

pub loop-l-init : goal.loop-l-init
loop-l-init c =
    let whole : c.into_iter-l-iterator.result ≡ c.args.key = c.into_iter-l-iterator.ensures.into_iter_gives ∙ c.iter-l-items.ensures.value in
    (ap (λ s. list_all (λ m. nat_lt m RESOURCES) (rising s)) whole ∙ rising_all_below c.args.key, ap (λ s. fold (with_member c.args.task c.args.key c.args.len) c.args.cells.now (rising s)) whole)
