use Rattle.std.proofs.Common.{◌≡◌, true, fold, nat_lt}
use Rattle.std.specs.List.{list_all}
use Rattle.rset.specs.Sets.{rising}
use Rattle.rset.specs.declared.TheConstants.{RESOURCES}
use Rattle.rbound_table.specs.Tables.{with_member}
use Rattle.rbound_table.proofs.table.take_claim.Given as goal

abbrev pub invariant-loop-l : goal.invariant-loop-l
invariant-loop-l l =
    (list_all (λ m. nat_lt m RESOURCES) (rising l.l-iterator) ≡ true)
    × (fold (with_member l.task l.key l.len) l.cells (rising l.l-iterator) ≡ fold (with_member l.task l.key l.len) l.fn.cells (rising l.fn.key))
