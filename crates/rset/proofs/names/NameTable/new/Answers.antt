use Rattle.std.proofs.Common.{ap, ◌∙◌}
use Rattle.rset.specs.Names.{is_table}
use Rattle.rset.specs.declared.TheConstants.{RESOURCES}
use Rattle.rset.specs.Kept.{names_of}
use Rattle.rset.proofs.NameLemmas.{table_empty}
use Rattle.rset.proofs.names.NameTable.new.Goals as goal

pub invariant_of-result : goal.invariant_of-result
invariant_of-result c = ap (λ keys. is_table RESOURCES (names_of keys)) c.new.ensures.empty ∙ table_empty RESOURCES
