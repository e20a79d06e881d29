use Rattle.std.proofs.Common.{arith}
use Rattle.rset.specs.declared.TheConstants.{RESOURCES}
use Rattle.rset.specs.Kept.{names_of}
use Rattle.rset.proofs.NameLemmas.{table_length}
use Rattle.rset.proofs.KeptLemmas.{kept_length}
use Rattle.rset.proofs.names.NameTable.len.Goals as goal

pub returns-clause-bound : goal.returns-clause-bound
returns-clause-bound c =
    let few = table_length RESOURCES (names_of c.self.inside.names.keys) c.self.invariant in
    omega (arith, few, kept_length c.self.inside.names.keys, c.len.ensures.len)

pub overflow_cast-result : goal.overflow_cast-result
overflow_cast-result c =
    let few = table_length RESOURCES (names_of c.self.inside.names.keys) c.self.invariant in
    omega (arith, few, kept_length c.self.inside.names.keys, c.len.ensures.len)
