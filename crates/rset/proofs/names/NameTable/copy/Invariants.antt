use Rattle.std.proofs.Common.{◌≡◌, take}
use Rattle.rset.specs.Kept.{names_of}
use Rattle.rset.proofs.names.NameTable.copy.Given as goal

abbrev pub invariant-loop-name : goal.invariant-loop-name
invariant-loop-name l = names_of l.names.keys ≡ take l.name-index (names_of l.name-items)
