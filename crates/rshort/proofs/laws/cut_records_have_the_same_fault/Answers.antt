use Rattle.rshort.proofs.Faults.{same_fault}
use Rattle.rshort.proofs.laws.cut_records_have_the_same_fault.Goals as goal

pub returns : goal.returns
returns c = same_fault
