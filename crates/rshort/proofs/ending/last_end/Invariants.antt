use Rattle.std.proofs.Common.{◌≡◌, take}
use Rattle.std.specs.Prelude.{IfSome}
use Rattle.csv.specs.declared.parser.State.TheVariants as st
use Rattle.rshort.specs.Closed.{state_after, IsEnd}
use Rattle.rshort.specs.Steps.{state_of}
use Rattle.rshort.proofs.ending.last_end.Given as goal

abbrev pub invariant-loop-at : goal.invariant-loop-at
invariant-loop-at l = (state_of l.stand ≡ state_after st.StartRecord (take l.at l.bytes)) × IfSome l.last (IsEnd l.bytes)
