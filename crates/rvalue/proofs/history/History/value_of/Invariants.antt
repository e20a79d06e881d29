use Rattle.std.proofs.Common.{◌≡◌, drop}
use Rattle.rvalue.specs.Histories.{value_of}
use Rattle.rvalue.proofs.history.History.value_of.Given as goal

-- the remaining entries turn the value into what all entries make of the opening value
abbrev pub invariant-loop-entry : goal.invariant-loop-entry
invariant-loop-entry g l =
    let after = g.T.Editable.after in
    value_of after l.value (drop l.entry-index l.entry-items) l.place
    ≡ value_of after l.fn.opening l.entry-items l.place
