use Rattle.std.proofs.Common.{◌≡◌, drop}
use Rattle.rvalue.specs.Acts.{value_within}
use Rattle.rvalue.proofs.entry.apply_edits.Given as goal

-- the remaining edits turn the value into what all edits make of the first value
abbrev pub invariant-loop-act : goal.invariant-loop-act
invariant-loop-act g l =
    let after = g.T.Editable.after in
    value_within after l.value (drop l.act-index l.acts) l.place ≡ value_within after l.fn.value l.acts l.place
