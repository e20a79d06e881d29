use Rattle.std.proofs.Common.{◌≡◌, ◌≤◌, ◌*◌, length, replicate, ap, refl, sym, ◌∙◌, arith}
use Rattle.std.specs.FinSet.{empty}
use Rattle.rset.specs.declared.TheConstants.{RESOURCES}
use Rattle.rexpand.specs.declared.TheConstants.{BLOCKS}
use Rattle.rexpand.proofs.KeptLemmas.{kept_alone, kept_same}
use Rattle.rexpand.proofs.groups.Groups.new.Goals as goal

pub invariant_of-result : goal.invariant_of-result
invariant_of-result c =
    let entries = c.in_ok-shared.shared.items in
    let size : length entries ≡ c.args.q = omega (arith, c.in_ok-shared.shared.ok, c.in_ok-shared.ensures.len) in
    let some : 1 ≤ length entries = omega (arith, c.requires.some) in
    let few : length entries ≤ RESOURCES = omega (arith, c.requires.few) in
    let empties : c.in_ok-noted.noted.items ≡ replicate (length entries * BLOCKS) empty = c.in_ok-noted.ensures ∙ ap (λ n. replicate (n * BLOCKS) empty) (sym size) in
    kept_same _ _ _ _ _ _ c.new.ensures.items refl empties
    (kept_alone entries some few (λ l small. c.in_ok-shared.ensures.itself l (omega arith)))
