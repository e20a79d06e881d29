use Rattle.std.proofs.Common.{◌≡◌, ◌++◌, ◌∷◌, true, drop}
use Rattle.rmodel.specs.WellFormed.{EachPair, Rises}
use Rattle.rcover_laws.specs.Moments.{Moment}
use Rattle.rcover.specs.Lines.{TellAt}
use Rattle.rcover.specs.Found.{IsFound}
use Rattle.rcover.proofs.lines.found_before.Given as goal

abbrev pub invariant-loop-i : goal.invariant-loop-i
invariant-loop-i l =
    (rest : Moment) → EachPair Rises (l.before ++ l.x ∷ rest) → l.x.claim.write_half ≡ true → TellAt l.heads (l.before ++ l.x ∷ rest) l.before
    → IsFound (l.before ++ l.x ∷ rest) l.x.claim (drop l.i l.before) l.found
