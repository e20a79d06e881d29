-- How many requests are complete once one event more is taken.
use Rattle.std.proofs.Common.{◌≡◌, ◌≤◌, ℕ, ◌+◌, arith, length, List, [], ◌∷◌, ◌++◌, ap, sym, ◌∙◌}
use Rattle.rclaim.specs.declared.event.Event.{Event}
use Rattle.rclaim.specs.declared.event.Event.TheVariants.{Issue, Finish, Rise, Ask}
use Rattle.rmon.specs.Completed.{completed_by, completes}

pub completed_next : (es : List Event) (e : Event) → completed_by (es ++ e ∷ []) ≡ completed_by es + completes e
completed_next [] e = omega arith
completed_next (d ∷ es) e = let rest = completed_next es e in omega (arith, rest)

pub at_most_one : (e : Event) → completes e ≤ 1
at_most_one (Issue seat r) = omega arith
at_most_one (Finish seat) = omega arith
at_most_one (Rise seat) = omega arith
at_most_one (Ask seat part) = omega arith

-- no more than there are events
pub completed_most : (es : List Event) → completed_by es ≤ length es
completed_most [] = omega arith
completed_most (e ∷ es) = let rest = completed_most es in let one = at_most_one e in omega (arith, rest, one)
