use Rattle.std.proofs.Common.{◌≡◌, ◌==◌, Bool, true, false, ◌&&◌, ◌||◌, Option, nat_lt, refl, sym, ap, ◌∙◌}
use Rattle.std.specs.FinSet.{len}
use Rattle.rexpand.specs.Groups.{ReadGroups, is_declared, is_inside}
use Rattle.rscript.specs.Causes.{groups_in}
use Rattle.rscript.proofs.faults.is_declared.Goals as goal

or_nothing : (a b : Bool) → a ≡ (a || (b && false))
or_nothing true b = refl
or_nothing false true = refl
or_nothing false false = refl

pub returns-in-None : goal.returns-in-None
unfolding is_declared is_inside
returns-in-None c =
    ap (λ n. n == 1) c.len.ensures.value ∙ or_nothing (len c.args.set == 1) (nat_lt 0 (len c.args.set))
    ∙ ap (λ (o : Option ReadGroups). is_declared (groups_in o) c.args.set) (sym c.in-None.is)
