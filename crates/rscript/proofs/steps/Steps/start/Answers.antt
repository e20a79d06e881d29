use Rattle.std.proofs.Common.{◌≡◌, ◌≤◌, suc, subst, sym, arith}
use Rattle.rscript.specs.Sections.{end_of}
use Rattle.rscript.proofs.Cuts.{begins_before}
use Rattle.rscript.proofs.steps.Steps.start.Goals as goal

pub returns-in-Some-clause-before : goal.returns-in-Some-clause-before
returns-in-Some-clause-before c =
    let told = c.in-Some.ensures in
    subst (λ n. n ≤ end_of 0 c.args.self.now c.args.k) (sym c.end.ensures.end) (begins_before c.args.self.now c.in-Some.before c.args.k (grind (arith, told)))
