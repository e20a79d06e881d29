use Rattle.std.proofs.Common.{refl}
use Rattle.rvalue.specs.declared.act.Act.TheVariants.{Shown}
use Rattle.rscript.specs.declared.statement.Statement.TheVariants as statement
use Rattle.rrun.proofs.Stepping.{acted}
use Rattle.rrun.proofs.acts.show.Goals as goal

pub returns-in-Ok-clause-ok : goal.returns-in-Ok-clause-ok
returns-in-Ok-clause-ok g c =
    acted c.args.guard c.show.new.guard c.requires.at.0 (Shown c.args.place c.in-Ok.field-0) (statement.Show c.args.place) c.requires.at.1 c.in-Ok.ensures.kind c.in-Ok.ensures.act refl
    (λ o. refl) (λ ds. refl) (λ n ds. refl)
