use Rattle.std.proofs.Common.{refl}
use Rattle.rvalue.specs.declared.act.Act.TheVariants.{Edited}
use Rattle.rscript.specs.declared.statement.Statement.TheVariants as statement
use Rattle.rrun.proofs.Stepping.{acted, may_edit_there}
use Rattle.rrun.proofs.acts.edit.Goals as goal

pub edit-requires-clause-may : goal.edit-requires-clause-may
edit-requires-clause-may g c κs within = may_edit_there c.requires.at.0 c.args.guard c.requires.at.1 c.args.place c.args.edit c.requires.fits

pub returns-in-Ok-clause-ok : goal.returns-in-Ok-clause-ok
returns-in-Ok-clause-ok g c =
    acted c.args.guard c.edit.new.guard c.requires.at.0 (Edited c.args.place c.args.edit c.in-Ok.field-0) (statement.Edit c.args.place c.args.edit) c.requires.at.1 c.in-Ok.ensures.kind c.in-Ok.ensures.act refl
    (λ o. refl) (λ ds. refl) (λ n ds. refl)
