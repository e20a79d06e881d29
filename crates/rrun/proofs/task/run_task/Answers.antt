use Rattle.std.proofs.Common.{List, sym, subst, ◌∙◌}
use Rattle.std.proofs.lemmas.Result.{IfOk-weaker, IfErr-weaker}
use Rattle.rstate.proofs.homes.Lists.{same_item}
use Rattle.rscript.specs.declared.statement.Statement.{Statement}
use Rattle.rrun.specs.Runs.{HasRun, HasBrokenOff}
use Rattle.rrun.proofs.Whole.{whole_for}
use Rattle.rrun.proofs.task.run_task.Goals as goal

pub run_steps-requires-clause-whole : goal.run_steps-requires-clause-whole
run_steps-requires-clause-whole g c κs within =
    whole_for c.args.script.now _ c.steps-steps.result.now c.args.seat c.steps-steps.ensures.script c.steps-steps.ensures.steps c.requires.seat.over

pub returns-clause-ran : goal.returns-clause-ran
returns-clause-ran g c =
    IfOk-weaker c.run_steps.result _ _ (λ later ran statements at. subst (λ (ss : List Statement). HasRun ss c.args.seat later) (same_item c.steps-steps.result.now statements (sym c.steps-steps.ensures.steps ∙ at)) ran) c.run_steps.ensures.ran

pub returns-clause-broken : goal.returns-clause-broken
returns-clause-broken g c =
    IfErr-weaker c.run_steps.result _ _ (λ e broken statements at. subst (λ (ss : List Statement). HasBrokenOff e.sections ss c.args.seat e.seat) (same_item c.steps-steps.result.now statements (sym c.steps-steps.ensures.steps ∙ at)) broken) c.run_steps.ensures.broken
