use Rattle.std.proofs.Common.{sym, ap, ◌∙◌, arith}
use Rattle.std.proofs.lemmas.Grind.{common_steps}
use Rattle.rbound.specs.TaskNeeds.{TaskNeeds, kind_at}
use Rattle.rnlp_cli.proofs.LinesBehind.{nested_put}
use Rattle.rnlp_cli.proofs.bound_lines.push_request.Goals as goal

pub returns-in-Nested : goal.returns-in-Nested
returns-in-Nested c =
    nested_put c.push_asks.result c.args.bounds.now.needs c.args.bounds.now.cap c.args.name.now c.args.task c.args.number c.args.text.now.items c.push_wait.new.text.items c.push_asks.new.text.items (ap (λ (n : TaskNeeds). kind_at n.tasks c.args.task c.args.number) (sym c.needs.ensures) ∙ c.in-Nested.ensures) c.in_ok-push_wait.ensures c.push_asks.ensures

pub returns-in-Upgrade : goal.returns-in-Upgrade
returns-in-Upgrade c = grind (arith, common_steps)
