use Rattle.std.proofs.Common.{Option, Some, None, Err, refl, sym, ap, subst}
use Rattle.rnlp_cli.proofs.Outcomes.{told}
use Rattle.rnlp_cli.proofs.Runs.{run_answer, run_leaves, refused_leaves, same_without}
use Rattle.rnlp_cli.proofs.Tellings.{run_tells, script_tells}
use Rattle.rnlp_cli.specs.Told.{TellsBehind}
use Rattle.rnlp_cli.specs.declared.command.Command.TheVariants.{Run}
use Rattle.rnlp_cli.specs.declared.explained.Told.{Told}
use Rattle.rnlp_cli.specs.declared.status.ToolStatus.TheVariants.{Script}
use Rattle.rnlp_cli.proofs.running.run_text.Goals as goal

pub returns-in-Ok-clause-answer : goal.returns-in-Ok-clause-answer
returns-in-Ok-clause-answer g c = run_answer c.args.form c.args.bytes.now c.in-Ok.script c.in-Ok.ensures.script _ _ _ _ _ _ _ _ _ c.run_read-status.result c.run_read-status.ensures.run

pub returns-in-Ok-clause-leaves : goal.returns-in-Ok-clause-leaves
returns-in-Ok-clause-leaves g c = run_leaves c.args.form c.args.bytes.now c.in-Ok.script c.in-Ok.ensures.script _ _ _ _ _ _ _ _ _ c.run_read-status.result c.run_read-status.ensures.run

pub returns-in-Ok-clause-told : goal.returns-in-Ok-clause-told
returns-in-Ok-clause-told g c = λ watchers.
    subst (λ (t : Option Told). TellsBehind c.args.told.now (Some (Run c.args.form)) (Some c.args.bytes.now) c.args.told.now t c.run_read-status.result) (sym c.tell_aside.ensures)
    (run_tells c.args.form c.args.bytes.now c.in-Ok.script c.in-Ok.ensures.script _ _ _ _ _ _ _ _ _ c.args.told.now c.run_read-status.new.aside c.run_read-status.result c.run_read-status.ensures.run c.run_read-status.ensures.aside)

pub returns-in-Err-Bad-clause-answer : goal.returns-in-Err-Bad-clause-answer
returns-in-Err-Bad-clause-answer g c =
    told (g.A.Audience.all c.args.audience.now) (Some (Run c.args.form)) c.args.bytes.now _ _ _ _ _ _ Script c.refuse_script.result refl
    (c.in-Err-Bad.line, c.in-Err-Bad.code, c.in-Err-Bad.ensures.bad c.in-Err-Bad.line c.in-Err-Bad.code (ap Err c.in-Err-Bad.field-0-is), refl) (rw c.in-Err-Bad.field-0-is at c.refuse_script.ensures.written)

pub returns-in-Err-Bad-clause-leaves : goal.returns-in-Err-Bad-clause-leaves
returns-in-Err-Bad-clause-leaves g c = refused_leaves c.args.form (Some c.args.bytes.now) _ _ c.args.receipts.now.items (g.A.Audience.all c.args.audience.now) _ _ _ _ c.refuse_script.result c.refuse_script.ensures.written

pub returns-in-Err-Bad-clause-told : goal.returns-in-Err-Bad-clause-told
returns-in-Err-Bad-clause-told g c = λ watchers.
    let noted = rw c.in-Err-Bad.field-0-is at c.refuse_script.ensures.noted in
    script_tells _ _ _ _ _ _ c.args.told.now (Some (Run c.args.form)) c.args.bytes.now c.args.told.now c.refuse_script.new.told c.refuse_script.result c.refuse_script.ensures.written
    (λ e. (c.in-Err-Bad.line, c.in-Err-Bad.code, c.in-Err-Bad.ensures.bad c.in-Err-Bad.line c.in-Err-Bad.code (ap Err c.in-Err-Bad.field-0-is), noted e)) c.refuse_script.ensures.kept

pub returns-in-Err-Memory-clause-leaves : goal.returns-in-Err-Memory-clause-leaves
returns-in-Err-Memory-clause-leaves g c = (refl, same_without c.args.form None None None c.args.receipts.now.items (g.A.Audience.all c.args.audience.now))
