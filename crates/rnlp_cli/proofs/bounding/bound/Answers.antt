use Rattle.std.proofs.Common.{Some, Err, refl, ap}
use Rattle.rnlp_cli.specs.BoundText.{bounds_text}
use Rattle.rnlp_cli.proofs.Outcomes.{told, written}
use Rattle.rnlp_cli.proofs.Tellings.{written_tells, script_tells}
use Rattle.rnlp_cli.specs.declared.command.Command.TheVariants.{Bound}
use Rattle.rnlp_cli.specs.declared.status.ToolStatus.TheVariants.{Script}
use Rattle.rnlp_cli.proofs.bounding.bound.Goals as goal

pub returns-in-Ok-clause-answer : goal.returns-in-Ok-clause-answer
returns-in-Ok-clause-answer g c = λ watchers.
    written watchers (Some (Bound c.args.cap)) c.args.bytes.now (bounds_text c.in-Ok.script c.args.cap) _ _ _ _ _ c.write_bounds.result (c.in-Ok.script, c.in-Ok.ensures.script, refl) c.write_bounds.ensures

pub returns-in-Ok-clause-told : goal.returns-in-Ok-clause-told
returns-in-Ok-clause-told g c = λ watchers. written_tells _ _ _ _ _ _ c.args.told.now (Some (Bound c.args.cap)) (Some c.args.bytes.now) c.args.told.now c.args.told.now c.write_bounds.result refl (λ same. refl) c.write_bounds.ensures

pub returns-in-Err-Bad-clause-answer : goal.returns-in-Err-Bad-clause-answer
returns-in-Err-Bad-clause-answer g c = λ watchers.
    told watchers (Some (Bound c.args.cap)) c.args.bytes.now _ _ _ _ _ _ Script c.refuse_script.result refl
    (c.in-Err-Bad.line, c.in-Err-Bad.code, c.in-Err-Bad.ensures.bad c.in-Err-Bad.line c.in-Err-Bad.code (ap Err c.in-Err-Bad.field-0-is), refl) (rw c.in-Err-Bad.field-0-is at c.refuse_script.ensures.written)

pub returns-in-Err-Bad-clause-told : goal.returns-in-Err-Bad-clause-told
returns-in-Err-Bad-clause-told g c = λ watchers.
    let noted = rw c.in-Err-Bad.field-0-is at c.refuse_script.ensures.noted in
    script_tells _ _ _ _ _ _ c.args.told.now (Some (Bound c.args.cap)) c.args.bytes.now c.args.told.now c.refuse_script.new.told c.refuse_script.result c.refuse_script.ensures.written
    (λ e. (c.in-Err-Bad.line, c.in-Err-Bad.code, c.in-Err-Bad.ensures.bad c.in-Err-Bad.line c.in-Err-Bad.code (ap Err c.in-Err-Bad.field-0-is), noted e)) c.refuse_script.ensures.kept
