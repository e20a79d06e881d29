use Rattle.rtrace_form.specs.Reports.{wait_line}
use Rattle.rtrace_form.specs.Waits.{no_bounds}
use Rattle.rtrace_write.proofs.Opening.{grew_front}
use Rattle.rtrace_write.proofs.Results.{always_on_err}
use Rattle.rtrace_write.proofs.step.push_waits.Goals as goal

pub returns-in_err-push_wait-clause-err : goal.returns-in_err-push_wait-clause-err
returns-in_err-push_wait-clause-err c = always_on_err _ (grew_front c.args.names.now (wait_line no_bounds) c.args.ended.now c.loop-wait.wait-index c.args.text.now c.loop-wait.text c.push_wait.new.self c.loop-wait.invariant c.in_err-push_wait.ensures.err)
