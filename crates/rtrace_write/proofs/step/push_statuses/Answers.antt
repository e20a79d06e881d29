use Rattle.rclaim.specs.declared.changes.StatusChange.{StatusChange}
use Rattle.rtrace_form.specs.Reports.{status_lines}
use Rattle.rtrace_write.proofs.Opening.{grew_fronts}
use Rattle.rtrace_write.proofs.Results.{always_on_err}
use Rattle.rtrace_write.proofs.step.push_statuses.Goals as goal

pub returns-in_err-push_status-clause-err : goal.returns-in_err-push_status-clause-err
returns-in_err-push_status-clause-err c = always_on_err _ (grew_fronts c.args.names.now (λ (x : StatusChange). status_lines x.seat x.write_half x.status) c.args.changes.now c.loop-change.change-index c.args.text.now c.loop-change.text c.push_status.new.self c.loop-change.invariant c.in_err-push_status.ensures.err)
