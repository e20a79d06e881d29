use Rattle.rtrace_form.specs.Reports.{grant_line}
use Rattle.rtrace_write.proofs.Opening.{grew_front}
use Rattle.rtrace_write.proofs.Results.{always_on_err}
use Rattle.rtrace_write.proofs.step.push_grants.Goals as goal

pub returns-in_err-push_grant-clause-err : goal.returns-in_err-push_grant-clause-err
returns-in_err-push_grant-clause-err c = always_on_err _ (grew_front c.args.names.now grant_line c.args.changes.now c.loop-change.change-index c.args.text.now c.loop-change.text c.push_grant.new.self c.loop-change.invariant c.in_err-push_grant.ensures.err)
