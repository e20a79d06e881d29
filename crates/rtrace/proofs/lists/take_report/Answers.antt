use Rattle.std.proofs.Common.{true}
use Rattle.rtrace_form.proofs.texts.Lists.{list_fault}
use Rattle.rtrace.proofs.Results.{if_ok, same_error}
use Rattle.rtrace.proofs.Writable.{writable}
use Rattle.rtrace.proofs.lists.take_report.Goals as goal

pub returns-in-Ok-clause-report : goal.returns-in-Ok-clause-report
returns-in-Ok-clause-report c = if_ok c.finished.result _ _ c.finished.ensures.report (λ r is. is c.args.bytes.now c.in-Ok.ensures.taken)

pub returns-in-Ok-clause-writable : goal.returns-in-Ok-clause-writable
returns-in-Ok-clause-writable c = writable true c.args.bytes.now c.finished.result (returns-in-Ok-clause-report c)

pub returns-in-Err-clause-bad : goal.returns-in-Err-clause-bad
returns-in-Err-clause-bad c = λ fault is. list_fault true c.args.bytes.now fault (c.in-Err.ensures.bad fault (same_error is))
