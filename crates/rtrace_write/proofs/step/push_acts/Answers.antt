use Rattle.rtrace_form.specs.Lines.{Does}
use Rattle.rtrace_write.proofs.Opening.{grew_front}
use Rattle.rtrace_write.proofs.Results.{always_on_err}
use Rattle.rtrace_write.proofs.step.push_acts.Goals as goal

pub returns-in_err-push_act-clause-err : goal.returns-in_err-push_act-clause-err
returns-in_err-push_act-clause-err c = always_on_err _ (grew_front c.args.names.now Does c.args.acts.now c.loop-act.act-index c.args.text.now c.loop-act.text c.push_act.new.self c.loop-act.invariant c.in_err-push_act.ensures.err)
