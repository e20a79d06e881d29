use Rattle.std.proofs.Common.{Err, sym, ap, ◌∙◌}
use Rattle.rscript.proofs.texts.Taken.{may_be_script, script_read, fault_told, if_ok}
use Rattle.rscript.proofs.script.take_script.Goals as goal

pub of-requires : goal.of-requires
of-requires c = may_be_script c.args.bytes.now c.take_text.new.taker c.in-Ok.ensures.taken

pub returns-in-Ok-clause-script : goal.returns-in-Ok-clause-script
returns-in-Ok-clause-script c =
    if_ok c.of.result (script_read c.args.bytes.now c.take_text.new.taker c.in-Ok.ensures.taken) c.of.ensures.said

pub returns-in-Err-clause-bad : goal.returns-in-Err-clause-bad
returns-in-Err-clause-bad c = λ line code is.
    fault_told c.args.bytes.now c.in-Err.e (λ fault same. c.in-Err.ensures.bad fault (ap Err same)) line code (ap Err (sym c.error_of.ensures) ∙ is)
