use Rattle.std.proofs.Common.{false}
use Rattle.rtrace_form.proofs.texts.Lists.{list_taken, list_fault}
use Rattle.rtrace_form.proofs.lists.NoActs.{no_wrong_bound}
use Rattle.rtrace.specs.Collects.{KnowsList}
use Rattle.rtrace.proofs.Results.{same_error}
use Rattle.rtrace.proofs.Whole.{read_whole}
use Rattle.rtrace.proofs.Writable.{writable}
use Rattle.rtrace.proofs.lists.take_list.Goals as goal

pub returns-in-Ok-clause-list : goal.returns-in-Ok-clause-list
returns-in-Ok-clause-list c =
    let t = list_taken false KnowsList c.args.bytes.now c.take_text.new.taker c.in-Ok.ensures.taken (no_wrong_bound c.in-Ok.ensures.taken.rows) in
    read_whole false c.args.bytes.now c.take_text.new.taker t.rows c.report.result t.are t.spells t.knows c.report.ensures.report

pub returns-in-Err-clause-bad : goal.returns-in-Err-clause-bad
returns-in-Err-clause-bad c = λ fault is. list_fault false c.args.bytes.now fault (c.in-Err.ensures.bad fault (same_error is))

pub returns-in-Ok-clause-writable : goal.returns-in-Ok-clause-writable
returns-in-Ok-clause-writable c = writable false c.args.bytes.now c.report.result (returns-in-Ok-clause-list c)
