use Rattle.std.proofs.Common.{true}
use Rattle.rtrace_form.specs.Faults.{read_all}
use Rattle.rtrace.proofs.count.CountingRecords.has_ended.Goals as goal

pub returns : goal.returns
returns c = λ rows h. c.has_ended.ensures true (read_all true rows) h.knows
