use Rattle.std.proofs.Common.{false}
use Rattle.rtrace_form.specs.Faults.{read_all}
use Rattle.rtrace.proofs.collect.CollectingRecords.has_ended.Goals as goal

pub returns : goal.returns
returns c = λ rows h. c.has_ended.ensures false (read_all false rows) h.knows
