use Rattle.std.proofs.Common.{◌==◌, sym, ap, ◌∙◌}
use Rattle.rexpand.specs.declared.TheConstants.{GROUPS}
use Rattle.rtrace_read.proofs.RowSteps.{groups_room}
use Rattle.rtrace_read.proofs.other_records.has_all_groups.Goals as goal

pub returns-in-Some-clause-room : goal.returns-in-Some-clause-room
returns-in-Some-clause-room c = λ whole s h free. groups_room whole c.args.reading.now s h c.in-Some.groups c.in-Some.is c.len.ensures.groups (ap (λ n. n == GROUPS) (sym c.len.ensures.value) ∙ free)
