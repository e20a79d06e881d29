use Rattle.std.proofs.Common.{length}
use Rattle.rset.specs.declared.TheConstants.{SEATS}
use Rattle.rset.proofs.NameLemmas.{table_length}
use Rattle.rtrace_form.specs.Heads.{read_groups}
use Rattle.rtrace_write.specs.Report.{ReportFields, told_by}
use Rattle.rtrace_write.proofs.history.push_history.Goals as goal

pub push_followed-requires-clause-followed : goal.push_followed-requires-clause-followed
push_followed-requires-clause-followed c =
    let r : ReportFields = c.args.report.now in
    let may = c.requires.may in
    c.in_ok-following.ensures.follows (read_groups (told_by r).head) (length r.tasks) r.cap (table_length SEATS r.tasks may.head.tasks_named) may.cap_low may.cap_high

pub returns-clause-text : goal.returns-clause-text
returns-clause-text c = c.push_followed.ensures.text

pub returns-clause-gathered : goal.returns-clause-gathered
returns-clause-gathered c = c.push_followed.ensures.gathered
