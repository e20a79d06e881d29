-- How much a report has.
use Rattle.std.specs.Prelude.{◌≡◌, ℕ, true, List, length}
use Rattle.rtrace_form.specs.Reports.{Report}
use Rattle.rtrace_form.specs.Waits.{all_ended}
use Rattle.rtrace_form.specs.Texts.{IsTextOf}
use Rattle.rtrace.specs.declared.count.AuditCounts.{AuditCounts}

-- the text is of a report that has so much: each of its events, and each wait that they ended
pub record IsCountOf (text : List ℕ) (counts : AuditCounts) : Type 0 where
  pub report : Report
  pub spelled : IsTextOf true text report
  pub events : counts.events ≡ length report.entries
  pub waits : counts.waits ≡ length (all_ended report.head report.entries)
