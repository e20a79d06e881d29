-- How a report is written, and which reports may be.
use Rattle.std.specs.Prelude.{◌≤◌, ◌<◌, ◌^◌, true, List, map, Some, IsTrue, length}
use Rattle.std.specs.List.{AllByRecursion}
use Rattle.rset.specs.Sets.{Set, all_below}
use Rattle.rset.specs.declared.TheConstants.{SEATS}
use Rattle.rvalue.specs.declared.act.Act.{Act}
use Rattle.rvalue.specs.declared.act.Act.TheVariants.{Edited, Shown}
use Rattle.rvalue.specs.declared.ledger.Edit.{Edit}
use Rattle.rvalue.specs.declared.ledger.Edit.TheVariants as edit
use Rattle.rtrace_form.specs.Records.{Row}
use Rattle.rtrace_form.specs.Heads.{names_of, IsHead}
use Rattle.rtrace_form.specs.Lines.{spelled}
use Rattle.rtrace_form.specs.Waits.{bound_in}
use Rattle.rtrace_form.specs.Reports.{Entry, Report, lines_of, IsLawful}

-- the records of a report, each in its one spelling; the cap is always given
abbrev pub report_rows : Report → List Row
report_rows r = map (spelled (names_of r.head)) (lines_of true (bound_in r.head r.entries) (Some r.head.cap) r)

-- the amount of an edit is one that a field may hold, as each value of its type is
abbrev pub IsTellable : Act Edit → Type 0
IsTellable (Edited place (edit.Add n) done) = n < 2 ^ 64
IsTellable (Edited place (edit.Take n) done) = n < 2 ^ 64
IsTellable (Edited place (edit.Set n) done) = n < 2 ^ 64
IsTellable (Shown place number) = Unit {0}

-- a report that may be written: its head is one that a text may have, with groups of its resources, and its history is lawful
pub record MayBeWritten (r : Report) : Type 0 where
  pub head : IsHead r.head (Some r.head.cap)
  pub cap_low : 1 ≤ r.head.cap
  pub cap_high : r.head.cap ≤ SEATS
  pub groups : AllByRecursion (λ (group : Set). IsTrue (all_below (length r.head.resources) group)) r.head.groups
  pub lawful : IsLawful r.head r.entries
  pub amounts : AllByRecursion (λ (entry : Entry). AllByRecursion IsTellable entry.acts) r.entries
