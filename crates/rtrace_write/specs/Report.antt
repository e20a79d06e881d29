-- Reports: what a report says, as contracts see it.
use Rattle.std.specs.Prelude.{◌≡◌, ℕ, List, length, map}
use Rattle.std.specs.List.{range_with_len}
use Rattle.rexpand.specs.Groups.{ReadGroups}
use Rattle.rvalue.specs.declared.ledger.Ledger.{Ledger}
use Rattle.rtrace_form.specs.Reports.{Entry, Report, ledger_after}

-- the resources, groups and tasks that it declares, the cap, the history's entries, and a ledger of each resource
pub record ReportFields : Type 0 where
  pub resources : List (List ℕ)
  pub groups : ReadGroups
  pub tasks : List (List ℕ)
  pub cap : ℕ
  pub entries : List Entry
  pub ledgers : List Ledger

-- its head and its history; its ledgers follow from these
abbrev pub told_by : ReportFields → Report
told_by r = record {
  head = record { resources = r.resources; groups = r.groups.groups; tasks = r.tasks; cap = r.cap };
  entries = r.entries;
}

-- its groups are over its resources
abbrev pub IsOverResources : ReportFields → Type 0
IsOverResources r = r.groups.q ≡ length r.resources

-- its ledgers are what its history makes of each resource, by number
abbrev pub HasItsLedgers : ReportFields → Type 0
HasItsLedgers r = r.ledgers ≡ map (ledger_after r.entries) (range_with_len 0 (length r.resources))
