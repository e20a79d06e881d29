-- How proofs distinguish reports: by their parts.
use Rattle.std.specs.Prelude.{◌≡◌, ◌⊎◌, ℕ, List, refl}
use Rattle.std.specs.Coded.{Coded, code_by, coded_ℕ, coded×, coded⊎, coded_list}
use Rattle.std.proofs.Common.{inl, inr}
use Rattle.rexpand.specs.Codes.{groups_code}
use Rattle.rexpand.specs.Groups.{ReadGroups}
use Rattle.rvalue.specs.Entries.{entry_code}
use Rattle.rvalue.specs.declared.ledger.Edit.{Edit}
use Rattle.rvalue.specs.declared.ledger.Edit.TheVariants.{Add, Take, Set}
use Rattle.rvalue.specs.declared.ledger.Ledger.{Ledger}
use Rattle.rtrace_form.specs.Reports.{Entry}
use Rattle.rtrace_write.specs.Report.{ReportFields}

-- an edit is identified by its kind and its amount
abbrev edit_parts : Edit → ℕ ⊎ (ℕ ⊎ ℕ)
edit_parts (Add n) = inl n
edit_parts (Take n) = inr (inl n)
edit_parts (Set n) = inr (inr n)

abbrev edit_from : ℕ ⊎ (ℕ ⊎ ℕ) → Edit
edit_from (inl n) = Add n
edit_from (inr (inl n)) = Take n
edit_from (inr (inr n)) = Set n

pub edit_from-edit_parts : (e : Edit) → edit_from (edit_parts e) ≡ e
edit_from-edit_parts (Add n) = refl
edit_from-edit_parts (Take n) = refl
edit_from-edit_parts (Set n) = refl

abbrev pub edit_code : Coded Edit
edit_code = code_by (ℕ ⊎ (ℕ ⊎ ℕ)) (coded⊎ coded_ℕ (coded⊎ coded_ℕ coded_ℕ)) edit_parts edit_from edit_from-edit_parts

abbrev pub ledger_code : Coded Ledger
ledger_code = code_by (ℕ × ℕ) (coded× coded_ℕ coded_ℕ) (λ l. (l.balance, l.edits)) (λ p. record { balance = p.0; edits = p.1 }) (λ _. refl)

-- a report is stored as the tuple of its fields
abbrev pub report_code : Coded ReportFields
report_code =
    code_by (List (List ℕ) × (ReadGroups × (List (List ℕ) × (ℕ × (List Entry × List Ledger)))))
    (coded× (coded_list (coded_list coded_ℕ)) (coded× groups_code (coded× (coded_list (coded_list coded_ℕ)) (coded× coded_ℕ (coded× (coded_list (entry_code edit_code)) (coded_list ledger_code))))))
    (λ r. (r.resources, (r.groups, (r.tasks, (r.cap, (r.entries, r.ledgers))))))
    (λ p. record { resources = p.0; groups = p.1.0; tasks = p.1.1.0; cap = p.1.1.1.0; entries = p.1.1.1.1.0; ledgers = p.1.1.1.1.1 })
    (λ _. refl)
