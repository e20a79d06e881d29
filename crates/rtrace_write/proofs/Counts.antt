-- How many ledgers and tasks a report has.
use Rattle.std.proofs.Common.{◌≡◌, ◌≤◌, true, false, List, [], ◌∷◌, length, ap, ◌∙◌, arith}
use Rattle.std.proofs.lemmas.List.FromFn.{length-map-range_with_len}
use Rattle.rset.specs.Names.{is_table}
use Rattle.rset.specs.declared.TheConstants.{RESOURCES}
use Rattle.rset.proofs.NameLemmas.{table_length}
use Rattle.rvalue.specs.declared.ledger.Ledger.{Ledger}
use Rattle.rtrace_form.specs.Heads.{is_nil}
use Rattle.rtrace_form.specs.Reports.{ledger_after}
use Rattle.rtrace_write.specs.Report.{ReportFields, HasItsLedgers}

-- there is a ledger of each resource, and no more of them than allowed
pub few_ledgers : (r : ReportFields) (ledgers : List Ledger) → ledgers ≡ r.ledgers → HasItsLedgers r → is_table RESOURCES r.resources ≡ true → length ledgers ≤ RESOURCES
few_ledgers r ledgers same has table =
    let all : length ledgers ≡ length r.resources = ap (λ (xs : List Ledger). length xs) (same ∙ has) ∙ length-map-range_with_len (ledger_after r.entries) 0 (length r.resources) in
    let few = table_length RESOURCES r.resources table in
    omega arith

-- some task
pub some_length : {X : Type 0} (xs : List X) → is_nil xs ≡ false → 1 ≤ length xs
some_length [] some = cc
some_length (x ∷ xs) some = omega arith
