-- How proofs distinguish scripts: each is coded by its parts.
use Rattle.std.specs.Prelude.{◌≡◌, ◌⊎◌, ◌==◌, ℕ, List, refl, if◌then◌else◌}
use Rattle.std.specs.Coded.{Coded, code_by, coded_ℕ, coded_list, coded×, coded⊎}
use Rattle.std.proofs.Common.{inl, inr}
use Rattle.rset.specs.Sets.{Set}
use Rattle.rclaim.specs.Codes.{set_code}
use Rattle.rclaim.specs.Requests.{RequestFields, request_code}
use Rattle.rvalue.specs.declared.ledger.Edit.TheVariants as edit
use Rattle.rscript.specs.declared.statement.Statement.{Statement}
use Rattle.rscript.specs.declared.statement.Statement.TheVariants as statement
use Rattle.rscript.specs.Scripts.{ScriptFields}

-- a beginning by its request, an edit by its place, its kind and its amount, a show by its place, an ask by its part, a
-- rise by 0 and a finish by 1
abbrev StatementParts : Type 0
StatementParts = RequestFields ⊎ ((ℕ × (ℕ ⊎ (ℕ ⊎ ℕ))) ⊎ (ℕ ⊎ (Set ⊎ ℕ)))

abbrev statement_parts : Statement → StatementParts
statement_parts (statement.Begin r) = inl r
statement_parts (statement.Edit place (edit.Add n)) = inr (inl (place, inl n))
statement_parts (statement.Edit place (edit.Take n)) = inr (inl (place, inr (inl n)))
statement_parts (statement.Edit place (edit.Set n)) = inr (inl (place, inr (inr n)))
statement_parts (statement.Show place) = inr (inr (inl place))
statement_parts (statement.Ask part) = inr (inr (inr (inl part)))
statement_parts statement.Rise = inr (inr (inr (inr 0)))
statement_parts statement.Finish = inr (inr (inr (inr 1)))

abbrev edit_from : ℕ → ℕ ⊎ (ℕ ⊎ ℕ) → Statement
edit_from place (inl n) = statement.Edit place (edit.Add n)
edit_from place (inr (inl n)) = statement.Edit place (edit.Take n)
edit_from place (inr (inr n)) = statement.Edit place (edit.Set n)

abbrev statement_from : StatementParts → Statement
statement_from (inl r) = statement.Begin r
statement_from (inr (inl p)) = edit_from p.0 p.1
statement_from (inr (inr (inl place))) = statement.Show place
statement_from (inr (inr (inr (inl part)))) = statement.Ask part
statement_from (inr (inr (inr (inr n)))) = if n == 0 then statement.Rise else statement.Finish

pub statement_from-statement_parts : (s : Statement) → statement_from (statement_parts s) ≡ s
statement_from-statement_parts (statement.Begin r) = refl
statement_from-statement_parts (statement.Edit place (edit.Add n)) = refl
statement_from-statement_parts (statement.Edit place (edit.Take n)) = refl
statement_from-statement_parts (statement.Edit place (edit.Set n)) = refl
statement_from-statement_parts (statement.Show place) = refl
statement_from-statement_parts (statement.Ask part) = refl
statement_from-statement_parts statement.Rise = refl
statement_from-statement_parts statement.Finish = refl

-- a statement is stored as its parts
abbrev pub statement_code : Coded Statement
statement_code =
    code_by StatementParts (coded⊎ request_code (coded⊎ (coded× coded_ℕ (coded⊎ coded_ℕ (coded⊎ coded_ℕ coded_ℕ))) (coded⊎ coded_ℕ (coded⊎ set_code coded_ℕ))))
    statement_parts statement_from statement_from-statement_parts

-- a script is stored as the tuple of its fields
abbrev pub script_code : Coded ScriptFields
script_code =
    code_by (List (List ℕ) × (List Set × (List (List ℕ) × List (List Statement))))
    (coded× (coded_list (coded_list coded_ℕ)) (coded× (coded_list set_code) (coded× (coded_list (coded_list coded_ℕ)) (coded_list (coded_list statement_code)))))
    (λ p. (p.resources, (p.groups, (p.tasks, p.steps))))
    (λ t. record { resources = t.0; groups = t.1.0; tasks = t.1.1.0; steps = t.1.1.1 })
    (λ _. refl)
