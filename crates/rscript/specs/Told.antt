-- What the record of a statement says, by the declared resources.
use Rattle.std.specs.Prelude.{◌≡◌, ◌<◌, ℕ, Bool, true, false, List, Option, Some}
use Rattle.rset.specs.Sets.{Set}
use Rattle.rvalue.specs.declared.ledger.Edit.{Edit}
use Rattle.rvalue.specs.declared.ledger.Edit.TheVariants as edit
use Rattle.rtrace_form.specs.Records.{Row}
use Rattle.rtrace_form.specs.Fields.{all_counted, all_known}
use Rattle.rtrace_form.specs.Walks.{first_of}
use Rattle.rscript.specs.Words.{fields_of}
use Rattle.rscript.specs.Lines.{Does, names_of, meant_as}
use Rattle.rscript.specs.Causes.{said_causes}
use Rattle.rscript.specs.declared.code.ScriptCode.{ScriptCode}
use Rattle.rscript.specs.declared.code.ScriptCode.TheVariants.{UnknownName, BadNumber, EmptyRequest, Undeclared, FirstOutside}
use Rattle.rscript.specs.declared.section.OpenSection.{OpenSection}
use Rattle.rscript.specs.declared.statement.Statement.{Statement}
use Rattle.rscript.specs.declared.statement.Statement.TheVariants as statement
use Rattle.rscript.specs.declared.word.ScriptWord.{ScriptWord}
use Rattle.rscript.specs.declared.word.ScriptWord.TheVariants as word

-- the records of edits
abbrev pub is_edit : ScriptWord → Bool
is_edit word.Add = true
is_edit word.Take = true
is_edit word.Put = true
is_edit _ = false

-- the edit that the record of an edit says with this number
abbrev pub edit_by : ScriptWord → ℕ → Edit
edit_by word.Add n = edit.Add n
edit_by word.Take n = edit.Take n
edit_by _ n = edit.Set n

-- the records of statements
abbrev pub is_statement : ScriptWord → Bool
is_statement word.Version = false
is_statement word.Resource = false
is_statement word.Group = false
is_statement word.Task = false
is_statement word.End = false
is_statement _ = true

-- the resource that a statement edits or shows is below a number
abbrev pub HasPlace : ℕ → Statement → Type 0
HasPlace q (statement.Begin r) = Unit {0}
HasPlace q (statement.Edit place edit) = place < q
HasPlace q (statement.Show place) = place < q
HasPlace q (statement.Ask part) = Unit {0}
HasPlace q statement.Rise = Unit {0}
HasPlace q statement.Finish = Unit {0}

-- a record of this word says this statement: what it names is declared, its numbers are numbers, and that is what they
-- mean
pub record Tells (resources : List (List ℕ)) (w : ScriptWord) (row : Row) (s : Statement) : Type 0 where
  pub known : all_known (names_of resources) (fields_of w) row ≡ true
  pub counted : all_counted (fields_of w) row ≡ true
  pub means : meant_as (names_of resources) row (Some w) ≡ Some (Does s)

-- a record of this word is wrong with this code, whatever read groups there are and whichever section is open
abbrev pub IsWrong : List (List ℕ) → ScriptWord → Row → ScriptCode → Type 0
IsWrong resources w row code = (groups : List Set) (section : Option OpenSection) → first_of (said_causes resources groups section row w) ≡ Some code

-- the codes of a record's fields and of the request they say; none of them depends on the section that is open
abbrev pub is_of_fields : ScriptCode → Bool
is_of_fields UnknownName = true
is_of_fields BadNumber = true
is_of_fields EmptyRequest = true
is_of_fields Undeclared = true
is_of_fields FirstOutside = true
is_of_fields _ = false
