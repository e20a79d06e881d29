-- What the lines before a record have said, and what each line adds to it.
use Rattle.std.specs.Prelude.{ℕ, List, [], ◌∷◌, ◌++◌, Option, Some, None, option_map, option_to_list}
use Rattle.rset.specs.Sets.{Set}
use Rattle.rtrace_form.specs.Records.{Row}
use Rattle.rscript.specs.Statements.{section_after}
use Rattle.rscript.specs.Lines.{Line, Opens, HasResource, HasGroup, HasTask, Does, Ends, names_of, meaning}
use Rattle.rscript.specs.Places.{at_start, at_version, at_resources, at_groups, at_tasks, at_end}
use Rattle.rscript.specs.declared.section.OpenSection.{OpenSection}
use Rattle.rscript.specs.declared.statement.Statement.{Statement}
use Rattle.rscript.specs.Scripts.{ScriptFields}

-- ---- what was said

-- the place of the last line, what is declared so far, the statements of all tasks but the latest, and those of the latest
pub record SoFar : Type 0 where
  pub last : ℕ
  pub resources : List (List ℕ)
  pub groups : List Set
  pub tasks : List (List ℕ)
  pub earlier : List (List Statement)
  pub latest : Option (List Statement)

-- before the first line
abbrev pub nothing_yet : SoFar
nothing_yet = record { last = at_start; resources = []; groups = []; tasks = []; earlier = []; latest = None }

-- the statements of each task so far
abbrev pub steps_in : SoFar → List (List Statement)
steps_in s = s.earlier ++ option_to_list s.latest

-- the section that is open after the statements of a task, if there is a task
abbrev pub section_of : Option (List Statement) → Option OpenSection
section_of None = None
section_of (Some statements) = section_after statements

-- what the lines so far have said as a whole
abbrev pub told_in : SoFar → ScriptFields
told_in s = record { resources = s.resources; groups = s.groups; tasks = s.tasks; steps = steps_in s }

-- ---- what a line adds

-- statements, and one more
abbrev pub followed_by : Statement → List Statement → List Statement
followed_by s statements = statements ++ s ∷ []

-- what a line adds to what was said before it
abbrev pub with_line : SoFar → Line → SoFar
with_line s Opens = record s { last = at_version }
with_line s (HasResource name) = record s { last = at_resources; resources = s.resources ++ name ∷ [] }
with_line s (HasGroup group) = record s { last = at_groups; groups = s.groups ++ group ∷ [] }
with_line s (HasTask name) = record s { last = at_tasks; tasks = s.tasks ++ name ∷ []; earlier = steps_in s; latest = Some [] }
with_line s (Does done) = record s { last = at_tasks; latest = option_map (followed_by done) s.latest }
with_line s Ends = record s { last = at_end }

-- what a record adds: what the line that it says adds, if it says one
abbrev pub with_meaning : SoFar → Option Line → SoFar
with_meaning s None = s
with_meaning s (Some line) = with_line s line

unfoldable pub with_row : SoFar → Row → SoFar
with_row s row = with_meaning s (meaning (names_of s.resources) row)
