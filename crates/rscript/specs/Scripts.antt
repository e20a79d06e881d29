-- What a script says as a whole: what it declares, and what each task does. Its lines follow from that, and records
-- spell it if each says the line at its place.
use Rattle.std.specs.Prelude.{◌≡◌, ℕ, true, false, List, [], ◌∷◌, ◌++◌, length, map, Some, IsTrue}
use Rattle.std.specs.List.{AllZip, AllByRecursion}
use Rattle.rset.specs.Sets.{Set, all_below}
use Rattle.rset.specs.Names.{is_table}
use Rattle.rset.specs.declared.TheConstants.{RESOURCES, SEATS}
use Rattle.rtrace_form.specs.Records.{Row, AreRowsOf}
use Rattle.rtrace_form.specs.Heads.{is_nil, are_read_groups}
use Rattle.rscript.specs.Statements.{IsTask}
use Rattle.rscript.specs.Lines.{Line, Opens, HasResource, HasGroup, HasTask, Does, Ends, names_of, meaning}
use Rattle.rscript.specs.declared.statement.Statement.{Statement}

-- its resources, its read groups and its tasks, each in the order of the text, and the statements of each task
pub record ScriptFields : Type 0 where
  pub resources : List (List ℕ)
  pub groups : List Set
  pub tasks : List (List ℕ)
  pub steps : List (List Statement)

-- ---- lines

-- the lines of tasks: each has its name, and then its statements
abbrev pub task_lines : List (List ℕ) → List (List Statement) → List Line
task_lines [] steps = []
task_lines (name ∷ names) [] = HasTask name ∷ task_lines names []
task_lines (name ∷ names) (statements ∷ steps) = HasTask name ∷ (map Does statements ++ task_lines names steps)

-- the lines of a script before its end
abbrev pub said_lines : List (List ℕ) → List Set → List (List ℕ) → List (List Statement) → List Line
said_lines resources groups tasks steps = Opens ∷ (map HasResource resources ++ (map HasGroup groups ++ task_lines tasks steps))

-- the lines of a script
abbrev pub lines_of : ScriptFields → List Line
lines_of p = said_lines p.resources p.groups p.tasks p.steps ++ Ends ∷ []

-- ---- the grammar

-- the groups are of resources below a number
abbrev pub AreWithin : ℕ → List Set → Type 0
AreWithin q groups = AllByRecursion (λ (group : Set). IsTrue (all_below q group)) groups

-- a script: each table has at least one name, and no name twice; its groups are groups of its resources; and each task
-- has its statements
pub record IsScript (p : ScriptFields) : Type 0 where
  pub resources : is_table RESOURCES p.resources ≡ true
  pub tasks : is_table SEATS p.tasks ≡ true
  pub groups : are_read_groups p.groups ≡ true
  pub within : AreWithin (length p.resources) p.groups
  pub some_resource : is_nil p.resources ≡ false
  pub some_task : is_nil p.tasks ≡ false
  pub paired : length p.steps ≡ length p.tasks
  pub each : AllByRecursion (IsTask (length p.resources) p.groups) p.steps

-- these records spell the script: each says the line at its place, by the names that the script declares
pub record Spells (rows : List Row) (p : ScriptFields) : Type 0 where
  pub said : AllZip (λ row line. meaning (names_of p.resources) row ≡ Some line) rows (lines_of p)
  pub script : IsScript p

-- the text spells the script: its records do
abbrev pub IsTextOf : List ℕ → ScriptFields → Type 0
IsTextOf bytes p = (rows : List Row) × AreRowsOf bytes rows × Spells rows p
