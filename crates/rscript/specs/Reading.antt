-- What a reader of a script knows about the records it has taken.
use Rattle.std.specs.Prelude.{◌≡◌, ◌≤◌, Bool, true, false, List, [], ◌∷◌, ◌++◌, length, map, Option, Some, None, IfSome}
use Rattle.std.specs.declared.vec.Vec.{Vec}
use Rattle.std.specs.declared.alloc.Global.{Global}
use Rattle.rtrace_form.specs.Records.{Row}
use Rattle.rtrace_form.specs.Heads.{is_nil}
use Rattle.rtrace_form.specs.Walks.{first_of}
use Rattle.rscript.specs.Statements.{section_next}
use Rattle.rscript.specs.Causes.{groups_in}
use Rattle.rscript.specs.Places.{at_resources, at_tasks}
use Rattle.rscript.specs.declared.code.ScriptCode.{ScriptCode}
use Rattle.rscript.specs.declared.statement.Statement.{Statement}
use Rattle.rscript.specs.declared.word.ScriptWord.{ScriptWord}
use Rattle.rscript.specs.SoFar.{SoFar, section_of, with_row}
use Rattle.rscript.specs.Faults.{placed_causes}
use Rattle.rscript.specs.declared.reading.ScriptReader.{ScriptReader}

-- the statements of each task
abbrev pub statements_in : List (Vec Statement Global) → List (List Statement)
statements_in steps = map (λ v. v.items) steps

-- the statements of the latest task, where there is a task
abbrev pub latest_in : Bool → List Statement → Option (List Statement)
latest_in true statements = None
latest_in false statements = Some statements

-- the reader knows what was said so far
pub record Knows (reader : ScriptReader) (s : SoFar) : Type 0 where
  pub last : reader.last ≡ s.last
  pub resources : reader.resources ≡ s.resources
  pub groups : groups_in reader.groups ≡ s.groups
  pub over : IfSome reader.groups (λ groups. groups.q ≡ length reader.resources)
  pub no_groups : s.last ≤ at_resources → reader.groups ≡ None
  pub tasks : reader.tasks ≡ s.tasks
  pub earlier : statements_in reader.steps.items ≡ s.earlier
  pub latest : s.latest ≡ latest_in (is_nil s.tasks) reader.latest.items
  pub fresh : is_nil s.tasks ≡ true → reader.latest.items ≡ []
  pub section : reader.section ≡ section_of s.latest
  pub task : s.last ≡ at_tasks → is_nil s.tasks ≡ false

-- one more statement of the latest task is kept, and the section that is open after it
pub record Adds (old new : ScriptReader) (s : Statement) : Type 0 where
  pub latest : new.latest.items ≡ old.latest.items ++ s ∷ []
  pub section : new.section ≡ section_next old.section s
  pub others : new ≡ record old { latest = new.latest; section = new.section }

-- the statements of the latest task are kept with those of the tasks before it
pub record Keeps (old new : ScriptReader) : Type 0 where
  pub steps : statements_in new.steps.items ≡ statements_in old.steps.items ++ old.latest.items ∷ []
  pub latest : new.latest.items ≡ []
  pub others : new ≡ record old { steps = new.steps; latest = new.latest }

-- the same, unless there is no task
abbrev pub Closes : Bool → ScriptReader → ScriptReader → Type 0
Closes true old new = new ≡ old
Closes false old new = Keeps old new

-- a record of this word that may come there has no fault, and the reader knows what it adds
abbrev pub Takes : ScriptReader → ScriptReader → Row → ScriptWord → Type 0
Takes old new row w = (s : SoFar) → Knows old s → (first_of (placed_causes s row w) ≡ None) × Knows new (with_row s row)

-- a record of this word that may come there has this fault
abbrev pub Refuses : ScriptReader → Row → ScriptWord → ScriptCode → Type 0
Refuses old row w code = (s : SoFar) → Knows old s → first_of (placed_causes s row w) ≡ Some code
