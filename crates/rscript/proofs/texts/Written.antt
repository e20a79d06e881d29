-- The records that are written of a script spell it.
use Rattle.std.proofs.Common.{◌≡◌, ℕ, ◌≤◌, List, [], ◌∷◌, ◌++◌, length, map, Some, IsTrue}
use Rattle.std.specs.List.{AllZip, AllByRecursion}
use Rattle.rset.specs.Sets.{Set, all_below}
use Rattle.rset.specs.declared.TheConstants.{SEATS}
use Rattle.rset.proofs.NameLemmas.{table_empty}
use Rattle.rclaim.specs.Requests.{FitsLater}
use Rattle.rclaim.specs.declared.TheConstants.{LENGTH_LIMIT}
use Rattle.rclaim.specs.declared.request.Kind.{Kind}
use Rattle.rclaim.specs.declared.request.Kind.TheVariants.{Read, Write, Mixed, Upgrade, Nested}
use Rattle.rvalue.specs.InTurn.{AllInTurn}
use Rattle.rvalue.specs.declared.ledger.Edit.TheVariants as edit
use Rattle.rtrace_form.specs.Fields.{AreTables, AllGood}
use Rattle.rscript.specs.Statements.{FitsBehind, IsWithin, IsTask}
use Rattle.rscript.specs.Words.{fields_of}
use Rattle.rscript.specs.Lines.{Line, Opens, HasResource, HasGroup, Does, Ends, names_of, meaning, spelled, request_values}
use Rattle.rscript.specs.declared.statement.Statement.{Statement}
use Rattle.rscript.specs.declared.statement.Statement.TheVariants as statement
use Rattle.rscript.specs.declared.word.ScriptWord.TheVariants as word
use Rattle.rscript.proofs.lines.LineBack.{IsWritable, meaning_back}
use Rattle.rscript.specs.Scripts.{ScriptFields, task_lines, lines_of, AreWithin, IsScript, Spells}
use Rattle.rscript.specs.Texts.{script_rows}
use Rattle.rscript.proofs.forth.Stands.{all_with}

module _ (rs : List (List ℕ)) where
  request_good : (kind : Kind) (reads writes first : Set) (len later : ℕ) → IsTrue (all_below (length rs) reads) → IsTrue (all_below (length rs) writes) → IsTrue (all_below (length rs) first)
      → len ≤ LENGTH_LIMIT → FitsLater kind later → AllGood (names_of rs) (fields_of (word.Begin kind)) (request_values kind reads writes first len later)
  request_good Read reads writes first len later a b c short late = (a, (short, tt))
  request_good Write reads writes first len later a b c short late = (b, (short, tt))
  request_good Mixed reads writes first len later a b c short late = (a, (b, (short, tt)))
  request_good Upgrade reads writes first len later a b c short late = (a, (short, (late, tt)))
  request_good Nested reads writes first len later a b c short late = (a, (b, (c, (short, tt))))

  -- a statement within the resources may be written
  statement_writable : (st : Statement) → IsWithin (length rs) st → IsWritable (names_of rs) (Does st)
  statement_writable (statement.Begin r) h = record { good = request_good r.kind r.reads r.writes r.first r.len r.later h.1 h.2 h.3 h.0.len h.0.later; normal = h.0 }
  statement_writable (statement.Edit place (edit.Add n)) h = record { good = (h.0, (h.1, tt)); normal = tt }
  statement_writable (statement.Edit place (edit.Take n)) h = record { good = (h.0, (h.1, tt)); normal = tt }
  statement_writable (statement.Edit place (edit.Set n)) h = record { good = (h.0, (h.1, tt)); normal = tt }
  statement_writable (statement.Show place) h = record { good = (h, tt); normal = tt }
  statement_writable (statement.Ask part) h = record { good = (h, tt); normal = tt }
  statement_writable statement.Rise h = record { good = tt; normal = tt }
  statement_writable statement.Finish h = record { good = tt; normal = tt }

  turns_writable : (gs : List Set) (earlier statements : List Statement) → AllInTurn (FitsBehind (length rs) gs) earlier statements → AllByRecursion (IsWritable (names_of rs)) (map Does statements)
  turns_writable gs earlier [] turns = tt
  turns_writable gs earlier (st ∷ statements) turns = (statement_writable st turns.0.within, turns_writable gs (earlier ++ st ∷ []) statements turns.1)

  tasks_writable : (gs : List Set) (ts : List (List ℕ)) (steps : List (List Statement)) → AllByRecursion (IsTask (length rs) gs) steps → AllByRecursion (IsWritable (names_of rs)) (task_lines ts steps)
  tasks_writable gs [] steps each = tt
  tasks_writable gs (name ∷ ts) [] each = (record { good = tt; normal = tt }, tasks_writable gs ts [] tt)
  tasks_writable gs (name ∷ ts) (st ∷ steps) each =
      (record { good = tt; normal = tt }, all_with _ (map Does st) (task_lines ts steps) (turns_writable gs [] st each.0.turns) (tasks_writable gs ts steps each.1))

  groups_writable : (gs : List Set) → AreWithin (length rs) gs → AllByRecursion (IsWritable (names_of rs)) (map HasGroup gs)
  groups_writable [] h = tt
  groups_writable (group ∷ gs) h = (record { good = (h.0, tt); normal = tt }, groups_writable gs h.1)

  resources_writable : (names : List (List ℕ)) → AllByRecursion (IsWritable (names_of rs)) (map HasResource names)
  resources_writable [] = tt
  resources_writable (name ∷ names) = (record { good = tt; normal = tt }, resources_writable names)

-- each line of a script may be written
lines_writable : (p : ScriptFields) → IsScript p → AllByRecursion (IsWritable (names_of p.resources)) (lines_of p)
lines_writable p h =
    let P = IsWritable (names_of p.resources) in
    let tasks = tasks_writable p.resources p.groups p.tasks p.steps h.each in
    let groups = groups_writable p.resources p.groups h.within in
    let resources = resources_writable p.resources p.resources in
    let head = all_with P (map HasResource p.resources) (map HasGroup p.groups ++ task_lines p.tasks p.steps) resources (all_with P (map HasGroup p.groups) (task_lines p.tasks p.steps) groups tasks) in
    all_with P (Opens ∷ (map HasResource p.resources ++ (map HasGroup p.groups ++ task_lines p.tasks p.steps))) (Ends ∷ []) (record { good = tt; normal = tt }, head) (record { good = tt; normal = tt }, tt)

rows_said : (rs : List (List ℕ)) → AreTables (names_of rs) → (lines : List Line) → AllByRecursion (IsWritable (names_of rs)) lines
    → AllZip (λ row line. meaning (names_of rs) row ≡ Some line) (map (spelled (names_of rs)) lines) lines
rows_said rs tables [] all = tt
rows_said rs tables (line ∷ lines) all = (meaning_back (names_of rs) line tables all.0, rows_said rs tables lines all.1)

-- the records that are written of a script spell it
pub written_spells : (p : ScriptFields) → IsScript p → Spells (script_rows p) p
written_spells p h = record {
  said = rows_said p.resources (record { resources = h.resources; tasks = table_empty SEATS }) (lines_of p) (lines_writable p h);
  script = h;
}
