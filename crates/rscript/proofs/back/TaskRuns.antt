-- The lines of tasks, and of a whole script.
use Rattle.std.proofs.Common.{◌≡◌, ℕ, ◌≤◌, true, false, ◌&&◌, List, [], ◌∷◌, ◌++◌, map, length, Option, Some, None, refl, sym, ap, subst, ◌∙◌, arith, append_assoc}
use Rattle.std.proofs.lemmas.List.{append-nil}
use Rattle.std.specs.Prelude.{is_none, option_to_list}
use Rattle.std.specs.List.{AllByRecursion}
use Rattle.rset.specs.Names.{is_table}
use Rattle.rset.specs.Sets.{Set}
use Rattle.rset.specs.declared.TheConstants.{SEATS}
use Rattle.rvalue.specs.InTurn.{AllInTurn}
use Rattle.rtrace_form.specs.Heads.{is_nil}
use Rattle.rtrace_form.proofs.facts.Tables.{table-front}
use Rattle.rtrace_form.proofs.back.Runs.{last_place, last_again}
use Rattle.rscript.specs.declared.place.Where.{Where}
use Rattle.rscript.specs.Statements.{FitsBehind, IsTask, is_there, section_after}
use Rattle.rscript.specs.Lines.{Line, Opens, HasResource, HasGroup, HasTask, Does, Ends, statement_word}
use Rattle.rscript.specs.declared.statement.Statement.{Statement}
use Rattle.rscript.specs.declared.statement.Statement.TheVariants as statement
use Rattle.rscript.specs.declared.word.ScriptWord.TheVariants as word
use Rattle.rscript.specs.Scripts.{ScriptFields, task_lines, lines_of, IsScript}
use Rattle.rscript.specs.SoFar.{SoFar, nothing_yet, section_of, told_in}
use Rattle.rscript.specs.Faults.{is_ended, needs_resources, is_end}
use Rattle.rvalue.specs.declared.ledger.Edit.TheVariants as edit
use Rattle.rscript.proofs.facts.Fine.{stands_there}
use Rattle.rscript.proofs.forth.Steps.{least_of, most_of, inside_of}
use Rattle.rscript.proofs.back.Runs.{Runs, runs_none, runs_on, runs_both, saying}
use Rattle.rscript.proofs.back.HeadRuns.{open_run, some_place, declared_run, grouped_run, groups_place}

no_needs : (st : Statement) (b : _) → (needs_resources (statement_word st) && b) ≡ false
no_needs (statement.Begin r) b = refl
no_needs (statement.Edit place (edit.Add n)) b = refl
no_needs (statement.Edit place (edit.Take n)) b = refl
no_needs (statement.Edit place (edit.Set n)) b = refl
no_needs (statement.Show place) b = refl
no_needs (statement.Ask part) b = refl
no_needs statement.Rise b = refl
no_needs statement.Finish b = refl

no_end_word : (st : Statement) (b : _) → (is_end (statement_word st) && b) ≡ false
no_end_word (statement.Begin r) b = refl
no_end_word (statement.Edit place (edit.Add n)) b = refl
no_end_word (statement.Edit place (edit.Take n)) b = refl
no_end_word (statement.Edit place (edit.Set n)) b = refl
no_end_word (statement.Show place) b = refl
no_end_word (statement.Ask part) b = refl
no_end_word statement.Rise b = refl
no_end_word statement.Finish b = refl

-- the statements of a task
statements_run : (rs : List (List ℕ)) (gs : List Set) (ts : List (List ℕ)) (earlier : List (List Statement)) (before after : List Statement) → AllInTurn (FitsBehind (length rs) gs) before after
    → Runs (saying 4 rs gs ts earlier (Some before)) (map Does after) (saying 4 rs gs ts earlier (Some (before ++ after)))
statements_run rs gs ts earlier before [] turns =
    subst (λ (xs : List Statement). Runs (saying 4 rs gs ts earlier (Some before)) [] (saying 4 rs gs ts earlier (Some xs))) (sym (append-nil before)) (runs_none (saying 4 rs gs ts earlier (Some before)))
statements_run rs gs ts earlier before (st ∷ after) turns =
    let s = saying 4 rs gs ts earlier (Some before) in
    let fits = turns.0 in
    let least = least_of st in
    let most = most_of st in
    let placed = stands_there s (statement_word st) (omega (arith, least)) (omega (arith, most)) (ap (λ (w : Where). is_there w (section_after before)) (inside_of st) ∙ fits.placed) in
    let same : (before ++ st ∷ []) ++ after ≡ before ++ st ∷ after = append_assoc before (st ∷ []) after in
    let rest = statements_run rs gs ts earlier (before ++ st ∷ []) after turns.1 in
    runs_on s (saying 4 rs gs ts earlier (Some (before ++ st ∷ []))) (saying 4 rs gs ts earlier (Some (before ++ st ∷ after))) (Does st) (map Does after)
    (record { placed = placed; resources = no_needs st (is_nil rs); task = no_end_word st (is_nil ts); fine = (fits.within, fits.right) }) refl
    (subst (λ (xs : List Statement). Runs (saying 4 rs gs ts earlier (Some (before ++ st ∷ []))) (map Does after) (saying 4 rs gs ts earlier (Some xs))) same rest)

-- where the lines of tasks lead
record TasksRun (s : SoFar) (lines : List Line) (p : ℕ) (rs : List (List ℕ)) (gs : List Set) (ts : List (List ℕ)) (steps : List (List Statement)) : Type 0 where
  pub earlier : List (List Statement)
  pub latest : Option (List Statement)
  pub runs : Runs s lines (saying p rs gs ts earlier latest)
  pub all : earlier ++ option_to_list latest ≡ steps
  pub closed : section_of latest ≡ None

tasks_run : (p : ℕ) (rs : List (List ℕ)) (gs : List Set) (before after : List (List ℕ)) (earlier : List (List Statement)) (latest : Option (List Statement)) (steps : List (List Statement))
    → 1 ≤ p → p ≤ 4 → is_nil rs ≡ false → section_of latest ≡ None → is_table SEATS (before ++ after) ≡ true → length steps ≡ length after → AllByRecursion (IsTask (length rs) gs) steps
    → TasksRun (saying p rs gs before earlier latest) (task_lines after steps) (last_place p 4 after) rs gs (before ++ after) ((earlier ++ option_to_list latest) ++ steps)
tasks_run p rs gs before [] earlier latest [] low high some closed table paired each = record {
  earlier = earlier;
  latest = latest;
  runs = subst (λ (ts : List (List ℕ)). Runs (saying p rs gs before earlier latest) [] (saying p rs gs ts earlier latest)) (sym (append-nil before)) (runs_none (saying p rs gs before earlier latest));
  all = sym (append-nil (earlier ++ option_to_list latest));
  closed = closed;
}
tasks_run p rs gs before [] earlier latest (st ∷ steps) low high some closed table paired each = absurd (omega (arith, paired))
tasks_run p rs gs before (name ∷ after) earlier latest [] low high some closed table paired each = absurd (omega (arith, paired))
tasks_run p rs gs before (name ∷ after) earlier latest (st ∷ steps) low high some closed table paired each =
    let s = saying p rs gs before earlier latest in
    let done = earlier ++ option_to_list latest in
    let ts = before ++ name ∷ [] in
    let placed = stands_there s word.Task low high (ap is_none closed) in
    let same : ts ++ after ≡ before ++ name ∷ after = append_assoc before (name ∷ []) after in
    let begun = saying 4 rs gs ts done (Some []) in
    let told = saying 4 rs gs ts done (Some st) in
    let statements = statements_run rs gs ts done [] st each.0.turns in
    let rest = tasks_run 4 rs gs ts after done (Some st) steps (omega arith) (omega arith) some each.0.closed
    (subst (λ (names : List (List ℕ)). is_table SEATS names ≡ true) (sym same) table) (omega (arith, paired)) each.1 in
    let end = saying 4 rs gs (before ++ name ∷ after) rest.earlier rest.latest in
    record {
      earlier = rest.earlier;
      latest = rest.latest;
      runs = runs_on s begun end (HasTask name) (map Does st ++ task_lines after steps)
          (record { placed = placed; resources = some; task = refl; fine = table-front SEATS before after name table }) refl
          (runs_both begun told end (map Does st) (task_lines after steps) statements
          (subst (λ (t : SoFar). Runs told (task_lines after steps) t) (λ i. saying (last_again 4 after i) rs gs (same i) rest.earlier rest.latest) rest.runs));
      all = rest.all ∙ append_assoc done (st ∷ []) steps;
      closed = rest.closed;
    }

-- ---- a whole script

-- where the lines of a script lead: after its end, and they have said the script
pub record ScriptRun (p : ScriptFields) : Type 0 where
  pub end : SoFar
  pub runs : Runs nothing_yet (lines_of p) end
  pub ended : is_ended end ≡ true
  pub told : told_in end ≡ p

pub script_run : (p : ScriptFields) → IsScript p → ScriptRun p
script_run p h =
    let rs = p.resources in
    let gs = p.groups in
    let a = declared_run rs h.resources h.some_resource in
    let b = grouped_run rs gs h.groups h.within in
    let at = groups_place gs in
    let c = tasks_run (last_place 2 3 gs) rs gs [] p.tasks [] None p.steps at.0 at.1 h.some_resource refl h.tasks h.paired h.each in
    let told = saying 4 rs gs p.tasks c.earlier c.latest in
    let end = saying 5 rs gs p.tasks c.earlier c.latest in
    let tasks : Runs (saying (last_place 2 3 gs) rs gs [] [] None) (task_lines p.tasks p.steps) told =
    subst (λ n. Runs (saying (last_place 2 3 gs) rs gs [] [] None) (task_lines p.tasks p.steps) (saying n rs gs p.tasks c.earlier c.latest)) (some_place (last_place 2 3 gs) 4 p.tasks h.some_task) c.runs in
    let close = runs_on told end end Ends []
    (record { placed = stands_there told word.End (omega arith) (omega arith) (ap is_none c.closed); resources = h.some_resource; task = h.some_task; fine = tt }) refl (runs_none end) in
    let bc = runs_both (saying 2 rs [] [] [] None) (saying (last_place 2 3 gs) rs gs [] [] None) told (map HasGroup gs) (task_lines p.tasks p.steps) b tasks in
    let abc = runs_both (saying 1 [] [] [] [] None) (saying 2 rs [] [] [] None) told (map HasResource rs) (map HasGroup gs ++ task_lines p.tasks p.steps) a bc in
    let all = runs_both nothing_yet (saying 1 [] [] [] [] None) told (Opens ∷ []) (map HasResource rs ++ (map HasGroup gs ++ task_lines p.tasks p.steps)) open_run abc in
    record {
      end = end;
      runs = runs_both nothing_yet told end (Opens ∷ (map HasResource rs ++ (map HasGroup gs ++ task_lines p.tasks p.steps))) (Ends ∷ []) all close;
      ended = refl;
      told = ap (λ (steps : List (List Statement)). record { resources = rs; groups = gs; tasks = p.tasks; steps = steps }) c.all;
    }
