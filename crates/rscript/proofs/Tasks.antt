-- The statements of each task of a script, for code that runs it.
use Rattle.std.proofs.Common.{◌≡◌, ℕ, zero, suc, List, [], ◌∷◌, ◌++◌, length, Some, sym, subst, append_assoc}
use Rattle.std.proofs.lemmas.List.{append-nil}
use Rattle.std.specs.Prelude.{slice_get}
use Rattle.std.specs.List.{AllByRecursion}
use Rattle.rset.specs.Sets.{Set}
use Rattle.rvalue.specs.InTurn.{AllInTurn}
use Rattle.rtrace_form.proofs.facts.Choices.{some_is, some_none}
use Rattle.rscript.specs.Statements.{FitsBehind, IsTask}
use Rattle.rscript.specs.declared.statement.Statement.{Statement}
use Rattle.rscript.specs.Scripts.{ScriptFields, IsScript}

at_place : {X : Type 0} (P : X → Type 0) (xs : List X) (k : ℕ) (x : X) → AllByRecursion P xs → slice_get xs k ≡ Some x → P x
at_place P [] k x all is = absurd (some_none is)
at_place P (y ∷ xs) zero x all is = subst P (some_is is) all.0
at_place P (y ∷ xs) (suc k) x all is = at_place P xs k x all.1 is

-- the statements of a task of a script are those of a task
pub task_at : (p : ScriptFields) (k : ℕ) (statements : List Statement) → IsScript p → slice_get p.steps k ≡ Some statements → IsTask (length p.resources) p.groups statements
task_at p k statements h is = at_place (IsTask (length p.resources) p.groups) p.steps k statements h.each is

-- each of them may come after those before it
pub fits_at : (q : ℕ) (groups : List Set) (earlier before : List Statement) (s : Statement) (rest : List Statement) → AllInTurn (FitsBehind q groups) earlier (before ++ s ∷ rest) → FitsBehind q groups (earlier ++ before) s
fits_at q groups earlier [] s rest turns = subst (λ (xs : List Statement). FitsBehind q groups xs s) (sym (append-nil earlier)) turns.0
fits_at q groups earlier (x ∷ before) s rest turns =
    subst (λ (xs : List Statement). FitsBehind q groups xs s) (append_assoc earlier (x ∷ []) before) (fits_at q groups (earlier ++ x ∷ []) before s rest turns.1)
