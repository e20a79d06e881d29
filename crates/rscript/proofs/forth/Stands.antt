-- Where lines without a fault lead: they are what they have said.
use Rattle.std.proofs.Common.{◌≡◌, ℕ, ◌≤◌, true, false, List, [], ◌∷◌, ◌++◌, length, Option, Some, None, refl, sym, ap, subst}
use Rattle.std.proofs.lemmas.List.{append-nil}
use Rattle.std.specs.Prelude.{is_none, option_to_list}
use Rattle.std.specs.List.{AllByRecursion}
use Rattle.rset.specs.Names.{is_table}
use Rattle.rset.specs.Sets.{Set}
use Rattle.rset.specs.declared.TheConstants.{RESOURCES, SEATS}
use Rattle.rvalue.specs.InTurn.{AllInTurn}
use Rattle.rtrace_form.specs.Heads.{is_nil, are_read_groups}
use Rattle.rscript.specs.Statements.{FitsBehind, IsTask}
use Rattle.rscript.specs.Lines.{Line}
use Rattle.rscript.specs.declared.statement.Statement.{Statement}
use Rattle.rscript.specs.Scripts.{said_lines, lines_of, AreWithin}
use Rattle.rscript.specs.SoFar.{SoFar, steps_in, section_of, told_in}

-- the statements of the latest task may come one after another
abbrev pub AreTurns : ℕ → List Set → Option (List Statement) → Type 0
AreTurns q groups None = Unit {0}
AreTurns q groups (Some statements) = AllInTurn (FitsBehind q groups) [] statements

-- the text has ended
pub record IsEnded (s : SoFar) (lines : List Line) : Type 0 where
  pub are : lines ≡ lines_of (told_in s)
  pub closed : section_of s.latest ≡ None
  pub some_resource : is_nil s.resources ≡ false
  pub some_task : is_nil s.tasks ≡ false

-- these lines have led to the state
pub record Stands (s : SoFar) (lines : List Line) : Type 0 where
  pub resources : is_table RESOURCES s.resources ≡ true
  pub tasks : is_table SEATS s.tasks ≡ true
  pub groups : are_read_groups s.groups ≡ true
  pub within : AreWithin (length s.resources) s.groups
  pub no_resources : s.last ≤ 1 → s.resources ≡ []
  pub no_groups : s.last ≤ 2 → s.groups ≡ []
  pub no_tasks : s.last ≤ 3 → s.tasks ≡ []
  pub no_earlier : s.last ≤ 3 → s.earlier ≡ []
  pub no_latest : s.last ≤ 3 → s.latest ≡ None
  pub paired : length (steps_in s) ≡ length s.tasks
  pub each : AllByRecursion (IsTask (length s.resources) s.groups) s.earlier
  pub turns : AreTurns (length s.resources) s.groups s.latest
  pub task : s.last ≡ 4 → is_none s.latest ≡ false
  pub none : s.last ≡ 0 → lines ≡ []
  pub said : 1 ≤ s.last → s.last ≤ 4 → lines ≡ said_lines s.resources s.groups s.tasks (steps_in s)
  pub ended : s.last ≡ 5 → IsEnded s lines

-- what holds of the items before and of the latest holds of all
pub all_with : {X : Type 0} (P : X → Type 0) (xs ys : List X) → AllByRecursion P xs → AllByRecursion P ys → AllByRecursion P (xs ++ ys)
all_with P [] ys a b = b
all_with P (x ∷ xs) ys a b = (a.0, all_with P xs ys a.1 b)

-- the latest task is a task once its last section is closed
pub latest_tasks : (q : ℕ) (groups : List Set) (latest : Option (List Statement)) → AreTurns q groups latest → section_of latest ≡ None → AllByRecursion (IsTask q groups) (option_to_list latest)
latest_tasks q groups None turns closed = tt
latest_tasks q groups (Some statements) turns closed = (record { turns = turns; closed = closed }, tt)

pub turn_more : {A : Type 0} (Fits : List A → A → Type 0) (earlier xs : List A) (x : A) → AllInTurn Fits earlier xs → Fits (earlier ++ xs) x → AllInTurn Fits earlier (xs ++ x ∷ [])
turn_more Fits earlier [] x turns fits = (subst (λ (ys : List _). Fits ys x) (append-nil earlier) fits, tt)
turn_more Fits earlier (y ∷ xs) x turns fits = (turns.0, turn_more Fits (earlier ++ y ∷ []) xs x turns.1 (subst (λ (ys : List _). Fits ys x) (sym (assoc earlier y xs)) fits))
  where
    assoc : {A : Type 0} (xs : List A) (y : A) (ys : List A) → (xs ++ y ∷ []) ++ ys ≡ xs ++ y ∷ ys
    assoc [] y ys = refl
    assoc (x ∷ xs) y ys = ap (λ (zs : List _). x ∷ zs) (assoc xs y ys)
