-- The lines of a script that grows by one record.
use Rattle.std.proofs.Common.{◌≡◌, ℕ, List, [], ◌∷◌, ◌++◌, length, map, refl, sym, ap, ◌∙◌, arith, append_assoc, length-append}
use Rattle.std.proofs.lemmas.List.{append-nil, map-append}
use Rattle.rset.specs.Sets.{Set}
use Rattle.rscript.specs.Lines.{Line, Opens, HasResource, HasGroup, HasTask, Does}
use Rattle.rscript.specs.declared.statement.Statement.{Statement}
use Rattle.rscript.specs.Scripts.{task_lines, said_lines}

one_more : {X : Type 0} (f : X → Line) (xs : List X) (x : X) (rest : List Line) → rest ≡ [] → (map f xs ++ rest) ++ f x ∷ [] ≡ map f (xs ++ x ∷ []) ++ rest
one_more f xs x rest none =
    ap (λ (r : List Line). (map f xs ++ r) ++ f x ∷ []) none
    ∙ ap (λ (lines : List Line). lines ++ f x ∷ []) (append-nil (map f xs)) ∙ sym (map-append f xs (x ∷ [])) ∙ sym (append-nil (map f (xs ++ x ∷ [])))
    ∙ ap (λ (r : List Line). map f (xs ++ x ∷ []) ++ r) (sym none)

-- one more task
lines_of_task : (ts : List (List ℕ)) (steps : List (List Statement)) (name : List ℕ) → length steps ≡ length ts
    → task_lines ts steps ++ HasTask name ∷ [] ≡ task_lines (ts ++ name ∷ []) (steps ++ [] ∷ [])
lines_of_task [] [] name h = refl
lines_of_task [] (st ∷ steps) name h = absurd (omega (arith, h))
lines_of_task (t ∷ ts) [] name h = absurd (omega (arith, h))
lines_of_task (t ∷ ts) (st ∷ steps) name h =
    ap (λ (lines : List Line). HasTask t ∷ lines) (
    append_assoc (map Does st) (task_lines ts steps) (HasTask name ∷ [])
    ∙ ap (λ (lines : List Line). map Does st ++ lines) (lines_of_task ts steps name (omega (arith, h)))
    )

-- one more statement of the last task
lines_of_step : (ts : List (List ℕ)) (earlier : List (List Statement)) (statements : List Statement) (s : Statement) → length (earlier ++ statements ∷ []) ≡ length ts
    → task_lines ts (earlier ++ statements ∷ []) ++ Does s ∷ [] ≡ task_lines ts (earlier ++ (statements ++ s ∷ []) ∷ [])
lines_of_step [] earlier statements s h = absurd (let size = length-append earlier (statements ∷ []) in omega (arith, h, size))
lines_of_step (t ∷ []) [] statements s h = ap (λ (lines : List Line). HasTask t ∷ lines) (one_more Does statements s [] refl)
lines_of_step (t ∷ u ∷ ts) [] statements s h = absurd (omega (arith, h))
lines_of_step (t ∷ ts) (e ∷ earlier) statements s h =
    ap (λ (lines : List Line). HasTask t ∷ lines) (
    append_assoc (map Does e) (task_lines ts (earlier ++ statements ∷ [])) (Does s ∷ [])
    ∙ ap (λ (lines : List Line). map Does e ++ lines) (lines_of_step ts earlier statements s (omega (arith, h)))
    )

behind_head : (rs : List (List ℕ)) (gs : List Set) (xs : List Line) (line : Line) → (map HasResource rs ++ (map HasGroup gs ++ xs)) ++ line ∷ [] ≡ map HasResource rs ++ (map HasGroup gs ++ (xs ++ line ∷ []))
behind_head rs gs xs line = append_assoc (map HasResource rs) (map HasGroup gs ++ xs) (line ∷ []) ∙ ap (λ (lines : List Line). map HasResource rs ++ lines) (append_assoc (map HasGroup gs) xs (line ∷ []))

-- the lines so far are those of what is declared so far; equations say what is still empty
module _ (lines : List Line) (rs : List (List ℕ)) (gs : List Set) (ts : List (List ℕ)) (steps : List (List Statement)) (are : lines ≡ said_lines rs gs ts steps) where
  pub grown_resource : (name : List ℕ) → gs ≡ [] → ts ≡ [] → lines ++ HasResource name ∷ [] ≡ said_lines (rs ++ name ∷ []) gs ts steps
  grown_resource name q r =
      ap (λ (xs : List Line). xs ++ HasResource name ∷ []) are
      ∙ ap (λ (xs : List Line). Opens ∷ xs) (one_more HasResource rs name (map HasGroup gs ++ task_lines ts steps) (λ i. map HasGroup (q i) ++ task_lines (r i) steps))

  pub grown_group : (group : Set) → ts ≡ [] → lines ++ HasGroup group ∷ [] ≡ said_lines rs (gs ++ group ∷ []) ts steps
  grown_group group r =
      ap (λ (xs : List Line). xs ++ HasGroup group ∷ []) are
      ∙ ap (λ (xs : List Line). Opens ∷ xs) (
      append_assoc (map HasResource rs) (map HasGroup gs ++ task_lines ts steps) (HasGroup group ∷ [])
      ∙ ap (λ (xs : List Line). map HasResource rs ++ xs) (one_more HasGroup gs group (task_lines ts steps) (λ i. task_lines (r i) steps))
      )

  pub grown_task : (name : List ℕ) → length steps ≡ length ts → lines ++ HasTask name ∷ [] ≡ said_lines rs gs (ts ++ name ∷ []) (steps ++ [] ∷ [])
  grown_task name h =
      ap (λ (xs : List Line). xs ++ HasTask name ∷ []) are
      ∙ ap (λ (xs : List Line). Opens ∷ xs) (behind_head rs gs (task_lines ts steps) (HasTask name) ∙ ap (λ (xs : List Line). map HasResource rs ++ (map HasGroup gs ++ xs)) (lines_of_task ts steps name h))

-- one more statement of the latest task
pub grown_step : (lines : List Line) (rs : List (List ℕ)) (gs : List Set) (ts : List (List ℕ)) (earlier : List (List Statement)) (statements : List Statement) (s : Statement)
    → lines ≡ said_lines rs gs ts (earlier ++ statements ∷ []) → length (earlier ++ statements ∷ []) ≡ length ts
    → lines ++ Does s ∷ [] ≡ said_lines rs gs ts (earlier ++ (statements ++ s ∷ []) ∷ [])
grown_step lines rs gs ts earlier statements s are h =
    ap (λ (xs : List Line). xs ++ Does s ∷ []) are
    ∙ ap (λ (xs : List Line). Opens ∷ xs) (behind_head rs gs (task_lines ts (earlier ++ statements ∷ [])) (Does s)
    ∙ ap (λ (xs : List Line). map HasResource rs ++ (map HasGroup gs ++ xs)) (lines_of_step ts earlier statements s h))

-- the lines of a script that declares nothing
pub open_lines : (rs : List (List ℕ)) (gs : List Set) (ts : List (List ℕ)) (steps : List (List Statement)) → rs ≡ [] → gs ≡ [] → ts ≡ [] → said_lines rs gs ts steps ≡ Opens ∷ []
open_lines rs gs ts steps p q r = λ i. Opens ∷ (map HasResource (p i) ++ (map HasGroup (q i) ++ task_lines (r i) steps))
