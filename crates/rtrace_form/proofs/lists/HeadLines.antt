-- The lines of a head that grows by one record.
use Rattle.std.proofs.Common.{◌≡◌, ℕ, List, [], ◌∷◌, ◌++◌, map, Option, Some, None, sym, ap, ◌∙◌, append_assoc}
use Rattle.std.proofs.lemmas.List.{append-nil, map-append}
use Rattle.rset.specs.Sets.{Set}
use Rattle.rtrace_form.specs.Lines.{Line, Opens, HasResource, HasGroup, HasTask, HasCap}
use Rattle.rtrace_form.specs.Reports.{declared_lines}

one_more : {X : Type 0} (f : X → Line) (xs : List X) (x : X) → (map f xs ++ []) ++ f x ∷ [] ≡ map f (xs ++ x ∷ []) ++ []
one_more f xs x =
    ap (λ lines. lines ++ f x ∷ []) (append-nil (map f xs)) ∙ sym (map-append f xs (x ∷ [])) ∙ sym (append-nil (map f (xs ++ x ∷ [])))

pub resource_more : (rs : List (List ℕ)) (name : List ℕ) → declared_lines rs [] [] None ++ HasResource name ∷ [] ≡ declared_lines (rs ++ name ∷ []) [] [] None
resource_more rs name = ap (λ lines. Opens ∷ lines) (one_more HasResource rs name)

pub group_more : (rs : List (List ℕ)) (gs : List Set) (group : Set) → declared_lines rs gs [] None ++ HasGroup group ∷ [] ≡ declared_lines rs (gs ++ group ∷ []) [] None
group_more rs gs group =
    ap (λ lines. Opens ∷ lines) (append_assoc (map HasResource rs) (map HasGroup gs ++ []) (HasGroup group ∷ []) ∙ ap (λ lines. map HasResource rs ++ lines) (one_more HasGroup gs group))

pub task_more : (rs : List (List ℕ)) (gs : List Set) (ts : List (List ℕ)) (name : List ℕ) → declared_lines rs gs ts None ++ HasTask name ∷ [] ≡ declared_lines rs gs (ts ++ name ∷ []) None
task_more rs gs ts name =
    ap (λ lines. Opens ∷ lines) (
    append_assoc (map HasResource rs) (map HasGroup gs ++ (map HasTask ts ++ [])) (HasTask name ∷ [])
    ∙ ap (λ lines. map HasResource rs ++ lines) (append_assoc (map HasGroup gs) (map HasTask ts ++ []) (HasTask name ∷ []) ∙ ap (λ lines. map HasGroup gs ++ lines) (one_more HasTask ts name))
    )

pub cap_more : (rs : List (List ℕ)) (gs : List Set) (ts : List (List ℕ)) (n : ℕ) → declared_lines rs gs ts None ++ HasCap n ∷ [] ≡ declared_lines rs gs ts (Some n)
cap_more rs gs ts n =
    ap (λ lines. Opens ∷ lines) (
    append_assoc (map HasResource rs) (map HasGroup gs ++ (map HasTask ts ++ [])) (HasCap n ∷ [])
    ∙ ap (λ lines. map HasResource rs ++ lines) (append_assoc (map HasGroup gs) (map HasTask ts ++ []) (HasCap n ∷ []) ∙ ap (λ lines. map HasGroup gs ++ (lines ++ HasCap n ∷ [])) (append-nil (map HasTask ts)))
    )

-- the lines of a head that declares nothing
pub open_lines : (rs : List (List ℕ)) (gs : List Set) (ts : List (List ℕ)) (told : Option ℕ) → rs ≡ [] → gs ≡ [] → ts ≡ [] → told ≡ None → declared_lines rs gs ts told ≡ Opens ∷ []
open_lines rs gs ts told p q r t = λ i. declared_lines (p i) (q i) (r i) (t i)

-- the same, where what follows is empty by an equation
module _ (lines : List Line) (rs : List (List ℕ)) (gs : List Set) (ts : List (List ℕ)) (told : Option ℕ) (are : lines ≡ declared_lines rs gs ts told) where
  pub grown_resource : (name : List ℕ) → gs ≡ [] → ts ≡ [] → told ≡ None → lines ++ HasResource name ∷ [] ≡ declared_lines (rs ++ name ∷ []) gs ts told
  grown_resource name q r t =
      ap (λ xs. xs ++ HasResource name ∷ []) (are ∙ (λ i. declared_lines rs (q i) (r i) (t i)))
      ∙ resource_more rs name ∙ (λ i. declared_lines (rs ++ name ∷ []) (sym q i) (sym r i) (sym t i))

  pub grown_group : (group : Set) → ts ≡ [] → told ≡ None → lines ++ HasGroup group ∷ [] ≡ declared_lines rs (gs ++ group ∷ []) ts told
  grown_group group r t =
      ap (λ xs. xs ++ HasGroup group ∷ []) (are ∙ (λ i. declared_lines rs gs (r i) (t i)))
      ∙ group_more rs gs group ∙ (λ i. declared_lines rs (gs ++ group ∷ []) (sym r i) (sym t i))

  pub grown_task : (name : List ℕ) → told ≡ None → lines ++ HasTask name ∷ [] ≡ declared_lines rs gs (ts ++ name ∷ []) told
  grown_task name t =
      ap (λ xs. xs ++ HasTask name ∷ []) (are ∙ (λ i. declared_lines rs gs ts (t i)))
      ∙ task_more rs gs ts name ∙ (λ i. declared_lines rs gs (ts ++ name ∷ []) (sym t i))

  pub grown_cap : (n : ℕ) → told ≡ None → lines ++ HasCap n ∷ [] ≡ declared_lines rs gs ts (Some n)
  grown_cap n t = ap (λ xs. xs ++ HasCap n ∷ []) (are ∙ (λ i. declared_lines rs gs ts (t i))) ∙ cap_more rs gs ts n
