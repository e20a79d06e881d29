-- Lines that may come one after another, and where they lead.
use Rattle.std.proofs.Common.{◌≡◌, ℕ, List, [], ◌∷◌, ◌++◌, fold, Option, refl, sym, ap, subst, ◌∙◌}
use Rattle.rset.specs.Sets.{Set}
use Rattle.rscript.specs.Lines.{Line}
use Rattle.rscript.specs.declared.statement.Statement.{Statement}
use Rattle.rscript.specs.SoFar.{SoFar, with_line}
use Rattle.rscript.proofs.facts.Fine.{IsNext, AllNext}

-- these lines may come one after another from s on, and lead to t
pub record Runs (s : SoFar) (lines : List Line) (t : SoFar) : Type 0 where
  pub next : AllNext s lines
  pub leads : fold with_line s lines ≡ t

pub runs_none : (s : SoFar) → Runs s [] s
runs_none s = record { next = tt; leads = refl }

pub runs_on : (s u t : SoFar) (line : Line) (lines : List Line) → IsNext s line → with_line s line ≡ u → Runs u lines t → Runs s (line ∷ lines) t
runs_on s u t line lines next is rest = record {
  next = (next, subst (λ (v : SoFar). AllNext v lines) (sym is) rest.next);
  leads = ap (λ (v : SoFar). fold with_line v lines) is ∙ rest.leads;
}

all_next : (s : SoFar) (xs ys : List Line) → AllNext s xs → AllNext (fold with_line s xs) ys → AllNext s (xs ++ ys)
all_next s [] ys a b = b
all_next s (x ∷ xs) ys a b = (a.0, all_next (with_line s x) xs ys a.1 b)

all_lead : (s : SoFar) (xs ys : List Line) → fold with_line s (xs ++ ys) ≡ fold with_line (fold with_line s xs) ys
all_lead s [] ys = refl
all_lead s (x ∷ xs) ys = all_lead (with_line s x) xs ys

pub runs_both : (s t u : SoFar) (xs ys : List Line) → Runs s xs t → Runs t ys u → Runs s (xs ++ ys) u
runs_both s t u xs ys a b = record {
  next = all_next s xs ys a.next (subst (λ (v : SoFar). AllNext v ys) (sym a.leads) b.next);
  leads = all_lead s xs ys ∙ ap (λ (v : SoFar). fold with_line v ys) a.leads ∙ b.leads;
}

-- what is said somewhere in a script
abbrev pub saying : ℕ → List (List ℕ) → List Set → List (List ℕ) → List (List Statement) → Option (List Statement) → SoFar
saying place rs gs ts earlier latest = record { last = place; resources = rs; groups = gs; tasks = ts; earlier = earlier; latest = latest }
