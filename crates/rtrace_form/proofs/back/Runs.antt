-- Lines that may come one after another, and where they lead.
use Rattle.std.proofs.Common.{◌≡◌, ℕ, Bool, List, [], ◌∷◌, ◌++◌, fold, Option, None, refl, sym, ap, subst, ◌∙◌}
use Rattle.rset.specs.Sets.{Set}
use Rattle.rtrace_form.specs.Lines.{Line}
use Rattle.rtrace_form.specs.SoFar.{SoFar, with_line}
use Rattle.rtrace_form.proofs.forth.Stands.{IsNext, AllNext}

-- these lines may come one after another from s on, and lead to t
pub record Runs (whole : Bool) (s : SoFar) (lines : List Line) (t : SoFar) : Type 0 where
  pub next : AllNext whole s lines
  pub leads : fold (with_line whole) s lines ≡ t

module _ (whole : Bool) where
  pub runs_none : (s : SoFar) → Runs whole s [] s
  runs_none s = record { next = tt; leads = refl }

  pub runs_on : (s u t : SoFar) (line : Line) (lines : List Line) → IsNext whole s line → with_line whole s line ≡ u → Runs whole u lines t → Runs whole s (line ∷ lines) t
  runs_on s u t line lines next is rest = record {
    next = (next, subst (λ (v : SoFar). AllNext whole v lines) (sym is) rest.next);
    leads = ap (λ (v : SoFar). fold (with_line whole) v lines) is ∙ rest.leads;
  }

  all_next : (s : SoFar) (xs ys : List Line) → AllNext whole s xs → AllNext whole (fold (with_line whole) s xs) ys → AllNext whole s (xs ++ ys)
  all_next s [] ys a b = b
  all_next s (x ∷ xs) ys a b = (a.0, all_next (with_line whole s x) xs ys a.1 b)

  all_lead : (s : SoFar) (xs ys : List Line) → fold (with_line whole) s (xs ++ ys) ≡ fold (with_line whole) (fold (with_line whole) s xs) ys
  all_lead s [] ys = refl
  all_lead s (x ∷ xs) ys = all_lead (with_line whole s x) xs ys

  pub runs_both : (s t u : SoFar) (xs ys : List Line) → Runs whole s xs t → Runs whole t ys u → Runs whole s (xs ++ ys) u
  runs_both s t u xs ys a b = record {
    next = all_next s xs ys a.next (subst (λ (v : SoFar). AllNext whole v ys) (sym a.leads) b.next);
    leads = all_lead s xs ys ∙ ap (λ (v : SoFar). fold (with_line whole) v ys) a.leads ∙ b.leads;
  }

-- the place after items of one kind: the one before them, where there are no items
abbrev pub last_place : {X : Type 0} → ℕ → ℕ → List X → ℕ
last_place before own [] = before
last_place before own (x ∷ xs) = own

pub last_again : {X : Type 0} (own : ℕ) (xs : List X) → last_place own own xs ≡ own
last_again own [] = refl
last_again own (x ∷ xs) = refl

-- what is said in the middle of a head
abbrev pub heading : ℕ → List (List ℕ) → List Set → List (List ℕ) → Option ℕ → SoFar
heading place rs gs ts told = record { last = place; resources = rs; groups = gs; tasks = ts; cap = told; earlier = []; latest = None; due = [] }
