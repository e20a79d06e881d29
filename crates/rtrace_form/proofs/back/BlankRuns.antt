-- Lines may come where they may come without their bounds, and lead to the same.
use Rattle.std.proofs.Common.{◌≡◌, ℕ, ◌&&◌, Bool, not, List, [], ◌∷◌, fold, refl, ap, subst, ◌∙◌}
use Rattle.rbound.specs.Bounds.{Numbers, no_wait}
use Rattle.rtrace_form.specs.Lines.{Line, Opens, HasResource, HasGroup, HasTask, HasCap, Happens, Does, BecomesEntitled, BecomesSatisfied, Grants, Waits, Leaves, Ends}
use Rattle.rtrace_form.specs.SoFar.{SoFar, with_line}
use Rattle.rtrace_form.specs.Faults.{is_first, is_change_due, is_same_line}
use Rattle.rtrace_form.specs.declared.word.Stage.{Stage}
use Rattle.rtrace_form.proofs.lists.BlankLines.{without_bound, blank}
use Rattle.rtrace_form.proofs.forth.Stands.{IsNext, AllNext}

-- bounds are not compared
same_without : (first : Line) (seat : ℕ) (which : Stage) (cover bound : Numbers) → is_same_line first (Waits seat which cover bound) ≡ is_same_line first (Waits seat which cover no_wait)
same_without (Waits other kind numbers more) seat which cover bound = refl
same_without _ seat which cover bound = refl

first_without : (due : List Line) (seat : ℕ) (which : Stage) (cover bound : Numbers) → is_first due (Waits seat which cover bound) ≡ is_first due (Waits seat which cover no_wait)
first_without [] seat which cover bound = refl
first_without (first ∷ due) seat which cover bound = same_without first seat which cover bound

next_blank : (whole : Bool) (s : SoFar) (line : Line) → IsNext whole s (without_bound line) → IsNext whole s line
next_blank whole s (Waits seat which cover bound) next = record {
  room = refl;
  fine = record {
    declared = refl;
    placed = next.fine.placed;
    accepted = refl;
    change = ap (λ b. not (is_change_due s && b)) (first_without s.due seat which cover bound) ∙ next.fine.change;
    act = refl;
    ledger = refl;
  };
  comes = λ _. tt;
}
next_blank whole s Opens next = next
next_blank whole s (HasResource name) next = next
next_blank whole s (HasGroup group) next = next
next_blank whole s (HasTask name) next = next
next_blank whole s (HasCap n) next = next
next_blank whole s (Happens e) next = next
next_blank whole s (Does act) next = next
next_blank whole s (BecomesEntitled seat half) next = next
next_blank whole s (BecomesSatisfied seat half) next = next
next_blank whole s (Grants seat set) next = next
next_blank whole s (Leaves place ledger) next = next
next_blank whole s Ends next = next

line_blank : (whole : Bool) (s : SoFar) (line : Line) → with_line whole s (without_bound line) ≡ with_line whole s line
line_blank whole s (Waits seat which cover bound) = refl
line_blank whole s _ = refl

pub all_blank : (whole : Bool) (s : SoFar) (lines : List Line) → AllNext whole s (blank lines) → AllNext whole s lines
all_blank whole s [] next = tt
all_blank whole s (line ∷ lines) next =
    (next_blank whole s line next.0, all_blank whole (with_line whole s line) lines (subst (λ (t : SoFar). AllNext whole t (blank lines)) (line_blank whole s line) next.1))

pub leads_blank : (whole : Bool) (s : SoFar) (lines : List Line) → fold (with_line whole) s (blank lines) ≡ fold (with_line whole) s lines
leads_blank whole s [] = refl
leads_blank whole s (line ∷ lines) = ap (λ (t : SoFar). fold (with_line whole) t (blank lines)) (line_blank whole s line) ∙ leads_blank whole (with_line whole s line) lines
