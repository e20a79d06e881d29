-- The statements of a task of a script are whole sections.
use Rattle.std.proofs.Common.{◌≡◌, ℕ, List, [], ◌∷◌, ◌++◌, Option, Some, None, sym, subst, append-nil, append_assoc}
use Rattle.std.specs.Prelude.{slice_get, length}
use Rattle.std.proofs.lemmas.List.Sums.{fold-append}
use Rattle.rset.specs.Sets.{Set}
use Rattle.rexpand.specs.Groups.{ReadGroups}
use Rattle.rvalue.specs.declared.ledger.Edit.{Edit}
use Rattle.rvalue.specs.declared.ledger.Ledger.{Ledger}
use Rattle.rvalue.specs.InTurn.{AllInTurn}
use Rattle.rscript.specs.Statements.{FitsBehind, IsTask, section_next, section_after}
use Rattle.rscript.specs.declared.section.OpenSection.{OpenSection}
use Rattle.rscript.specs.declared.statement.Statement.{Statement}
use Rattle.rscript.specs.Scripts.{ScriptFields, IsScript}
use Rattle.rscript.proofs.Tasks.{task_at}
use Rattle.rguard.specs.Seats.{SeatOf}
use Rattle.rrun.specs.Working.{AreWhole, AreWholeAt}
use Rattle.rrun.specs.Seats.{IsOver}

module _ (q : ℕ) (groups : List Set) where
  whole_behind : (earlier ss : List Statement) → AllInTurn (FitsBehind q groups) earlier ss → section_after (earlier ++ ss) ≡ None → AreWhole q groups (section_after earlier) ss
  whole_behind earlier [] fits closed = subst (λ (xs : List Statement). section_after xs ≡ None) (append-nil earlier) closed
  whole_behind earlier (s ∷ ss) fits closed = (
    record { within = fits.0.within; placed = fits.0.placed; right = fits.0.right },
    subst (λ (o : Option OpenSection). AreWhole q groups o ss) (fold-append section_next None earlier (s ∷ []))
        (whole_behind (earlier ++ s ∷ []) ss fits.1 (subst (λ (xs : List Statement). section_after xs ≡ None) (sym (append_assoc earlier (s ∷ []) ss)) closed)),
  )

  whole_task : (ss : List Statement) → IsTask q groups ss → AreWhole q groups None ss
  whole_task ss is = whole_behind [] ss is.turns is.closed

pub whole_for : (p : ScriptFields) (k : ℕ) (ss : List Statement) (seat : SeatOf Ledger Edit) → IsScript p → slice_get p.steps k ≡ Some ss → IsOver p seat → AreWholeAt seat ss
whole_for p k ss seat script there over b opens =
    subst (λ (g : ReadGroups). AreWhole g.q g.groups None ss) (sym (over b opens)) (whole_task (length p.resources) p.groups ss (task_at p k ss script there))
