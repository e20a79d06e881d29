use Rattle.std.proofs.Common.{◌≡◌, ℕ, Bool, Result, IfOk, sym, subst}
use Rattle.rvalue.specs.declared.ledger.Edit.{Edit}
use Rattle.rvalue.specs.declared.ledger.Ledger.{Ledger}
use Rattle.rvalue.specs.Ledgers.{value_after, is_taken}
use Rattle.rguard.specs.Guards.{GuardFields, HasValue, HoldingToWrite}
use Rattle.rguard.specs.Looks.{fields_of}
use Rattle.rguard.specs.declared.guard.Guard.{Guard}
use Rattle.rrun.proofs.guards.edit.Goals as goal

pub edit-requires-after_bounds : goal.edit-requires-after_bounds
edit-requires-after_bounds g c κs within = subst (λ (x : Guard Ledger g.row.M.Denot Edit). HoldingToWrite (fields_of x).seat c.args.place) c.in-Write.is c.requires.held

pub edit-requires-in-Nest-after_bounds : goal.edit-requires-in-Nest-after_bounds
edit-requires-in-Nest-after_bounds g c κs within = subst (λ (x : Guard Ledger g.row.M.Denot Edit). HoldingToWrite (fields_of x).seat c.args.place) c.in-Nest.is c.requires.held

-- a guard answers whether its value takes the edit
abbrev Tells : {X : Type 0} → Result Bool X → ℕ → Edit → GuardFields Ledger Edit → Type 0
Tells result place edit guard = IfOk result (λ done. (value : Ledger) × HasValue value_after guard place value × (done ≡ is_taken value edit))

pub returns-in-Write-clause-done : goal.returns-in-Write-clause-done
returns-in-Write-clause-done g c = subst (λ (x : Guard Ledger g.row.M.Denot Edit). Tells c.edit.result c.args.place c.args.edit (fields_of x)) (sym c.in-Write.is) c.edit.ensures.done

pub returns-in-Nest-clause-done : goal.returns-in-Nest-clause-done
returns-in-Nest-clause-done g c = subst (λ (x : Guard Ledger g.row.M.Denot Edit). Tells c.edit-in-Nest.result c.args.place c.args.edit (fields_of x)) (sym c.in-Nest.is) c.edit-in-Nest.ensures.done
