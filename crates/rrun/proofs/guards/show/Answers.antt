use Rattle.std.proofs.Common.{◌≡◌, ℕ, Result, IfOk, sym, subst}
use Rattle.rvalue.specs.declared.ledger.Edit.{Edit}
use Rattle.rvalue.specs.declared.ledger.Ledger.{Ledger}
use Rattle.rvalue.specs.Ledgers.{value_after}
use Rattle.rguard.specs.Guards.{GuardFields, HasValue, Holding}
use Rattle.rguard.specs.Looks.{fields_of}
use Rattle.rguard.specs.declared.guard.Guard.{Guard}
use Rattle.rrun.proofs.guards.show.Goals as goal

pub show-requires-after_bounds : goal.show-requires-after_bounds
show-requires-after_bounds g c κs within = subst (λ (x : Guard Ledger g.row.M.Denot Edit). Holding (fields_of x).seat c.args.place) c.in-Read.is c.requires

pub show-requires-in-Write-after_bounds : goal.show-requires-in-Write-after_bounds
show-requires-in-Write-after_bounds g c κs within = subst (λ (x : Guard Ledger g.row.M.Denot Edit). Holding (fields_of x).seat c.args.place) c.in-Write.is c.requires

pub show-requires-in-Rise-after_bounds : goal.show-requires-in-Rise-after_bounds
show-requires-in-Rise-after_bounds g c κs within = subst (λ (x : Guard Ledger g.row.M.Denot Edit). Holding (fields_of x).seat c.args.place) c.in-Rise.is c.requires

pub show-requires-in-Nest-after_bounds : goal.show-requires-in-Nest-after_bounds
show-requires-in-Nest-after_bounds g c κs within = subst (λ (x : Guard Ledger g.row.M.Denot Edit). Holding (fields_of x).seat c.args.place) c.in-Nest.is c.requires

-- what a guard shows is the number of its value
abbrev Shows : {X : Type 0} → Result ℕ X → ℕ → GuardFields Ledger Edit → Type 0
Shows result place guard = IfOk result (λ number. (value : Ledger) × HasValue value_after guard place value × (number ≡ value.balance))

pub returns-in-Read-clause-number : goal.returns-in-Read-clause-number
returns-in-Read-clause-number g c = subst (λ (x : Guard Ledger g.row.M.Denot Edit). Shows c.show.result c.args.place (fields_of x)) (sym c.in-Read.is) c.show.ensures.number

pub returns-in-Write-clause-number : goal.returns-in-Write-clause-number
returns-in-Write-clause-number g c = subst (λ (x : Guard Ledger g.row.M.Denot Edit). Shows c.show-in-Write.result c.args.place (fields_of x)) (sym c.in-Write.is) c.show-in-Write.ensures.number

pub returns-in-Rise-clause-number : goal.returns-in-Rise-clause-number
returns-in-Rise-clause-number g c = subst (λ (x : Guard Ledger g.row.M.Denot Edit). Shows c.show-in-Rise.result c.args.place (fields_of x)) (sym c.in-Rise.is) c.show-in-Rise.ensures.number

pub returns-in-Nest-clause-number : goal.returns-in-Nest-clause-number
returns-in-Nest-clause-number g c = subst (λ (x : Guard Ledger g.row.M.Denot Edit). Shows c.show-in-Nest.result c.args.place (fields_of x)) (sym c.in-Nest.is) c.show-in-Nest.ensures.number
