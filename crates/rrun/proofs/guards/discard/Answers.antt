use Rattle.std.proofs.Common.{[], ◌∷◌, sym, subst}
use Rattle.rclaim.specs.declared.event.Event.TheVariants.{Finish}
use Rattle.rvalue.specs.declared.ledger.Edit.{Edit}
use Rattle.rvalue.specs.declared.ledger.Ledger.{Ledger}
use Rattle.rguard.specs.Guards.{GuardFields}
use Rattle.rguard.specs.Looks.{fields_of}
use Rattle.rguard.specs.Seats.{Goes, SeatOf, bare}
use Rattle.rguard.specs.declared.guard.Guard.{Guard}
use Rattle.rrun.proofs.guards.discard.Goals as goal

-- a guard's seat ends its section without acts
abbrev GoesBare : SeatOf Ledger Edit → GuardFields Ledger Edit → Type 0
GoesBare later guard = Goes guard.seat (bare (Finish guard.seat.number) ∷ []) later

pub returns-in-Read-clause-goes : goal.returns-in-Read-clause-goes
returns-in-Read-clause-goes g c = subst (λ (x : Guard Ledger g.row.M.Denot Edit). GoesBare c.discard.result (fields_of x)) (sym c.in-Read.is) c.discard.ensures.goes

pub returns-in-Write-clause-goes : goal.returns-in-Write-clause-goes
returns-in-Write-clause-goes g c = subst (λ (x : Guard Ledger g.row.M.Denot Edit). GoesBare c.discard-in-Write.result (fields_of x)) (sym c.in-Write.is) c.discard-in-Write.ensures.goes

pub returns-in-Rise-clause-goes : goal.returns-in-Rise-clause-goes
returns-in-Rise-clause-goes g c = subst (λ (x : Guard Ledger g.row.M.Denot Edit). GoesBare c.discard-in-Rise.result (fields_of x)) (sym c.in-Rise.is) c.discard-in-Rise.ensures.goes

pub returns-in-Nest-clause-goes : goal.returns-in-Nest-clause-goes
returns-in-Nest-clause-goes g c = subst (λ (x : Guard Ledger g.row.M.Denot Edit). GoesBare c.discard-in-Nest.result (fields_of x)) (sym c.in-Nest.is) c.discard-in-Nest.ensures.goes
