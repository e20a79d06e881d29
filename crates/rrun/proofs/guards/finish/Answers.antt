use Rattle.std.proofs.Common.{[], ◌∷◌, sym, subst}
use Rattle.rclaim.specs.declared.event.Event.TheVariants.{Finish}
use Rattle.rvalue.specs.declared.ledger.Edit.{Edit}
use Rattle.rvalue.specs.declared.ledger.Ledger.{Ledger}
use Rattle.rguard.specs.Guards.{GuardFields}
use Rattle.rguard.specs.Looks.{fields_of}
use Rattle.rguard.specs.Seats.{Goes, SeatOf, bare}
use Rattle.rguard.specs.declared.guard.Guard.{Guard}
use Rattle.rrun.proofs.guards.finish.Goals as goal

-- a guard's seat ends its section, with the acts of the guard
abbrev GoesWhole : SeatOf Ledger Edit → GuardFields Ledger Edit → Type 0
GoesWhole later guard = Goes guard.seat (record { event = Finish guard.seat.number; acts = guard.acts } ∷ []) later

-- or without the acts
abbrev GoesBare : SeatOf Ledger Edit → GuardFields Ledger Edit → Type 0
GoesBare later guard = Goes guard.seat (bare (Finish guard.seat.number) ∷ []) later

pub returns-in-Read-clause-goes : goal.returns-in-Read-clause-goes
returns-in-Read-clause-goes g c = subst (λ (x : Guard Ledger g.row.M.Denot Edit). GoesWhole c.finish.result (fields_of x)) (sym c.in-Read.is) c.finish.ensures.goes

pub returns-in-Rise-clause-goes : goal.returns-in-Rise-clause-goes
returns-in-Rise-clause-goes g c = subst (λ (x : Guard Ledger g.row.M.Denot Edit). GoesWhole c.finish-in-Rise.result (fields_of x)) (sym c.in-Rise.is) c.finish-in-Rise.ensures.goes

pub returns-in-Ok-clause-goes : goal.returns-in-Ok-clause-goes
returns-in-Ok-clause-goes g c = subst (λ (x : Guard Ledger g.row.M.Denot Edit). GoesWhole c.in-Ok.seat (fields_of x)) (sym c.in-Write.is) c.in-Ok.ensures.goes

pub returns-in-Ok-finish-clause-goes : goal.returns-in-Ok-finish-clause-goes
returns-in-Ok-finish-clause-goes g c = subst (λ (x : Guard Ledger g.row.M.Denot Edit). GoesWhole c.in-Ok-finish.seat (fields_of x)) (sym c.in-Nest.is) c.in-Ok-finish.ensures.goes

pub returns-in-Err-clause-broken : goal.returns-in-Err-clause-broken
returns-in-Err-clause-broken g c =
    subst (λ (x : Guard Ledger g.row.M.Denot Edit). GoesBare c.discard.result (fields_of x)) (sym c.in-Write.is) (subst (GoesBare c.discard.result) c.in-Err.ensures.err c.discard.ensures.goes)

pub returns-in-Err-finish-clause-broken : goal.returns-in-Err-finish-clause-broken
returns-in-Err-finish-clause-broken g c =
    subst (λ (x : Guard Ledger g.row.M.Denot Edit). GoesBare c.discard-in-Err-finish.result (fields_of x)) (sym c.in-Nest.is)
    (subst (GoesBare c.discard-in-Err-finish.result) c.in-Err-finish.ensures.err c.discard-in-Err-finish.ensures.goes)
