-- A guard that was there at once counts as one that was waited for: its wait had nothing to wait for.
use Rattle.std.proofs.Common.{[], ◌∷◌, refl}
use Rattle.rclaim.specs.Requests.{RequestFields}
use Rattle.rclaim.specs.declared.event.Event.TheVariants.{Issue}
use Rattle.rlock.specs.Known.{Site}
use Rattle.rguard.specs.Seats.{SeatOf, IsOneTurn, bare}
use Rattle.rguard.specs.Guards.{WaitFields, HasBegun, kind_for}
use Rattle.rguard.specs.Looks.{HasAcquired, HasAwaited, fields_of}
use Rattle.rguard.specs.declared.guard.Guard.{Guard}
use Rattle.rguard.proofs.Going.{goes_nowhere}

module _ {T M E : Type 0} (site : Site) (seat : SeatOf T E) (request : RequestFields) (guard : Guard T M E) (acquired : HasAcquired site seat request guard) where
  -- the wait that it had
  abbrev pub wait_at_once : WaitFields T E
  wait_at_once = record { site = site; seat = (fields_of guard).seat; acts = []; kind = kind_for request.kind }

  pub begun_at_once : IsOneTurn seat (bare (Issue seat.number request) ∷ []) (fields_of guard).seat → HasBegun site seat request wait_at_once
  begun_at_once turn = record { site_is = refl; kind_is = refl; no_acts = refl; goes = acquired.goes; turn = turn }

  pub awaited_at_once : HasAwaited wait_at_once guard
  awaited_at_once = record {
    awaited = record { site = acquired.site_is; acts = acquired.no_acts; kind = acquired.kind_is };
    goes = goes_nowhere (fields_of guard).seat;
    ready = acquired.ready;
  }
