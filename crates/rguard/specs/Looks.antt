-- What a look gives.
use Rattle.std.specs.Prelude.{◌≡◌, true, false, [], ◌∷◌}
use Rattle.rclaim.specs.Requests.{RequestFields}
use Rattle.rclaim.specs.declared.event.Event.TheVariants.{Issue}
use Rattle.rlock.specs.Known.{Site}
use Rattle.rguard.specs.Seats.{SeatOf, Goes, IsOneTurn, bare}
use Rattle.rguard.specs.Guards.{GuardFields, WaitFields, HasBegun, IsReady, kind_for}
use Rattle.rguard.specs.declared.kind.GuardKind.{GuardKind}
use Rattle.rguard.specs.declared.kind.GuardKind.TheVariants as kinds
use Rattle.rguard.specs.declared.guard.Guard.{Guard}
use Rattle.rguard.specs.declared.guard.Guard.TheVariants.{Read, Write, Rise, Nest}
use Rattle.rguard.specs.declared.pending.Looked.{Looked}
use Rattle.rguard.specs.declared.pending.Looked.TheVariants.{Ready, NotYet}

module _ {T M E : Type 0} where
  -- what contracts see of a guard, whichever it is
  abbrev pub fields_of : Guard T M E → GuardFields T E
  fields_of (Read guard) = guard
  fields_of (Write guard) = guard
  fields_of (Rise guard) = guard
  fields_of (Nest guard) = guard

  -- its kind
  abbrev pub kind_of : Guard T M E → GuardKind
  kind_of (Read guard) = kinds.Read
  kind_of (Write guard) = kinds.Write
  kind_of (Rise guard) = kinds.Rise
  kind_of (Nest guard) = kinds.Nest

  -- the guard is the one that is waited for, with the acts of the wait, and its seat
  pub record IsAwaited (wait : WaitFields T E) (guard : Guard T M E) : Type 0 where
    pub site : (fields_of guard).site ≡ wait.site
    pub acts : (fields_of guard).acts ≡ wait.acts
    pub kind : kind_of guard ≡ wait.kind

  -- A look takes one turn. It is ready exactly if nothing of the seat is pending after what the seat has then seen
  abbrev pub LooksAt : WaitFields T E → Looked T M E → Type 0
  LooksAt wait (Ready guard) =
      IsAwaited wait guard × Goes wait.seat [] (fields_of guard).seat × IsOneTurn wait.seat [] (fields_of guard).seat × IsReady (fields_of guard).seat true
  LooksAt wait (NotYet next) =
      (next ≡ record wait { seat = next.seat }) × Goes wait.seat [] next.seat × IsOneTurn wait.seat [] next.seat × IsReady next.seat false

  -- the guard is the one that was waited for, and its seat went on from that of the wait, with no entry, until nothing of it was pending
  pub record HasAwaited (wait : WaitFields T E) (guard : Guard T M E) : Type 0 where
    pub awaited : IsAwaited wait guard
    pub goes : Goes wait.seat [] (fields_of guard).seat
    pub ready : IsReady (fields_of guard).seat true

  -- the guard is that of the request which the seat has issued, as soon as nothing of it was pending
  pub record HasAcquired (site : Site) (seat : SeatOf T E) (request : RequestFields) (guard : Guard T M E) : Type 0 where
    pub site_is : (fields_of guard).site ≡ site
    pub kind_is : kind_of guard ≡ kind_for request.kind
    pub no_acts : (fields_of guard).acts ≡ []
    pub goes : Goes seat (bare (Issue seat.number request) ∷ []) (fields_of guard).seat
    pub ready : IsReady (fields_of guard).seat true

-- The request was issued and looked at in one turn: its guard is there exactly if nothing of the seat was pending then
abbrev pub BeginsWithLook : {T M E : Type 0} → Site → SeatOf T E → RequestFields → Looked T M E → Type 0
BeginsWithLook site seat request (Ready guard) =
    HasAcquired site seat request guard × IsOneTurn seat (bare (Issue seat.number request) ∷ []) (fields_of guard).seat
BeginsWithLook site seat request (NotYet wait) = HasBegun site seat request wait × IsReady wait.seat false
