-- Seats that wait to read.
use Rattle.std.specs.Prelude.{[], ◌∷◌}
use Rattle.rset.specs.Sets.{Set}
use Rattle.rclaim.specs.Requests.{normalised}
use Rattle.rclaim.specs.declared.request.Kind.TheVariants as kinds
use Rattle.rclaim.specs.declared.event.Event.TheVariants.{Issue}
use Rattle.rguard.specs.Seats.{SeatOf, Goes, bare}

-- the seat has issued a request to read just these, and has made no entry since
pub record WaitsToRead {V E : Type 0} (set : Set) (seat : SeatOf V E) : Type 0 where
  pub before : SeatOf V E
  pub goes : Goes before (bare (Issue before.number (normalised kinds.Read set set set 1 0)) ∷ []) seat
