-- Whether an event is one that a caller may ask for, as a test.
use Rattle.std.specs.Prelude.{◌^◌, Bool, true, false, ◌&&◌, nat_lt, Option, Some, None}
use Rattle.rset.specs.Sets.{all_below}
use Rattle.rclaim.specs.Events.{seat_of}
use Rattle.rclaim.specs.declared.event.Event.{Event}
use Rattle.rclaim.specs.declared.event.Event.TheVariants.{Issue, Finish, Rise, Ask}
use Rattle.rmodel.specs.declared.refused.Refused.{Refused}
use Rattle.rmodel.specs.Claims.{is_admitted}
use Rattle.rmodel.specs.State.{LockState}
use Rattle.rmodel.specs.Steps.{refusal}

-- what is asked for besides the seat
abbrev pub fits_part : LockState → Event → Bool
fits_part s (Issue seat r) = all_below s.groups.q r.reads && (all_below s.groups.q r.writes && (is_admitted s.groups.groups r && nat_lt s.issued (2 ^ 63)))
fits_part s (Finish seat) = true
fits_part s (Rise seat) = true
fits_part s (Ask seat part) = all_below s.groups.q part

abbrev pub fits : LockState → Event → Bool
fits s e = nat_lt (seat_of e) s.seats && fits_part s e

abbrev pub is_no_refusal : Option Refused → Bool
is_no_refusal None = true
is_no_refusal (Some cause) = false

-- nothing speaks against the event
abbrev pub is_accepted : LockState → Event → Bool
is_accepted s e = is_no_refusal (refusal s e)
