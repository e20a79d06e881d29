-- Why an event is refused.
use Rattle.std.specs.Prelude.{not, List, ◌==◌, Option, Some, None, option_map, if◌then◌else◌}
use Rattle.std.specs.FinSet.{len}
use Rattle.rset.specs.Sets.{Set}
use Rattle.rclaim.specs.Requests.{RequestFields, asked_set, first_fits}
use Rattle.rclaim.specs.declared.request.RequestErr.{RequestErr}
use Rattle.rclaim.specs.declared.request.RequestErr.TheVariants.{EmptyRequest, Undeclared, FirstOutside}
use Rattle.rclaim.specs.declared.event.Event.{Event}
use Rattle.rclaim.specs.declared.event.Event.TheVariants as event
use Rattle.rmodel.specs.Claims.{is_admitted}
use Rattle.rmodel.specs.State.{LockState}
use Rattle.rmodel.specs.Steps.{refusal}
use Rattle.rtrace_form.specs.declared.fault.Refusal.{Refusal}
use Rattle.rtrace_form.specs.declared.fault.Refusal.TheVariants.{Request, Step}

-- why a request is refused under read groups, before the lock is asked: a read or an upgrade reads nothing, or another request writes nothing; its first part is outside; or it is not admitted
abbrev pub request_refusal : List Set → RequestFields → Option RequestErr
request_refusal groups r =
    if len (asked_set r.kind r.reads r.writes) == 0 then Some EmptyRequest
    else if not (first_fits r.kind r.reads r.writes r.first) then Some FirstOutside
    else if is_admitted groups r then None
    else Some Undeclared

-- why an event is refused in a state: first by its request, then by the lock
abbrev pub refusal_by : LockState → Event → Option RequestErr → Option Refusal
refusal_by s e (Some cause) = Some (Request cause)
refusal_by s e None = option_map Step (refusal s e)

unfoldable pub refusal_in : LockState → Event → Option Refusal
refusal_in s (event.Issue seat r) = refusal_by s (event.Issue seat r) (request_refusal s.groups.groups r)
refusal_in s (event.Finish seat) = option_map Step (refusal s (event.Finish seat))
refusal_in s (event.Rise seat) = option_map Step (refusal s (event.Rise seat))
refusal_in s (event.Ask seat part) = option_map Step (refusal s (event.Ask seat part))
