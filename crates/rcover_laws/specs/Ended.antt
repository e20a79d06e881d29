-- The waits that an event ends, with the numbers of their covers.
use Rattle.std.specs.Prelude.{Bool, Option, Some, None, List, if◌then◌else◌}
use Rattle.std.specs.List.{filter_map}
use Rattle.rclaim.specs.declared.claim.Claim.{Claim}
use Rattle.rclaim.specs.declared.event.Event.{Event}
use Rattle.rmodel.specs.declared.claimed.Claimed.{Claimed}
use Rattle.rmodel.specs.State.{LockState}
use Rattle.rmodel.specs.Steps.{next, after}
use Rattle.rbound.specs.Bounds.{Numbers}
use Rattle.rbound.specs.declared.which.Which.{Which}
use Rattle.rbound.specs.declared.which.Which.TheVariants.{First, Rise, Ask}
use Rattle.rcover_laws.specs.declared.wait_end.WaitEnd.{WaitEnd}
use Rattle.rcover_laws.specs.History.{length_in, last_ask}
use Rattle.rcover_laws.specs.Line.{write_sections}
use Rattle.rcover_laws.specs.Moments.{Moment, moments}
use Rattle.rcover_laws.specs.Sections.{Sections, read_sections, ask_sections}
use Rattle.rcover_laws.specs.Told.{waits_first, waits_to_rise, waits_for_ask, stands, wait_so_far}
use Rattle.rcover_laws.specs.Within.{numbers_of}

-- a claim is in this wait of its request
abbrev pub waits_in : Which → Moment → Claimed → Bool
waits_in First m x = waits_first m x
waits_in Rise m x = waits_to_rise m x
waits_in (Ask number) m x = waits_for_ask m x

-- the wait that a claim is in after some events, if any
abbrev pub wait_of : List Event → Moment → Claimed → Option Which
wait_of es m x =
    if waits_first m x then Some First
    else (if waits_to_rise m x then Some Rise
    else (if waits_for_ask m x then Some (Ask (last_ask es x.claim)) else None))

-- the sections of a wait of a claim, over its moments
abbrev pub sections_in : Which → Claimed → List Moment → Sections
sections_in First x ms = if x.claim.write_half then write_sections x.claim ms else read_sections x.claim ms
sections_in Rise x ms = write_sections x.claim ms
sections_in (Ask number) x ms = ask_sections x.claim x.asked ms

-- what is reported of a wait: whose it is, and the numbers of its cover
abbrev pub wait_end : Which → Claim → Numbers → WaitEnd
wait_end w c n = record { seat = c.seat; stamp = c.stamp; which = w; reads = n.reads; writes = n.writes; units = n.units }

-- a wait of a claim at the last of these moments, if the next moment n ends it
abbrev pub ended_if : List Event → List Moment → Moment → Claimed → Option Which → Option WaitEnd
ended_if es ms n x None = None
ended_if es ms n x (Some w) =
    if stands (waits_in w) x.claim n then None
    else Some (wait_end w x.claim (numbers_of (length_in es) (sections_in w x (wait_so_far (waits_in w) x.claim ms))))

-- the waits that an event after others ends, by rising stamp
abbrev pub ended_by : LockState → List Event → Event → List WaitEnd
ended_by o es e =
    let m = (after o es).claims in
    filter_map (λ x. ended_if es (moments o es) (next (after o es) e).claims x (wait_of es m x)) m
