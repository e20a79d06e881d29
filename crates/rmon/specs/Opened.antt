-- How a feed began.
use Rattle.rmodel.specs.State.{LockState, opening}
use Rattle.rmon.specs.declared.rule.Opening.{Opening}

-- the state before the first event
abbrev pub opening_of : Opening → LockState
opening_of o = opening o.groups o.seats o.cap

-- how a state began, if no event came yet
abbrev pub opening_in : LockState → Opening
opening_in s = record { groups = s.groups; seats = s.seats; cap = s.cap }
