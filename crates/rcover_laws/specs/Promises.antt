-- What is promised of waits, for every list of accepted events and each run of moments that more of them make.
use Rattle.std.specs.Prelude.{ℕ, List, ◌++◌}
use Rattle.std.specs.List.{AllByRecursion}
use Rattle.rset.specs.Sets.{Set}
use Rattle.rbound.specs.Groups.{ReadGroups}
use Rattle.rclaim.specs.declared.claim.Claim.{Claim}
use Rattle.rclaim.specs.declared.event.Event.{Event}
use Rattle.rmodel.specs.declared.claimed.Claimed.{Claimed}
use Rattle.rmodel.specs.State.{opening}
use Rattle.rmodel.specs.Steps.{after, AreAccepted}
use Rattle.rmodel.specs.WellFormed.{Among}
use Rattle.rcover_laws.specs.Covers.{IsReadCovered, IsWriteCovered, IsAskCovered}
use Rattle.rcover_laws.specs.History.{length_in, number_in}
use Rattle.rcover_laws.specs.Moments.{moments}
use Rattle.rcover_laws.specs.Told.{AreBounded}
use Rattle.rcover_laws.specs.Waits.{ReadWaits, WriteWaits, AskWaits}
use Rattle.rcover_laws.specs.Within.{needed_by, AreWithinBounds}

-- whenever a read claim waits at each moment of a run, its wait is covered over them
abbrev pub ReadsAreCovered : Type 0
ReadsAreCovered =
    (groups : ReadGroups) (seats cap : ℕ) (events more : List Event) → AreAccepted (opening groups seats cap) (events ++ more)
    → (c : Claim) → AllByRecursion (ReadWaits c) (moments (after (opening groups seats cap) events) more) → IsReadCovered c (moments (after (opening groups seats cap) events) more)

-- whenever a write claim waits at each moment of a run, its wait is covered over them
abbrev pub WritesAreCovered : Type 0
WritesAreCovered =
    (groups : ReadGroups) (seats cap : ℕ) (events more : List Event) → AreAccepted (opening groups seats cap) (events ++ more)
    → (c : Claim) → AllByRecursion (WriteWaits c) (moments (after (opening groups seats cap) events) more) → IsWriteCovered c (moments (after (opening groups seats cap) events) more)

-- whenever an ask is pending at each moment of a run, its wait is covered over them
abbrev pub AsksAreCovered : Type 0
AsksAreCovered =
    (groups : ReadGroups) (seats cap : ℕ) (events more : List Event) → AreAccepted (opening groups seats cap) (events ++ more)
    → (c : Claim) (part : Set) → AllByRecursion (AskWaits c part) (moments (after (opening groups seats cap) events) more)
    → IsAskCovered c part (moments (after (opening groups seats cap) events) more)

-- over each run of moments no wait goes above its bound, by the needs of any history that begins with the events so far
abbrev pub WaitsAreWithinBounds : Type 0
WaitsAreWithinBounds =
    (groups : ReadGroups) (seats cap : ℕ) (events more rest : List Event) → AreAccepted (opening groups seats cap) (events ++ more)
    → AreWithinBounds groups seats cap (events ++ (more ++ rest)) (moments (after (opening groups seats cap) events) more)

-- each wait that the state after some events shows is covered and within its bound over its moments so far, by the needs of any history that begins
-- with these events
abbrev pub EachWaitIsBounded : Type 0
EachWaitIsBounded =
    (groups : ReadGroups) (seats cap : ℕ) (events rest : List Event) → AreAccepted (opening groups seats cap) events
    → (x : Claimed) → Among x (after (opening groups seats cap) events).claims
    → AreBounded (needed_by groups seats (events ++ rest)) (length_in (events ++ rest)) (number_in (events ++ rest)) seats cap (moments (opening groups seats cap) events) (after (opening groups seats cap) events).claims x
