-- The laws.
use Rattle.rmodel.specs.Laws.{OneSettlement, OneSettlementAStep, SettlingIsExclusive, WritesAreExclusive}
use Rattle.rmodel.specs.Laws.{SettledIsStable, SettledIsStableAStep, EarliestIsEntitled, EarliestIsEntitledAStep, SomebodyHolds, SomebodyHoldsAStep, OneWriteAtMost, OneWriteAtMostAStep, TakingTurns, TakingTurnsAStep}
use Rattle.rmodel.specs.State.{opening}
use Rattle.rmodel.specs.Settling.{settled}
use Rattle.rmodel.specs.Steps.{changed, after}
use Rattle.rmodel.proofs.settling.OneSettlement.{only_one}
use Rattle.rmodel.proofs.settling.Settlement.{settles_settled}
use Rattle.rmodel.proofs.reaching.Soundness.{sound_changed}
use Rattle.rmodel.proofs.settling.Keeping.{exclusive_settled}
use Rattle.rmodel.proofs.reaching.Reached.{reached_after, reached_opening}
use Rattle.rmodel.proofs.settling.Turns.{halves_take_turns, halves_take_turns_settled}
use Rattle.rmodel.proofs.theorems.Exclusive.{exclusive}
use Rattle.rmodel.proofs.settling.Stable.{stable_settled}
use Rattle.rmodel.proofs.settling.Earliest.{earliest}
use Rattle.rmodel.proofs.settling.Somebody.{some_satisfied}
use Rattle.rmodel.proofs.settling.OneWrite.{one_write, one_write_settled}
use Rattle.rmodel.proofs.theorems.Something.{is_held}

pub one_settlement : OneSettlement
one_settlement s well = record { settles = settles_settled s well; only = λ u to_u. only_one s u (settled s) to_u (settles_settled s well) }

pub one_settlement_a_step : OneSettlementAStep
one_settlement_a_step groups seats cap events event accepted comes =
    let s = after (opening groups seats cap) events in
    let reached = reached_after (opening groups seats cap) events (reached_opening groups seats cap) accepted in
    one_settlement (changed s event).claims (sound_changed s event reached.sound comes).well_formed

pub settling_is_exclusive : SettlingIsExclusive
settling_is_exclusive = exclusive_settled

pub writes_are_exclusive : WritesAreExclusive
writes_are_exclusive groups seats cap events accepted seat other differ =
    exclusive (after (opening groups seats cap) events) seat other (reached_after (opening groups seats cap) events (reached_opening groups seats cap) accepted) differ

pub settled_is_stable : SettledIsStable
settled_is_stable = stable_settled

pub settled_is_stable_a_step : SettledIsStableAStep
settled_is_stable_a_step groups seats cap events accepted = (reached_after (opening groups seats cap) events (reached_opening groups seats cap) accepted).stable

pub earliest_is_entitled : EarliestIsEntitled
earliest_is_entitled = earliest

pub earliest_is_entitled_a_step : EarliestIsEntitledAStep
earliest_is_entitled_a_step groups seats cap events accepted =
    let s = after (opening groups seats cap) events in
    earliest s.claims s.claims (settled_is_stable_a_step groups seats cap events accepted)

pub somebody_holds : SomebodyHolds
somebody_holds = some_satisfied

pub somebody_holds_a_step : SomebodyHoldsAStep
somebody_holds_a_step groups seats cap events accepted =
    is_held (after (opening groups seats cap) events) (reached_after (opening groups seats cap) events (reached_opening groups seats cap) accepted)

pub one_write_at_most : OneWriteAtMost
one_write_at_most = one_write_settled

pub one_write_at_most_a_step : OneWriteAtMostAStep
one_write_at_most_a_step groups seats cap events accepted =
    let s = after (opening groups seats cap) events in
    let reached = reached_after (opening groups seats cap) events (reached_opening groups seats cap) accepted in
    one_write s.groups.groups s.claims (record { well_formed = reached.sound.well_formed; entered = reached.entered; apart = reached.apart }) reached.admitted

pub taking_turns : TakingTurns
taking_turns = halves_take_turns_settled

pub taking_turns_a_step : TakingTurnsAStep
taking_turns_a_step groups seats cap events accepted =
    let s = after (opening groups seats cap) events in
    let reached = reached_after (opening groups seats cap) events (reached_opening groups seats cap) accepted in
    record {
      halves = reached.sound.one_each;
      turns = halves_take_turns s.claims (record { well_formed = reached.sound.well_formed; entered = reached.entered; apart = reached.apart }) reached.sound.one_each reached.turns;
    }
