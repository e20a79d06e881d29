-- The laws on what each state has that accepted events lead to, and on what an event reports.
use Rattle.std.proofs.Common.{◌≡◌, ◌<◌, ℕ, true, List, sym, subst}
use Rattle.std.specs.FinSet.{union}
use Rattle.rset.proofs.SetLemmas.{all_below_within, all_below_union}
use Rattle.rexpand.specs.Groups.{ReadGroups}
use Rattle.rexpand.proofs.GroupLemmas.{groups_parts}
use Rattle.rclaim.specs.declared.event.Event.{Event}
use Rattle.rmodel.specs.Holds.{holds_of, is_within}
use Rattle.rmodel.specs.Reached.{IsReached}
use Rattle.rmodel.specs.State.{LockState, opening}
use Rattle.rmodel.specs.StateLaws.{IsBelow, ClaimsAreBelow, HeldOneWay, IdleSeatsHaveRoom, HeldUntilGivenBack}
use Rattle.rmodel.specs.Steps.{after, AreAccepted}
use Rattle.rmodel.specs.Telling.{GrantsAreOfRequests, NoneIsToldToWait, NoneFallsBack}
use Rattle.rmodel.specs.WellFormed.{HasParts}
use Rattle.rmodel.proofs.reaching.EachClaim.{AreSetsBelow, sets_below, reads_apart, one_way}
use Rattle.rmodel.proofs.reaching.Going.{none_told_to_wait, none_falls_back}
use Rattle.rmodel.proofs.telling.GrantsTold.{grants_are}
use Rattle.rmodel.proofs.reaching.Growing.{held_after}
use Rattle.rmodel.proofs.reaching.Histories.{after_append, accepted_parts, sizes_after}
use Rattle.rmodel.proofs.reaching.IdleSeats.{has_room}
use Rattle.rmodel.proofs.ListFacts.{all_at, all_from}
use Rattle.rmodel.proofs.reaching.Reached.{reached_after, reached_opening}

reached : (groups : ReadGroups) (seats cap : ℕ) (events : List Event) → AreAccepted (opening groups seats cap) events → IsReached (after (opening groups seats cap) events)
reached groups seats cap events accepted = reached_after (opening groups seats cap) events (reached_opening groups seats cap) accepted

pub grants_are_of_requests : GrantsAreOfRequests
grants_are_of_requests groups seats cap events event accepted comes = grants_are (after (opening groups seats cap) events) event (reached groups seats cap events accepted) comes

pub none_is_told_to_wait : NoneIsToldToWait
none_is_told_to_wait groups seats cap events event accepted comes = none_told_to_wait (after (opening groups seats cap) events) event (reached groups seats cap events accepted) comes

pub none_falls_back_a_step : NoneFallsBack
none_falls_back_a_step groups seats cap events event accepted comes = none_falls_back (after (opening groups seats cap) events) event (reached groups seats cap events accepted) comes

pub claims_are_below : ClaimsAreBelow
claims_are_below groups seats cap events accepted =
    let s = after (opening groups seats cap) events in
    let same = (sizes_after (opening groups seats cap) events).groups in
    let sets = sets_below groups seats cap events accepted in
    let parts = (reached groups seats cap events accepted).sound.parts in
    all_from (IsBelow groups) s.claims (λ x there.
    let low : AreSetsBelow groups x.claim = subst (λ (g : ReadGroups). AreSetsBelow g x.claim) same (all_at (λ x. AreSetsBelow s.groups x.claim) s.claims x sets there) in
    let has = all_at HasParts s.claims x parts there in
    let all = all_below_union groups.q x.claim.reads x.claim.writes low.reads low.writes in
    record {
      reads = low.reads;
      writes = low.writes;
      places = λ are. low.places (groups_parts groups are).each;
      asked = all_below_within groups.q x.asked (union x.claim.reads x.claim.writes) has.asked all;
      granted = all_below_within groups.q x.granted (union x.claim.reads x.claim.writes) has.granted all;
    })

pub held_one_way : HeldOneWay
held_one_way groups seats cap events seat accepted =
    one_way (after (opening groups seats cap) events) seat (reached groups seats cap events accepted) (reads_apart groups seats cap events accepted)

pub idle_seats_have_room : IdleSeatsHaveRoom
idle_seats_have_room groups seats cap events seat accepted there idle =
    has_room (after (opening groups seats cap) events) seat (reached groups seats cap events accepted).sound
    (subst (λ n. seat < n) (sym (sizes_after (opening groups seats cap) events).seats) there) idle

pub held_until_given_back : HeldUntilGivenBack
held_until_given_back groups seats cap events more seat accepted stays =
    let o = opening groups seats cap in
    let parts = accepted_parts o events more accepted in
    subst (λ (s : LockState). is_within (holds_of (after o events).claims seat) (holds_of s.claims seat) ≡ true) (sym (after_append o events more))
    (held_after (after o events) more seat (reached groups seats cap events parts.0) parts.1 stays)
