-- How proofs distinguish events: each is coded by its parts.
use Rattle.std.specs.Prelude.{◌≡◌, ◌⊎◌, ℕ, refl}
use Rattle.std.specs.Coded.{Coded, code_by, coded_ℕ, coded×, coded⊎}
use Rattle.std.proofs.Common.{inl, inr}
use Rattle.rset.specs.Sets.{Set}
use Rattle.rclaim.specs.declared.event.Event.{Event}
use Rattle.rclaim.specs.declared.event.Event.TheVariants.{Issue, Finish, Rise, Ask}
use Rattle.rclaim.specs.Codes.{set_code}
use Rattle.rclaim.specs.Requests.{RequestFields, request_code}

abbrev EventParts : Type 0
EventParts = (ℕ × RequestFields) ⊎ (ℕ ⊎ (ℕ ⊎ (ℕ × Set)))

abbrev event_parts : Event → EventParts
event_parts (Issue seat request) = inl (seat, request)
event_parts (Finish seat) = inr (inl seat)
event_parts (Rise seat) = inr (inr (inl seat))
event_parts (Ask seat part) = inr (inr (inr (seat, part)))

abbrev event_from : EventParts → Event
event_from (inl p) = Issue p.0 p.1
event_from (inr (inl seat)) = Finish seat
event_from (inr (inr (inl seat))) = Rise seat
event_from (inr (inr (inr p))) = Ask p.0 p.1

pub event_from-event_parts : (event : Event) → event_from (event_parts event) ≡ event
event_from-event_parts (Issue seat request) = refl
event_from-event_parts (Finish seat) = refl
event_from-event_parts (Rise seat) = refl
event_from-event_parts (Ask seat part) = refl

-- an event is coded as its parts
abbrev pub event_code : Coded Event
event_code =
    code_by EventParts (coded⊎ (coded× coded_ℕ request_code) (coded⊎ coded_ℕ (coded⊎ coded_ℕ (coded× coded_ℕ set_code)))) event_parts event_from event_from-event_parts
