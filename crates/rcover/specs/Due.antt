-- What is due of the waits after an event.
use Rattle.std.specs.Prelude.{◌≡◌, true, false, ◌&&◌, ◌||◌, ℕ, Bool, Some, if◌then◌else◌, not}
use Rattle.std.specs.FinSet.{contains}
use Rattle.rset.specs.Sets.{Set, meets}
use Rattle.rclaim.specs.declared.claim.Claim.{Claim}
use Rattle.rclaim.specs.declared.event.Event.{Event}
use Rattle.rmodel.specs.declared.claimed.Claimed.{Claimed}
use Rattle.rcover_laws.specs.Moments.{Moment, holds_at}
use Rattle.rcover.specs.Begun.{rises_at}
use Rattle.rcover.specs.Tracked.{keeper_at}
use Rattle.rcover_laws.specs.Told.{waits_first, waits_to_rise, stands}

-- a claim's wait after an event was there before it, except that of the upgrade that rises
pub record StoodBy (e : Event) (m n : Moment) (x : Claimed) : Type 0 where
  pub first : waits_first n x ≡ true → stands waits_first x.claim m ≡ not (rises_at e x.claim.seat)
  pub rise : waits_to_rise n x ≡ true → stands waits_to_rise x.claim m ≡ not (rises_at e x.claim.seat)

-- if a read reads none of these resources, the write that keeps it waiting does not become satisfied
abbrev pub ReadStays : Set → Moment → Moment → Claimed → Type 0
ReadStays written m n x =
    x.claim.write_half ≡ false → meets x.claim.reads written ≡ false
    → (v : Claim) → keeper_at x.claim m ≡ Some v → holds_at v m ≡ false → holds_at v n ≡ false

-- the seats of the writes that are looked at: that of the upgrade that rises, and those that wait and whose heads changed
abbrev pub is_looked_at : Event → Set → Set → Set → ℕ → Bool
is_looked_at e waiting moved risen seat = rises_at e seat || (contains waiting seat && (contains moved seat || contains risen seat))

-- a claim is the write of one of these seats
abbrev pub is_write_of_these : Set → Claimed → Bool
is_write_of_these seats x = x.claim.write_half && contains seats x.claim.seat

-- what is kept of a claim's wait may change by an event: the write is looked at, or the wait of the read begins, or it reads some of what came to be
-- held
abbrev pub is_due : Event → Set → Set → Claimed → Bool
is_due e looked written x = if x.claim.write_half then contains looked x.claim.seat else rises_at e x.claim.seat || meets x.claim.reads written
