-- What is noted of seats at a moment: which of them wait, ask and read, and what they read.
use Rattle.std.specs.Prelude.{◌≡◌, ◌≢◌, ℕ, Bool, true, false, nat_lt, not, ◌&&◌, ◌||◌, List}
use Rattle.std.specs.List.{AllByRecursion}
use Rattle.std.specs.FinSet.{contains, len}
use Rattle.rset.specs.Sets.{Set}
use Rattle.rmodel.specs.declared.claimed.Claimed.{Claimed}
use Rattle.rmodel.specs.Claims.{is_satisfied}
use Rattle.rcover_laws.specs.Moments.{Moment}
use Rattle.rcover_laws.specs.Told.{waits_to_rise, waits_for_ask}
use Rattle.rcover.specs.Kept.{may_wait}
use Rattle.rcover.specs.Lines.{set_at}

-- a claim is in a wait, or asks for something
abbrev pub some_wait : Moment → Claimed → Bool
some_wait n x = may_wait n x || nat_lt 0 (len x.asked)

-- the seats of all claims that wait are among these
abbrev pub HoldWaiting : Set → Moment → Type 0
HoldWaiting seats n = AllByRecursion (λ x. some_wait n x ≡ true → contains seats x.claim.seat ≡ true) n

-- no claim of a seat waits at a moment
abbrev pub NoneWaits : Moment → ℕ → Type 0
NoneWaits n seat = AllByRecursion (λ x. may_wait n x ≡ true → seat ≢ x.claim.seat) n

-- a claim of one of these seats is not satisfied
abbrev pub is_rising : Set → Claimed → Bool
is_rising seats x = contains seats x.claim.seat && not (is_satisfied x)

-- these seats say which claims wait to rise: just their claims that are not satisfied
abbrev pub TellRising : Set → Moment → Type 0
TellRising seats n = AllByRecursion (λ x. waits_to_rise n x ≡ is_rising seats x) n

-- the seats of all requests with a pending ask are among these
abbrev pub HoldAsking : Set → Moment → Type 0
HoldAsking seats n = AllByRecursion (λ x. waits_for_ask n x ≡ true → contains seats x.claim.seat ≡ true) n

-- the seats of all claims that read are among these
abbrev pub HoldReading : Set → Moment → Type 0
HoldReading seats n = AllByRecursion (λ x. x.claim.write_half ≡ false → contains seats x.claim.seat ≡ true) n

-- what is noted of the seat of each claim that reads is what that claim reads
abbrev pub TellWanted : List Set → Moment → Type 0
TellWanted wanted n = AllByRecursion (λ x. x.claim.write_half ≡ false → set_at wanted x.claim.seat ≡ x.claim.reads) n
