-- Claims whose wait is not ended by an event that is no issue.
use Rattle.std.specs.Prelude.{◌≡◌, ◌==◌, ℕ, Bool, true, false, not, ◌&&◌, List, []}
use Rattle.std.specs.List.{list_any}
use Rattle.rclaim.specs.declared.changes.GrantChange.{GrantChange}
use Rattle.rmodel.specs.declared.claimed.Claimed.{Claimed}
use Rattle.rbound.specs.declared.which.Which.{Which}
use Rattle.rcover_laws.specs.Ended.{waits_in}
use Rattle.rcover_laws.specs.Moments.{Moment}
use Rattle.rcover_laws.specs.Told.{waits_for_ask, stands}

-- some grant is to this seat
abbrev pub has_grant : List GrantChange → ℕ → Bool
has_grant gs seat = list_any (λ g. g.seat == seat) gs

-- a claim is not of the seat of an event, no ask of it is pending, and nothing is granted to its seat
abbrev pub is_quiet : ℕ → List GrantChange → Claimed → Bool
is_quiet seat gs x = not (x.claim.seat == seat) && (not (waits_for_ask [] x) && not (has_grant gs x.claim.seat))

-- then its wait goes on
abbrev pub GoesOn : ℕ → List GrantChange → Moment → Moment → Claimed → Type 0
GoesOn seat gs m n x = is_quiet seat gs x ≡ true → (w : Which) → waits_in w m x ≡ true → stands (waits_in w) x.claim n ≡ true

-- of two claims of one seat, the later is in no wait
abbrev pub OneWaits : Moment → Claimed → Claimed → Type 0
OneWaits m x y = x.claim.seat ≡ y.claim.seat → (w : Which) → waits_in w m y ≡ false
