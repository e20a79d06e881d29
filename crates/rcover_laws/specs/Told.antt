-- The waits that a state shows: which wait a claim is in, and the moments of that wait so far.
use Rattle.std.specs.Prelude.{◌≡◌, ℕ, Bool, true, false, not, ◌&&◌, ◌==◌, nat_lt, List, [], ◌∷◌, if◌then◌else◌}
use Rattle.std.specs.List.{list_any, list_all}
use Rattle.std.specs.FinSet.{len}
use Rattle.rclaim.specs.declared.claim.Claim.{Claim}
use Rattle.rmodel.specs.declared.claimed.Claimed.{Claimed}
use Rattle.rmodel.specs.Claims.{is_upgrade, is_satisfied}
use Rattle.rmodel.specs.Holds.{held_by, is_nothing}
use Rattle.rbound.specs.Bounds.{Numbers, IsWithin, first_bound, rise_bound, ask_bound_of}
use Rattle.rbound.specs.Needs.{Needed}
use Rattle.rcover_laws.specs.Covers.{IsReadCovered, IsWriteCovered, IsAskCovered}
use Rattle.rcover_laws.specs.Line.{write_sections}
use Rattle.rcover_laws.specs.Moments.{Moment, is_claim}
use Rattle.rcover_laws.specs.Sections.{read_sections, ask_sections}
use Rattle.rcover_laws.specs.Within.{numbers_of}

-- a claim is the write half of an upgrade
abbrev pub is_rising_half : Claim → Bool
is_rising_half c = is_upgrade c.kind && c.write_half

-- a claim is in its first wait: it holds nothing; the write half of an upgrade has no first wait
abbrev pub waits_first : Moment → Claimed → Bool
waits_first m x = is_nothing (held_by x) && not (is_rising_half x.claim)

-- the seat of a claim has a read claim
abbrev pub has_read_claim : Moment → Claim → Bool
has_read_claim m c = list_any (λ y. (y.claim.seat == c.seat) && not y.claim.write_half) m

-- the write half of an upgrade waits to rise: its read half is gone, and it is not satisfied
abbrev pub waits_to_rise : Moment → Claimed → Bool
waits_to_rise m x = is_rising_half x.claim && not (has_read_claim m x.claim) && not (is_satisfied x)

-- an ask of the request of a claim is pending: it holds something, and asks for more
abbrev pub waits_for_ask : Moment → Claimed → Bool
waits_for_ask m x = not (is_nothing (held_by x)) && nat_lt 0 (len x.asked)

-- a claim is there at a moment, and passes a test
abbrev pub stands : (Moment → Claimed → Bool) → Claim → Moment → Bool
stands test c m = list_any (λ x. is_claim c x.claim && test m x) m

-- the longest run at the end of some moments at each of which a test passes
abbrev pub run_of : (Moment → Bool) → List Moment → List Moment
run_of p [] = []
run_of p (m ∷ ms) = if list_all p (m ∷ ms) then m ∷ ms else run_of p ms

-- the moments of the wait of a claim so far
abbrev pub wait_so_far : (Moment → Claimed → Bool) → Claim → List Moment → List Moment
wait_so_far test c ms = run_of (stands test c) ms

-- what is said of a wait over its moments: it is covered, and its cover is within the bound
pub record IsBounded (covered : Type 0) (numbers bound : Numbers) : Type 0 where
  pub is_covered : covered
  pub is_within : IsWithin numbers bound

-- each wait that a claim is in, over its moments so far
pub record AreBounded (ns : List Needed) (lengths number : Claim → ℕ) (seats cap : ℕ) (ms : List Moment) (m : Moment) (x : Claimed) : Type 0 where
  pub first_read : x.claim.write_half ≡ false → waits_first m x ≡ true
      → IsBounded (IsReadCovered x.claim (wait_so_far waits_first x.claim ms)) (numbers_of lengths (read_sections x.claim (wait_so_far waits_first x.claim ms))) (first_bound ns seats cap x.claim.seat (number x.claim))
  pub first_write : x.claim.write_half ≡ true → waits_first m x ≡ true
      → IsBounded (IsWriteCovered x.claim (wait_so_far waits_first x.claim ms)) (numbers_of lengths (write_sections x.claim (wait_so_far waits_first x.claim ms))) (first_bound ns seats cap x.claim.seat (number x.claim))
  pub rise : waits_to_rise m x ≡ true
      → IsBounded (IsWriteCovered x.claim (wait_so_far waits_to_rise x.claim ms)) (numbers_of lengths (write_sections x.claim (wait_so_far waits_to_rise x.claim ms))) (rise_bound ns seats cap x.claim.seat (number x.claim))
  pub ask : waits_for_ask m x ≡ true
      → IsBounded (IsAskCovered x.claim x.asked (wait_so_far waits_for_ask x.claim ms)) (numbers_of lengths (ask_sections x.claim x.asked (wait_so_far waits_for_ask x.claim ms))) (ask_bound_of ns x.claim.seat (number x.claim) x.asked)
