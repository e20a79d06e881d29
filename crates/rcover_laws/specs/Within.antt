-- When a wait is within its bound.
use Rattle.std.specs.Prelude.{◌≡◌, ℕ, ◌+◌, true, false, List, length}
use Rattle.std.specs.List.{sum_by, AllByRecursion}
use Rattle.rset.specs.Sets.{Set}
use Rattle.rbound.specs.Groups.{ReadGroups}
use Rattle.rclaim.specs.declared.claim.Claim.{Claim}
use Rattle.rclaim.specs.declared.event.Event.{Event}
use Rattle.rmodel.specs.Claims.{is_upgrade}
use Rattle.rbound.specs.Bounds.{Numbers, IsWithin, first_bound, rise_bound, ask_bound_of}
use Rattle.rbound.specs.Needs.{Needed, all_needed}
use Rattle.rcover_laws.specs.History.{history_needs, length_in, number_in}
use Rattle.rcover_laws.specs.Line.{write_sections}
use Rattle.rcover_laws.specs.Moments.{Moment}
use Rattle.rcover_laws.specs.Sections.{Sections, read_sections, ask_sections}
use Rattle.rcover_laws.specs.Waits.{ReadWaits, WriteWaits, AskWaits}

-- the numbers of a cover: how many sections count as reads and as writes, and the sum of the lengths of all
abbrev pub numbers_of : (Claim → ℕ) → Sections → Numbers
numbers_of len a = record { reads = length a.reads; writes = length a.writes; units = sum_by len a.reads + sum_by len a.writes }

-- over these moments no wait goes above its bound by these needs, with these lengths of claims and these numbers of requests
pub record AreWithin (ns : List Needed) (len number : Claim → ℕ) (seats cap : ℕ) (ms : List Moment) : Type 0 where
  pub reads : (c : Claim) → AllByRecursion (ReadWaits c) ms → IsWithin (numbers_of len (read_sections c ms)) (first_bound ns seats cap c.seat (number c))
  pub writes : (c : Claim) → is_upgrade c.kind ≡ false → AllByRecursion (WriteWaits c) ms → IsWithin (numbers_of len (write_sections c ms)) (first_bound ns seats cap c.seat (number c))
  pub rises : (c : Claim) → is_upgrade c.kind ≡ true → AllByRecursion (WriteWaits c) ms → IsWithin (numbers_of len (write_sections c ms)) (rise_bound ns seats cap c.seat (number c))
  pub asks : (c : Claim) (part : Set) → AllByRecursion (AskWaits c part) ms → IsWithin (numbers_of len (ask_sections c part ms)) (ask_bound_of ns c.seat (number c) part)

-- the claims that a history makes needed
abbrev pub needed_by : ReadGroups → ℕ → List Event → List Needed
needed_by groups seats es = all_needed groups.groups (history_needs seats es)

-- over these moments no wait goes above its bound by the needs of this history
abbrev pub AreWithinBounds : ReadGroups → ℕ → ℕ → List Event → List Moment → Type 0
AreWithinBounds groups seats cap es ms = AreWithin (needed_by groups seats es) (length_in es) (number_in es) seats cap ms
