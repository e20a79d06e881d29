-- How the covers of all waits are kept, a run for each seat.
use Rattle.std.specs.Prelude.{◌==◌, ℕ, Option, Some, None, List, slice_get, if◌then◌else◌}
use Rattle.rmodel.specs.declared.claimed.Claimed.{Claimed}
use Rattle.rcover.specs.declared.run.Run.{Run}
use Rattle.rcover_laws.specs.Moments.{Moment}
use Rattle.rcover_laws.specs.Sections.{Sections}
use Rattle.rcover.specs.Tracked.{no_sections}
use Rattle.rcover.specs.Kept.{kept_in, may_wait, kept_of}

abbrev pub kept_if : Option Run → Sections
kept_if None = no_sections
kept_if (Some r) = kept_in r

-- what runs keep, for each seat
abbrev pub table_of : List Run → ℕ → Sections
table_of rs seat = kept_if (slice_get rs seat)

-- a table with another entry for a seat
abbrev pub with_entry : (ℕ → Sections) → ℕ → Sections → ℕ → Sections
with_entry table seat a other = if other == seat then a else table other

-- the table once one claim of a moment n after m is looked at
abbrev pub kept_with : Moment → Moment → (ℕ → Sections) → Claimed → (ℕ → Sections)
kept_with m n table x = if may_wait n x then with_entry table x.claim.seat (kept_of m n (table x.claim.seat) x) else table
