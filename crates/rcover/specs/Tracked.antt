-- How waits are followed from moment to moment: what is kept of a wait, and what its sections are then.
use Rattle.std.specs.Prelude.{◌≡◌, ℕ, Bool, true, false, ◌&&◌, Option, Some, None, List, [], ◌∷◌, ◌++◌, filter, if◌then◌else◌}
use Rattle.std.specs.List.{list_any, filter_map}
use Rattle.std.specs.Option.{option_to_list}
use Rattle.rclaim.specs.declared.claim.Claim.{Claim}
use Rattle.rclaim.specs.declared.event.Event.{Event}
use Rattle.rcover_laws.specs.declared.wait_end.WaitEnd.{WaitEnd}
use Rattle.rcover_laws.specs.Ended.{wait_of, waits_in, wait_end}
use Rattle.rcover_laws.specs.History.{length_in}
use Rattle.rcover_laws.specs.Within.{numbers_of}
use Rattle.rmodel.specs.declared.claimed.Claimed.{Claimed}
use Rattle.rmodel.specs.Claims.{conflicts, conflicts_on}
use Rattle.rmodel.specs.WellFormed.{Among}
use Rattle.rbound.specs.declared.which.Which.{Which}
use Rattle.rbound.specs.declared.which.Which.TheVariants.{First, Rise, Ask}
use Rattle.rcover.specs.Last.{first_at}
use Rattle.rcover_laws.specs.Line.{least_of, is_least, leasts, kept_moments}
use Rattle.rcover_laws.specs.Moments.{Moment, holds_at}
use Rattle.rcover_laws.specs.Sections.{Sections, holder_of, different, keeper_of, sections_by}
use Rattle.rcover_laws.specs.Lists.{reads_against}
use Rattle.rcover.specs.Shown.{write_shown, write_closed}
use Rattle.rcover_laws.specs.Told.{waits_first, waits_to_rise, stands, wait_so_far}

-- the read that is taken for a least claim, and whether it was satisfied as the least
abbrev pub taken_over : Claim → List Moment → Claim → Option Claim
taken_over c ms d = holder_of (reads_against d) (kept_moments c d ms)

abbrev pub held_over : Claim → List Moment → Claim → Bool
held_over c ms d = list_any (λ m. is_least c d m && holds_at d m) ms

-- sections are those of the closed periods of a run that ends at m: of the least claims before the last, and the read of the last if it is satisfied
pub record IsClosed (c : Claim) (ms : List Moment) (m : Moment) (a : Sections) : Type 0 where
  pub before : List Claim
  pub leasts_are : leasts c ms ≡ before ++ least_of c m ∷ []
  pub reads_are : a.reads ≡ different (filter_map (taken_over c ms) before ++ (if holds_at (least_of c m) m then option_to_list (taken_over c ms (least_of c m)) else []))
  pub writes_are : a.writes ≡ filter (held_over c ms) before

-- nothing is kept
abbrev pub no_sections : Sections
no_sections = record { reads = []; writes = [] }

-- ---- a read wait

-- the write that keeps a read claim waiting at a moment
abbrev pub keeper_at : Claim → Moment → Option Claim
keeper_at c m = keeper_of c (m ∷ [])

-- what was kept is the read that was taken for the write that keeps a read claim waiting at the last moment m, if that write is satisfied
pub record IsReadClosed (c : Claim) (ms : List Moment) (m : Moment) (a : Sections) : Type 0 where
  pub kept : (v : Claim) → keeper_at c m ≡ Some v → holds_at v m ≡ true → a.reads ≡ (sections_by v ms).reads

-- the sections of a read wait at its last moment m, by the write that keeps it waiting, with the reads that are kept
abbrev pub read_shown : Claim → List Claim → Moment → Sections
read_shown v kept m = record {
  reads = if holds_at v m then kept else option_to_list (first_at (λ d. conflicts d v) m);
  writes = if holds_at v m then v ∷ [] else [];
}

abbrev pub read_shown_if : Option Claim → List Claim → Moment → Sections
read_shown_if None kept m = no_sections
read_shown_if (Some v) kept m = read_shown v kept m

-- what is kept of a read wait once a moment n comes after m
abbrev pub read_closed_if : Option Claim → Sections → Moment → Moment → Sections
read_closed_if None a m n = a
read_closed_if (Some v) a m n = record { reads = if holds_at v n then (read_shown v a.reads m).reads else a.reads; writes = a.writes }

-- ---- all waits

-- what is kept of a claim's wait is right at m, the last of these moments
pub record IsTracked (ms : List Moment) (m : Moment) (a : Sections) (x : Claimed) : Type 0 where
  pub first_read : x.claim.write_half ≡ false → waits_first m x ≡ true → IsReadClosed x.claim (wait_so_far waits_first x.claim ms) m a
  pub first_write : x.claim.write_half ≡ true → waits_first m x ≡ true → IsClosed x.claim (wait_so_far waits_first x.claim ms) m a
  pub rise : waits_to_rise m x ≡ true → IsClosed x.claim (wait_so_far waits_to_rise x.claim ms) m a

-- what is kept for each seat is right of the wait of its claim at m, the last of these moments
abbrev pub AreTracked : List Moment → Moment → (ℕ → Sections) → Type 0
AreTracked ms m table = (x : Claimed) → Among x m → IsTracked ms m (table x.claim.seat) x

-- the sections of a wait of a claim at its last moment, with what is kept of it
abbrev pub shown : Which → Claimed → Sections → Moment → Sections
shown First x a m = if x.claim.write_half then write_shown (least_of x.claim m) a m else read_shown_if (keeper_at x.claim m) a.reads m
shown Rise x a m = write_shown (least_of x.claim m) a m
shown (Ask number) x a m = record { reads = option_to_list (first_at (λ d. conflicts_on d x.claim x.asked) m); writes = [] }

-- what is reported of a wait of a claim at m, if the next moment n ends it, with what is kept of it
abbrev pub told_of : (Claim → ℕ) → Moment → Moment → Sections → Claimed → Option Which → Option WaitEnd
told_of len m n a x None = None
told_of len m n a x (Some w) = if stands (waits_in w) x.claim n then None else Some (wait_end w x.claim (numbers_of len (shown w x a m)))

-- the same with what is kept for each seat
abbrev pub told_if : (Claim → ℕ) → Moment → Moment → (ℕ → Sections) → Claimed → Option Which → Option WaitEnd
told_if len m n table x o = told_of len m n (table x.claim.seat) x o

-- what is reported of the waits at the last moment m of the events so far that the next moment n ends
abbrev pub told : List Event → Moment → Moment → (ℕ → Sections) → List WaitEnd
told es m n table = filter_map (λ x. told_if (length_in es) m n table x (wait_of es m x)) m

-- what is kept of a claim's wait that goes on once a moment n comes after m
abbrev pub gone_on : Claim → Sections → Moment → Moment → Sections
gone_on c a m n = if c.write_half then write_closed (least_of c m) a m (least_of c n) n else read_closed_if (keeper_at c m) a m n

-- what is kept of a claim's wait at a moment n after m: it goes on, or it begins
abbrev pub kept_by : (Moment → Claimed → Bool) → Claim → Sections → Moment → Moment → Sections
kept_by test c a m n = if stands test c m then gone_on c a m n else no_sections

-- what is kept at a moment n after m, given what was kept at m
pub record IsKept (m n : Moment) (table table' : ℕ → Sections) (x : Claimed) : Type 0 where
  pub first : waits_first n x ≡ true → table' x.claim.seat ≡ kept_by waits_first x.claim (table x.claim.seat) m n
  pub rise : waits_to_rise n x ≡ true → table' x.claim.seat ≡ kept_by waits_to_rise x.claim (table x.claim.seat) m n

abbrev pub AreKept : Moment → Moment → (ℕ → Sections) → (ℕ → Sections) → Type 0
AreKept m n table table' = (x : Claimed) → Among x n → IsKept m n table table' x
