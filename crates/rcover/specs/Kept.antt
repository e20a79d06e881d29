-- What is kept of a wait: the sections of its closed periods, with their lengths.
use Rattle.std.specs.Prelude.{◌≡◌, ◌≢◌, ℕ, Bool, true, ◌&&◌, ◌||◌, Option, Some, None, List, map, slice_get, vec_capacity, if◌then◌else◌}
use Rattle.std.specs.List.{AllByRecursion}
use Rattle.rset.specs.declared.TheConstants.{SEATS}
use Rattle.rclaim.specs.declared.claim.Claim.{Claim}
use Rattle.rmodel.specs.Claims.{is_upgrade}
use Rattle.rmodel.specs.declared.claimed.Claimed.{Claimed}
use Rattle.rcover.specs.declared.section.CoverSection.{CoverSection}
use Rattle.rcover.specs.declared.section.Lengths.{Lengths}
use Rattle.rcover.specs.declared.run.Run.{Run}
use Rattle.rcover.specs.declared.run.FoundRead.{FoundRead}
use Rattle.rcover.specs.Last.{first_at}
use Rattle.rcover_laws.specs.Lists.{reads_against}
use Rattle.std.specs.Option.{option_map}
use Rattle.rcover_laws.specs.Moments.{Moment}
use Rattle.rcover_laws.specs.Sections.{Sections}
use Rattle.rcover_laws.specs.Told.{waits_first, waits_to_rise}
use Rattle.rcover.specs.Tracked.{kept_by}

-- the claims of sections
abbrev pub claims_of : List CoverSection → List Claim
claims_of ss = map (λ s. s.claim) ss

-- the claim of a section, if there is one
abbrev pub claim_if : Option CoverSection → Option Claim
claim_if o = option_map (λ s. s.claim) o

-- what a run keeps of a wait
abbrev pub kept_in : Run → Sections
kept_in r = record { reads = claims_of r.reads.items; writes = claims_of r.writes.items }

-- the length of the section of a claim, by the lengths of the requests of seats
abbrev pub length_if : Option Lengths → Claim → ℕ
length_if None c = 0
length_if (Some l) c = if is_upgrade c.kind && c.write_half then l.later else l.len

abbrev pub length_by : List Lengths → Claim → ℕ
length_by ls c = length_if (slice_get ls c.seat) c

-- the section of a claim, with its length
abbrev pub section_of : List Lengths → Claim → CoverSection
section_of ls c = record { claim = c; len = length_by ls c }

-- what was found at a moment for claims that read and write this: the section of the read that is taken for them, if there is one
abbrev pub IsTaken : List Lengths → Moment → FoundRead → Type 0
IsTaken ls m t = (c : Claim) → c.reads ≡ t.reads → c.writes ≡ t.writes → t.section ≡ option_map (section_of ls) (first_at (reads_against c) m)

-- sections have their lengths
abbrev pub HaveLengths : (Claim → ℕ) → List CoverSection → Type 0
HaveLengths len ss = AllByRecursion (λ s. s.len ≡ len s.claim) ss

-- a run has its room: as many places of each sort as there are seats
pub record HasRoom (r : Run) : Type 0 where
  pub reads : vec_capacity r.reads ≡ SEATS
  pub writes : vec_capacity r.writes ≡ SEATS

-- the claims at a moment have these lengths
abbrev pub AreOf : (Claim → ℕ) → (Claim → ℕ) → Moment → Type 0
AreOf by len m = AllByRecursion (λ x. by x.claim ≡ len x.claim) m

-- the sections of a run have their lengths
pub record AreLong (len : Claim → ℕ) (r : Run) : Type 0 where
  pub reads : HaveLengths len r.reads.items
  pub writes : HaveLengths len r.writes.items

-- a claim waits at a moment, before it holds anything or to rise
abbrev pub may_wait : Moment → Claimed → Bool
may_wait n x = waits_first n x || waits_to_rise n x

-- two claims that wait belong to different seats
abbrev pub WaitApart : Moment → Claimed → Claimed → Type 0
WaitApart n x y = may_wait n x ≡ true → may_wait n y ≡ true → x.claim.seat ≢ y.claim.seat

-- what is kept of the wait of a claim at a moment n after m, whichever wait it is
abbrev pub kept_of : Moment → Moment → Sections → Claimed → Sections
kept_of m n a x = if waits_first n x then kept_by waits_first x.claim a m n else kept_by waits_to_rise x.claim a m n
