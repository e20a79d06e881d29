-- How the plain cover keeps moments, and which claims it looks for in them.
use Rattle.std.specs.Prelude.{◌≤◌, ◌^◌, not, ◌&&◌, ℕ, Bool, Option, Some, None, List, [], ◌∷◌, ◌++◌, length, if◌then◌else◌}
use Rattle.std.specs.List.{list_any}
use Rattle.rclaim.specs.declared.claim.Claim.{Claim}
use Rattle.rmodel.specs.Claims.{conflicts, conflicts_on}
use Rattle.rcover_laws.specs.declared.wanted.Wanted.{Wanted}
use Rattle.rcover_laws.specs.declared.wanted.Wanted.TheVariants.{Against, ReadAgainst, OnPart}
use Rattle.rcover_laws.specs.Moments.{is_claim}
use Rattle.rcover_laws.specs.Sections.{Sections}

-- a read claim that conflicts with a write
abbrev pub reads_against : Claim → Claim → Bool
reads_against v d = not d.write_half && conflicts d v

-- claims, each once, with one more if it is not among them
abbrev pub with_different : List Claim → Claim → List Claim
with_different cs d = if list_any (λ c. is_claim c d) cs then cs else cs ++ d ∷ []

-- the same, with the claim if there is one
abbrev pub with_option : List Claim → Option Claim → List Claim
with_option cs None = cs
with_option cs (Some d) = with_different cs d

-- a claim is wanted as a section
abbrev pub is_wanted : Wanted → Claim → Bool
is_wanted (Against v) d = conflicts d v
is_wanted (ReadAgainst v) d = reads_against v d
is_wanted (OnPart c part) d = conflicts_on d c part

-- few sections: their numbers, and the sum of their lengths, fit into a word
pub record AreFew (a : Sections) : Type 0 where
  pub reads : length a.reads ≤ 2 ^ 31
  pub writes : length a.writes ≤ 2 ^ 31

-- there are at most this many sections
pub record AreAtMost (top : ℕ) (a : Sections) : Type 0 where
  pub reads : length a.reads ≤ top
  pub writes : length a.writes ≤ top
