-- The line of a write that waits, and the sections of its wait.
use Rattle.std.specs.Prelude.{Bool, not, ◌&&◌, List, [], ◌∷◌, filter, map, if◌then◌else◌, Option}
use Rattle.std.specs.List.{list_any, filter_map}
use Rattle.rclaim.specs.declared.claim.Claim.{Claim}
use Rattle.rmodel.specs.Claims.{conflicts, share_place}
use Rattle.rmodel.specs.Rules.{is_earlier_write}
use Rattle.rcover_laws.specs.Moments.{Moment, is_claim, holds_at}
use Rattle.rcover_laws.specs.Sections.{Sections, holder_of, different}

-- the line of a write at a moment, without the write itself: each write that is reached from it by steps to a write of smaller stamp that shares a
-- place. It is found from the back, since claims are in order of rising stamp
abbrev pub line : Claim → Moment → List Claim
line c [] = []
line c (x ∷ xs) = if is_earlier_write c x.claim && list_any (share_place x.claim) (c ∷ line c xs) then x.claim ∷ line c xs else line c xs

-- the first of a list, or another claim if the list is empty
abbrev pub first_or : Claim → List Claim → Claim
first_or c [] = c
first_or c (d ∷ ds) = d

-- the least in the line of a write
abbrev pub least_of : Claim → Moment → Claim
least_of c m = first_or c (line c m)

-- a claim is the least in the line of a write
abbrev pub is_least : Claim → Claim → Moment → Bool
is_least c d m = is_claim d (least_of c m)

-- the least claims of the line, over these moments
abbrev pub leasts : Claim → List Moment → List Claim
leasts c ms = different (map (least_of c) ms)

-- a claim is the least in the line, and is not satisfied
abbrev pub is_kept_least : Claim → Claim → Moment → Bool
is_kept_least c d m = is_least c d m && not (holds_at d m)

-- the moments at which that is so
abbrev pub kept_moments : Claim → Claim → List Moment → List Moment
kept_moments c d ms = filter (is_kept_least c d) ms

-- the read that is taken for a claim of the line: the read claim of least stamp that conflicts with it and is satisfied at all moments at which
-- it is the least and not satisfied
abbrev pub read_for : Claim → List Moment → Claim → Option Claim
read_for c ms d = holder_of (λ r. not r.write_half && conflicts r d) (kept_moments c d ms)

-- the sections of a write wait: for each claim that is the least in the line, the read that is taken for it, and the claim itself if it is satisfied
-- at some moment at which it is the least
abbrev pub write_sections : Claim → List Moment → Sections
write_sections c ms = record {
  reads = different (filter_map (read_for c ms) (leasts c ms));
  writes = filter (λ d. list_any (λ m. is_least c d m && holds_at d m) ms) (leasts c ms);
}
