-- The sections that cover a wait: claims that are satisfied at some of its moments.
use Rattle.std.specs.Prelude.{◌≡◌, Bool, true, not, ◌&&◌, Option, Some, None, List, [], ◌∷◌, ◌++◌, find, filter, if◌then◌else◌}
use Rattle.std.specs.List.{list_any, list_all, AllByRecursion}
use Rattle.std.specs.Option.{option_map, option_to_list}
use Rattle.rset.specs.Sets.{Set}
use Rattle.rclaim.specs.declared.claim.Claim.{Claim}
use Rattle.rmodel.specs.Claims.{conflicts, conflicts_on, is_satisfied}
use Rattle.rmodel.specs.Laws.{keeps_out}
use Rattle.rcover_laws.specs.Moments.{Moment, is_claim, holds_at}

-- the claim of least stamp that passes a test and is satisfied at all of these moments; claims are in order of rising stamp
abbrev pub holder_of : (Claim → Bool) → List Moment → Option Claim
holder_of p [] = None
holder_of p (m ∷ ms) = option_map (λ x. x.claim) (find (λ x. p x.claim && is_satisfied x && list_all (holds_at x.claim) ms) m)

-- the claims of a list, each once
abbrev pub different : List Claim → List Claim
different [] = []
different (c ∷ cs) = c ∷ filter (λ d. not (is_claim c d)) (different cs)

-- the sections of a wait: those that count as reads, and those that count as writes
pub record Sections : Type 0 where
  pub reads : List Claim
  pub writes : List Claim

-- at each of these moments one of the sections goes on
abbrev pub Covers : Sections → List Moment → Type 0
Covers a ms = AllByRecursion (λ m. list_any (λ c. holds_at c m) (a.reads ++ a.writes) ≡ true) ms

-- the write that keeps a read claim waiting, at the first of these moments
abbrev pub keeper_of : Claim → List Moment → Option Claim
keeper_of c [] = None
keeper_of c (m ∷ ms) = option_map (λ x. x.claim) (find (keeps_out c) m)

-- the moments at which a claim is not satisfied
abbrev pub moments_without : Claim → List Moment → List Moment
moments_without v ms = filter (λ m. not (holds_at v m)) ms

-- the sections of a read wait that this write keeps waiting: the claim of least stamp that conflicts with the write and is satisfied
-- at all moments at which the write is not; and the write, if it is satisfied at some moment
abbrev pub sections_by : Claim → List Moment → Sections
sections_by v ms = record {
  reads = option_to_list (holder_of (λ c. conflicts c v) (moments_without v ms));
  writes = if list_any (holds_at v) ms then v ∷ [] else [];
}

-- the sections of a read wait, by the write that keeps it waiting
abbrev pub sections_of_keeper : Option Claim → List Moment → Sections
sections_of_keeper None ms = record { reads = []; writes = [] }
sections_of_keeper (Some v) ms = sections_by v ms

-- the sections of a read wait
abbrev pub read_sections : Claim → List Moment → Sections
read_sections c ms = sections_of_keeper (keeper_of c ms) ms

-- the sections of an ask: the claim of least stamp that conflicts with the asker on the part, and is satisfied at all moments
abbrev pub ask_sections : Claim → Set → List Moment → Sections
ask_sections c part ms = record { reads = option_to_list (holder_of (λ d. conflicts_on d c part) ms); writes = [] }
