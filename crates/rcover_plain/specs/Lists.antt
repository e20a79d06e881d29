-- How the plain cover keeps moments, and what it finds of a line.
use Rattle.std.specs.Prelude.{◌≡◌, ◌≤◌, ◌-◌, ◌&&◌, ℕ, zero, suc, Option, Some, None, List, map, fold, reverse, if◌then◌else◌}
use Rattle.std.specs.declared.vec.Vec.{Vec}
use Rattle.std.specs.declared.alloc.Global.{Global}
use Rattle.rclaim.specs.declared.claim.Claim.{Claim}
use Rattle.rclaim.specs.declared.event.Event.{Event}
use Rattle.rclaim.specs.declared.event.Event.TheVariants.{Issue, Finish, Rise, Ask}
use Rattle.rbound.specs.Needs.{length_of}
use Rattle.rmodel.specs.declared.claimed.Claimed.{Claimed}
use Rattle.rcover_plain.specs.declared.cover.Cover.{Cover}
use Rattle.rcover_plain.specs.declared.leasts.Lowest.{Lowest}
use Rattle.std.specs.FinSet.{union}
use Rattle.rset.specs.Sets.{meets}
use Rattle.rset.specs.declared.TheConstants.{SEATS}
use Rattle.rmodel.specs.State.{LockState, opening}
use Rattle.rmodel.specs.Rules.{is_earlier_write}
use Rattle.rcover_laws.specs.Moments.{Moment}
use Rattle.rcover_laws.specs.Sections.{Sections}

-- lists of claims as moments
abbrev pub moments_in : List (Vec Claimed Global) → List Moment
moments_in vs = map (λ v. v.items) vs

-- the sections of a cover
abbrev pub sections_of : Cover → Sections
sections_of a = record { reads = a.reads.items; writes = a.writes.items }

-- nothing was done yet at a lock, and it has few enough requests at a time
pub record IsOpened (s : LockState) : Type 0 where
  pub some : 1 ≤ s.cap
  pub few : s.cap ≤ SEATS
  pub is : s ≡ opening s.groups s.seats s.cap

-- what is found of the line of a write once a claim before the others is looked at
abbrev pub with_lowest : Claim → Lowest → Claimed → Lowest
with_lowest c low x =
    if is_earlier_write c x.claim && meets x.claim.places low.places
    then record { least = x.claim; places = union x.claim.places low.places }
    else low

-- what is found of the line of a write at a moment
unfoldable pub lowest_of : Claim → Moment → Lowest
lowest_of c m = fold (with_lowest c) (record { least = c; places = c.places }) (reverse m)

-- the length of a claim's section by an event, if that is the issue of its request, given how many issues come before it
abbrev pub length_at : Claim → ℕ → Event → Option ℕ
length_at c zero (Issue seat r) = Some (length_of r c)
length_at c (suc before) (Issue seat r) = None
length_at c before (Finish seat) = None
length_at c before (Rise seat) = None
length_at c before (Ask seat part) = None

-- how many issues come before that of a request, once an event came
abbrev pub before_left : ℕ → Event → ℕ
before_left before (Issue seat r) = before - 1
before_left before (Finish seat) = before
before_left before (Rise seat) = before
before_left before (Ask seat part) = before
