-- What requests hold.
use Rattle.std.specs.Prelude.{◌≡◌, ℕ, Bool, ◌&&◌, ◌||◌, ◌==◌, nat_lt, List, fold, if◌then◌else◌}
use Rattle.std.specs.List.{list_any}
use Rattle.std.specs.FinSet.{empty, union, intersection, len, is_subset}
use Rattle.rset.specs.Sets.{Set}
use Rattle.rclaim.specs.Requests.{is_part}
use Rattle.rmodel.specs.declared.claimed.Claimed.{Claimed}
use Rattle.rmodel.specs.declared.granted.Granted.{Granted}
use Rattle.rmodel.specs.Claims.{is_satisfied, is_nested, is_read_half}

-- nothing is held
abbrev pub nothing : Granted
nothing = record { reads = empty; writes = empty }

-- what is held by either
abbrev pub both : Granted → Granted → Granted
both a b = record { reads = union a.reads b.reads; writes = union a.writes b.writes }

-- nothing is held for reading or for writing
abbrev pub is_nothing : Granted → Bool
is_nothing g = (len g.reads == 0) && (len g.writes == 0)

-- each resource that a holds for reading or writing, b holds in the same way
abbrev pub is_within : Granted → Granted → Bool
is_within a b = is_subset a.reads b.reads && is_subset a.writes b.writes

-- what a claim holds: for a nested request, what it was granted; for any other, what it reads and writes once it is satisfied
abbrev pub held_by : Claimed → Granted
held_by x =
    if is_nested x.claim.kind then record { reads = intersection x.granted x.claim.reads; writes = intersection x.granted x.claim.writes }
    else (if is_satisfied x then record { reads = x.claim.reads; writes = x.claim.writes } else nothing)

-- what the request of a seat holds: what its claims hold
unfoldable pub holds_of : List Claimed → ℕ → Granted
holds_of xs seat = fold (λ all x. if x.claim.seat == seat then both all (held_by x) else all) nothing xs

-- a claim holds nothing, or asks for something
abbrev pub lacks : Claimed → Bool
lacks x = is_nothing (held_by x) || nat_lt 0 (len x.asked)

-- of two claims of one seat, the second holds nothing and asks for nothing
abbrev pub Alone : Claimed → Claimed → Type 0
Alone x y = x.claim.seat ≡ y.claim.seat → (held_by y ≡ nothing) × (y.asked ≡ empty)

-- a seat has an incomplete request
abbrev pub has_request : List Claimed → ℕ → Bool
has_request xs seat = list_any (λ x. x.claim.seat == seat) xs

-- an ask of the request of a seat is pending
abbrev pub has_ask : List Claimed → ℕ → Bool
has_ask xs seat = list_any (λ x. (x.claim.seat == seat) && nat_lt 0 (len x.asked)) xs

-- the request of a seat is an upgrade that has not risen
abbrev pub may_rise : List Claimed → ℕ → Bool
may_rise xs seat = list_any (λ x. (x.claim.seat == seat) && is_read_half x.claim) xs

-- the request of a seat is nested
abbrev pub may_ask : List Claimed → ℕ → Bool
may_ask xs seat = list_any (λ x. (x.claim.seat == seat) && is_nested x.claim.kind) xs

-- a set is a part, not empty, of what the request of a seat reads and writes
abbrev pub is_part_of : List Claimed → ℕ → Set → Bool
is_part_of xs seat part = list_any (λ x. (x.claim.seat == seat) && is_part part (union x.claim.reads x.claim.writes)) xs
