-- How new claims are settled: they come after settled claims, which stay as they are, so one look at those gives nearly everything.
use Rattle.std.specs.Prelude.{Bool, ◌==◌, ◌&&◌, ◌||◌, List, [], ◌∷◌, ◌++◌, fold, if◌then◌else◌}
use Rattle.std.specs.List.{list_any}
use Rattle.std.specs.FinSet.{empty, len, union}
use Rattle.rset.specs.Sets.{Set, meets}
use Rattle.rclaim.specs.Changes.{ChangeLists}
use Rattle.rclaim.specs.declared.claim.Claim.{Claim}
use Rattle.rclaim.specs.declared.claim.Status.{Status}
use Rattle.rclaim.specs.declared.claim.Status.TheVariants.{Waiting, Entitled, Satisfied}
use Rattle.rmodel.specs.declared.claimed.Claimed.{Claimed}
use Rattle.rplain.specs.declared.seen.Seen.{Seen}
use Rattle.rmodel.specs.Changes.{with_change}
use Rattle.rmodel.specs.Claims.{is_active, is_satisfied}
use Rattle.rmodel.specs.Settling.{with_status, with_bars, read_near, is_clear, entered_status}
use Rattle.rmodel.specs.Steps.{with_asked}

-- nothing was seen
abbrev pub no_seen : Seen
no_seen = record { active = empty; kept = empty; bars = empty }

-- what was seen of claims, with one more claim: what the entitled and satisfied writes write, what the satisfied writes write,
-- and the resources by which writes bar later ones
abbrev pub with_seen : Seen → Claimed → Seen
with_seen all x = record {
  active = if x.claim.write_half && is_active x then union all.active x.claim.writes else all.active;
  kept = if x.claim.write_half && is_satisfied x then union all.kept x.claim.writes else all.kept;
  bars = with_bars all.bars x;
}

-- what is seen of a list of claims
unfoldable pub seen_of : List Claimed → Seen
seen_of xs = fold with_seen no_seen xs

-- a new read is satisfied where no entitled or satisfied write keeps it out; otherwise it is entitled where a satisfied write does
abbrev pub new_read_status : Seen → Claimed → Status
new_read_status seen x = if meets seen.active x.claim.reads then (if meets seen.kept x.claim.reads then Entitled else Waiting) else Satisfied

-- each earlier write that shares a place with c writes nothing of what the reads near it read: where there are no such reads, no claim is looked at
abbrev pub is_past : List Claimed → Claim → Set → Bool
is_past xs c near = (len near == 0) || is_clear xs c near

-- some satisfied claim reads one of these resources
abbrev pub is_read : List Claimed → Set → Bool
is_read xs s = list_any (λ v. is_satisfied v && meets v.claim.reads s) xs

-- whether some satisfied claim conflicts with a new write
abbrev pub new_is_held_up : List Claimed → Seen → Claimed → Bool
new_is_held_up xs seen x =
    (meets seen.kept x.claim.reads || meets seen.kept x.claim.writes) || is_read xs x.claim.writes

-- a new write waits where an earlier one bars it, or a read stands between; otherwise it has entered
abbrev pub new_write_status : List Claimed → Seen → Claimed → Status
new_write_status xs seen x = if meets seen.bars x.claim.places then Waiting else entered_status (is_past xs x.claim (read_near xs x.claim.places)) (new_is_held_up xs seen x)

abbrev pub new_status : List Claimed → Seen → Claimed → Status
new_status xs seen x = if x.claim.write_half then new_write_status xs seen x else new_read_status seen x

-- a new claim, settled after these, with what it asks for granted if it gets that
unfoldable pub new_claim : List Claimed → Claimed → Claimed
new_claim xs x = with_asked xs (with_status x (new_status xs (seen_of xs) x))

-- new claims settled after others, one by one
abbrev pub settled_behind : List Claimed → List Claimed → List Claimed
settled_behind xs [] = xs
settled_behind xs (x ∷ rest) = settled_behind (xs ++ new_claim xs x ∷ []) rest

-- and the changes that are reported of them
abbrev pub told_behind : ChangeLists → List Claimed → List Claimed → ChangeLists
told_behind all xs [] = all
told_behind all xs (x ∷ rest) = told_behind (with_change all x (new_claim xs x)) (xs ++ new_claim xs x ∷ []) rest
