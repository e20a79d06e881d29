-- How a list of claims is settled, pass by pass: the reads, then the writes by rising stamp, then which reads are next.
-- That the outcome is the one that the rules allow is a theorem.
use Rattle.std.specs.Prelude.{Bool, true, false, not, ◌&&◌, ◌||◌, List, [], ◌∷◌, ◌++◌, map, fold, if◌then◌else◌}
use Rattle.std.specs.List.{list_all}
use Rattle.std.specs.FinSet.{empty, union}
use Rattle.rset.specs.Sets.{Set, meets}
use Rattle.rclaim.specs.declared.claim.Claim.{Claim}
use Rattle.rclaim.specs.declared.claim.Status.{Status}
use Rattle.rclaim.specs.declared.claim.Status.TheVariants.{Waiting, Entitled, Satisfied}
use Rattle.rmodel.specs.declared.claimed.Claimed.{Claimed}
use Rattle.rmodel.specs.Claims.{share_place, is_active, is_satisfied}
use Rattle.rmodel.specs.Rules.{is_earlier_write, is_held_up}

-- a claim with another status
abbrev pub with_status : Claimed → Status → Claimed
with_status x status = record x { status = status }

-- what the entitled and satisfied writes write
unfoldable pub written_by_active : List Claimed → Set
written_by_active xs = fold (λ all x. if x.claim.write_half && is_active x then union all x.claim.writes else all) empty xs

-- what the satisfied writes write
unfoldable pub written_by_satisfied : List Claimed → Set
written_by_satisfied xs = fold (λ all x. if x.claim.write_half && is_satisfied x then union all x.claim.writes else all) empty xs

-- these resources, and those with which a write bars later ones: what it writes if it is satisfied, otherwise its places
abbrev pub with_bars : Set → Claimed → Set
with_bars all x = if x.claim.write_half then union all (if is_satisfied x then x.claim.writes else x.claim.places) else all

-- the resources with which the writes of a list bar later ones: a write that has a place among them has no way
unfoldable pub bars_of : List Claimed → Set
bars_of xs = fold with_bars empty xs

-- what is read by the unsatisfied reads that touch these resources
unfoldable pub read_near : List Claimed → Set → Set
read_near xs s =
    fold (λ all x. if not x.claim.write_half && not (is_satisfied x) && meets x.claim.reads s then union all x.claim.reads else all) empty xs

-- a read after the first pass: satisfied where no entitled or satisfied write keeps it out
abbrev pub read_status : Set → Claimed → Status
read_status busy x = if not x.claim.write_half && not (meets busy x.claim.reads) then Satisfied else x.status

-- each earlier write that shares a place with c is satisfied, and writes nothing of this set
unfoldable pub is_clear : List Claimed → Claim → Set → Bool
is_clear xs c away =
    list_all (λ v. not (is_earlier_write c v.claim && share_place v.claim c) || (is_satisfied v && not (meets v.claim.writes away))) xs

-- each earlier write that shares a place with c is satisfied, and writes no place of c and nothing that a read near c waits for
unfoldable pub has_way : List Claimed → Claim → Bool
has_way xs c = is_clear xs c c.places && is_clear xs c (read_near xs c.places)

-- the status of an unsatisfied write: whether it has entered, and if so, whether it is held up
abbrev pub entered_status : Bool → Bool → Status
entered_status false held_up = Waiting
entered_status true true = Entitled
entered_status true false = Satisfied

-- a claim after the second pass, in a list whose earlier writes are settled
unfoldable pub write_status : List Claimed → Claimed → Status
write_status xs x =
    if not x.claim.write_half || is_satisfied x then x.status
    else entered_status (is_active x || has_way xs x.claim) (is_held_up xs x.claim)

-- a claim with its status after the second pass
abbrev pub entered : List Claimed → Claimed → Claimed
entered xs x = with_status x (write_status xs x)

-- a claim after the third pass: a read that waits is entitled where a satisfied write keeps it waiting
abbrev pub kept_status : Set → Claimed → Status
kept_status busy x =
    if x.claim.write_half || is_satisfied x then x.status else (if meets busy x.claim.reads then Entitled else Waiting)

unfoldable pub settle_reads : List Claimed → List Claimed
settle_reads xs = map (λ x. with_status x (read_status (written_by_active xs) x)) xs

-- the rest of a list whose beginning is settled
unfoldable pub settle_rest : List Claimed → List Claimed → List Claimed
settle_rest done [] = []
settle_rest done (x ∷ rest) =
    let y = with_status x (write_status (done ++ x ∷ rest) x) in y ∷ settle_rest (done ++ y ∷ []) rest

unfoldable pub settle_kept : List Claimed → List Claimed
settle_kept xs = map (λ x. with_status x (kept_status (written_by_satisfied xs) x)) xs

-- the settled list
unfoldable pub settled : List Claimed → List Claimed
settled xs = settle_kept (settle_rest [] (settle_reads xs))
