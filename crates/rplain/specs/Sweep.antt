-- How the claims that a removal leaves are settled: in one pass by rising stamp, in which nearly all are quickly seen to stay as they are.
use Rattle.std.specs.Prelude.{◌≡◌, ℕ, Bool, true, false, not, ◌&&◌, ◌||◌, ◌==◌, ◌<◌, List, fold, length, slice_index_or, if◌then◌else◌}
use Rattle.std.specs.List.{list_any, position_or_len, AllByRecursion}
use Rattle.std.specs.FinSet.{empty, union, is_subset}
use Rattle.rset.specs.Sets.{Set, meets}
use Rattle.rclaim.specs.declared.claim.Claim.{Claim}
use Rattle.rclaim.specs.declared.claim.Status.{Status}
use Rattle.rclaim.specs.declared.claim.Status.TheVariants.{Waiting, Entitled, Satisfied}
use Rattle.rmodel.specs.declared.claimed.Claimed.{Claimed}
use Rattle.rplain.specs.declared.seen.Seen.{Seen}
use Rattle.rplain.specs.declared.left.Left.{Left}
use Rattle.rmodel.specs.Claims.{is_active, is_entitled, is_satisfied, is_read_half}
use Rattle.rmodel.specs.Changes.{is_same}
use Rattle.rmodel.specs.Rules.{is_earlier_write, is_kept_out, is_held_up}
use Rattle.rplain.specs.NewClaim.{is_past}
use Rattle.rmodel.specs.Reached.{KeptBehind}
use Rattle.rmodel.specs.Settling.{with_status, entered_status, settled}
use Rattle.rmodel.specs.WellFormed.{EachPair, AreWellFormed}

-- nothing is gone, and what is read lies within this
abbrev pub none_gone : Set → Left
none_gone read = record { written = empty; freed = empty; read = read }

-- what is gone, with one more claim: what it wrote if it was an entitled or satisfied write, and all that it read or wrote
abbrev pub with_left : Left → Claimed → Left
with_left all x = record {
  written = if x.claim.write_half && is_active x then union all.written x.claim.writes else all.written;
  freed = union all.freed (union x.claim.reads x.claim.writes);
  read = all.read;
}

-- what the removed claims of a list leave, where what the claims read lies within this
unfoldable pub left_by : (Claimed → Bool) → Set → List Claimed → Left
left_by goes read xs = fold (λ all x. if goes x then with_left all x else all) (none_gone read) xs

-- the claim is of this seat
abbrev pub is_of : ℕ → Claimed → Bool
is_of seat x = x.claim.seat == seat

-- it is the read claim of this seat
abbrev pub is_read_of : ℕ → Claimed → Bool
is_read_of seat x = (x.claim.seat == seat) && not x.claim.write_half

-- at this place is the first claim that passes, and it is not a read half
pub record IsLone (p : Claimed → Bool) (xs : List Claimed) (i : ℕ) : Type 0 where
  pub within : i < length xs
  pub first : i ≡ position_or_len p xs
  pub whole : (d : Claimed) → is_read_half (slice_index_or xs i d).claim ≡ false

-- a claim is satisfied after the removal: it was satisfied, or it is a read that what is gone kept waiting
abbrev pub stands : Left → Claimed → Bool
stands left x = is_satisfied x || (not x.claim.write_half && meets left.written x.claim.reads)

-- a claim is a read near these resources that keeps waiting
abbrev pub is_near : Left → Set → Claimed → Bool
is_near left s x = not x.claim.write_half && not (stands left x) && meets x.claim.reads s

-- these resources, and what a claim reads if it is such a read
abbrev pub with_near : Left → Set → Set → Claimed → Set
with_near left s all x = if is_near left s x then union all x.claim.reads else all

-- what is read near these resources by reads that keep waiting
unfoldable pub still_near : Left → List Claimed → Set → Set
still_near left xs s = fold (with_near left s) empty xs

-- each earlier write that shares a place with c writes nothing that is read by the reads near c that keep waiting:
-- where nobody reads a place of c, no claim is looked at
abbrev pub is_past_still : Left → List Claimed → Claim → Bool
is_past_still left xs c = not (meets left.read c.places) || is_past xs c (still_near left xs c.places)

-- v is a satisfied read, or a satisfied write of smaller stamp, and reads what c writes
abbrev pub reads_of : Left → Claim → Claimed → Bool
reads_of left c v = stands left v && (not v.claim.write_half || is_earlier_write c v.claim) && meets v.claim.reads c.writes

-- some claim does
abbrev pub is_read_still : Left → List Claimed → Claim → Bool
is_read_still left xs c = list_any (reads_of left c) xs

-- a satisfied read, or a satisfied write of smaller stamp, conflicts with c: what the satisfied writes before it write is known,
-- and where nobody reads what it writes, no claim is looked at
abbrev pub is_held_still : Left → Seen → List Claimed → Claim → Bool
is_held_still left seen xs c =
    (meets seen.kept c.reads || meets seen.kept c.writes) || (meets left.read c.writes && is_read_still left xs c)

-- it is quickly seen that a write stays as it is: it is entitled or satisfied, and shares nothing with what is gone;
-- or it waits and an earlier write bars it
abbrev pub write_remains : Left → Seen → Claimed → Bool
write_remains left seen x = if is_active x then not (meets left.freed x.claim.places) else meets seen.bars x.claim.places

-- and that a read does: what is gone did not keep it waiting, and a satisfied write keeps it waiting exactly where one did
abbrev pub read_remains : Left → Seen → Claimed → Bool
read_remains left seen x = not (meets left.written x.claim.reads) && is_same (is_entitled x) (meets seen.kept x.claim.reads)

abbrev pub remains : Left → Seen → Claimed → Bool
remains left seen x = if x.claim.write_half then write_remains left seen x else read_remains left seen x

-- the status of an unsatisfied read that is not quickly seen to stay
abbrev pub read_swept : Left → Seen → Claimed → Status
read_swept left seen x = if meets left.written x.claim.reads then Satisfied else (if meets seen.kept x.claim.reads then Entitled else Waiting)

-- the status of an unsatisfied write that is not quickly seen to stay
abbrev pub write_swept : Left → Seen → List Claimed → Claimed → Status
write_swept left seen xs x = entered_status (is_active x || is_past_still left xs x.claim) (is_held_still left seen xs x.claim)

abbrev pub swept_status : Left → Seen → List Claimed → Claimed → Status
swept_status left seen xs x = if is_satisfied x then Satisfied else (if x.claim.write_half then write_swept left seen xs x else read_swept left seen x)

-- a claim after the pass, where `seen` is seen of the settled claims before it
unfoldable pub swept : Left → Seen → List Claimed → Claimed → Claimed
swept left seen xs x = if remains left seen x then x else with_status x (swept_status left seen xs x)

-- what the claims read lies within this
abbrev pub AreReadWithin : Set → List Claimed → Type 0
AreReadWithin read xs = AllByRecursion (λ x. is_subset x.claim.reads read ≡ true) xs

-- the claims are those of a settled list without the removed ones, and `left` is what those leave
pub record IsLeft (xs : List Claimed) (left : Left) : Type 0 where
  pub well_formed : AreWellFormed xs
  pub within : AreReadWithin left.read xs
  -- an unsatisfied read was kept waiting by what is gone, or it is still kept waiting
  pub released : AllByRecursion (λ x. x.claim.write_half ≡ false → is_satisfied x ≡ false → is_kept_out xs x.claim ≡ not (meets left.written x.claim.reads)) xs
  -- an entitled write that shares nothing with what is gone is still held up
  pub held : AllByRecursion (λ x. x.claim.write_half ≡ true → is_active x ≡ true → is_satisfied x ≡ false → meets left.freed x.claim.places ≡ false → is_held_up xs x.claim ≡ true) xs
  -- once they are settled, what keeps a read waiting comes before it
  pub kept_behind : EachPair KeptBehind (settled xs)
