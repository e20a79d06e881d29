-- Heads that stay: those of seats without a write.
use Rattle.std.proofs.Common.{◌≡◌, ◌≢◌, ℕ, ◌<◌, ◌==◌, false, true, cond, Some, List, get_or, length, sym, ap, ◌∙◌}
use Rattle.std.proofs.Math.ListN.{set}
use Rattle.std.proofs.lemmas.Bool.{and_from, eq-eqb, eqb-true}
use Rattle.std.proofs.lemmas.List.Folds.{list_any_at}
use Rattle.std.specs.List.{list_any}
use Rattle.std.specs.Prelude.{slice_get}
use Rattle.rmodel.specs.declared.claimed.Claimed.{Claimed}
use Rattle.rmodel.proofs.ListFacts.{contrary, false_from}
use Rattle.rcover.specs.declared.lines.Head.{Head}
use Rattle.rcover.specs.Shares.{is_write_of}
use Rattle.rcover.proofs.heads_told.Heads.{get_set}

-- besides the seat for which another head is noted
pub get_beside : (hs : List Head) (i : ℕ) (h : Head) (seat : ℕ) → i < length hs → seat ≢ i → slice_get (set hs i h) seat ≡ slice_get hs seat
get_beside hs i h seat less other = get_set hs i h seat less ∙ ap (λ b. cond b (Some h) (slice_get hs seat)) (false_from (seat == i) (λ same. other (eqb-true seat i same)))

-- a write is of another seat than a seat whose write it is not
pub other_than : (seat : ℕ) (x : Claimed) → x.claim.write_half ≡ true → is_write_of seat x ≡ false → seat ≢ x.claim.seat
other_than seat x write none same = contrary (is_write_of seat x) (and_from (x.claim.seat == seat) x.claim.write_half (eq-eqb x.claim.seat seat (sym same)) write) none

-- no claim at a moment is the write of a seat that has no write there
pub none_at : (seat : ℕ) (m : List Claimed) (i : ℕ) (x : Claimed) → i < length m → x ≡ get_or m i x → list_any (is_write_of seat) m ≡ false → is_write_of seat x ≡ false
none_at seat m i x less is none =
    false_from (is_write_of seat x) (λ write. contrary (list_any (is_write_of seat) m) (list_any_at (is_write_of seat) m i x less (ap (is_write_of seat) (sym is) ∙ write)) none)
