-- The pass over the claims that a removal leaves, claim by claim: what holds of the list when the pass has reached a place.
use Rattle.std.proofs.Common.{◌≡◌, ℕ, ◌+◌, ◌<◌, ◌≤◌, ◌==◌, Bool, true, false, cond, List, [], ◌∷◌, ◌++◌, length, get_or, take, drop, refl, sym, ap, subst, ◌∙◌, arith}
use Rattle.std.proofs.Math.ListN.{set}
use Rattle.std.proofs.lemmas.Bool.Decides.{nat_tests}
use Rattle.std.proofs.lemmas.List.{take_more, take-append-drop, nil_from_length}
use Rattle.std.proofs.lemmas.List.Sums.{fold-append}
use Rattle.std.specs.List.{AllZip, AllByRecursion}
use Rattle.std.specs.FinSet.{empty, is_subset}
use Rattle.rset.proofs.SetLemmas.{empty_within}
use Rattle.rclaim.specs.Changes.{ChangeLists, no_changes}
use Rattle.rmodel.specs.declared.claimed.Claimed.{Claimed}
use Rattle.rplain.specs.declared.seen.Seen.{Seen}
use Rattle.rplain.specs.declared.left.Left.{Left}
use Rattle.rmodel.specs.Changes.{status_changes, grant_changes, with_change}
use Rattle.rmodel.specs.WellFormed.{IsClaim}
use Rattle.rplain.specs.NewClaim.{no_seen, with_seen, seen_of}
use Rattle.rmodel.specs.Settling.{with_status, settle_kept, settle_rest, settle_reads, settled}
use Rattle.rmodel.specs.Steps.{given}
use Rattle.rplain.specs.Sweep.{remains, write_remains, read_remains, swept_status, swept, IsLeft}
use Rattle.rplain.proofs.settling.ToldSteps.{ToldTo, told_begins, in_first, as_at_first, told_on, all_last, ends_made, told_statuses, told_grants}
use Rattle.rmodel.proofs.settling.Standing.{SameStanding}
use Rattle.rmodel.proofs.ListFacts.{behind}
use Rattle.rmodel.proofs.settling.Settlement.{ReadsOnly}
use Rattle.rplain.proofs.settling.Barred.{between}
use Rattle.rplain.proofs.settling.OneSwept.{fold_zip}
use Rattle.rplain.proofs.settling.Sweeping.{swept_at, reads_only, as_long}

-- the pass over the claims `first` has reached the place i: those before are settled, this is seen of them, and this was reported
pub record SweptTo (first xs : List Claimed) (i : ℕ) (seen : Seen) (told : ChangeLists) : Type 0 where
  pub told_to : ToldTo first (settled first) xs i told
  pub is_seen : seen ≡ seen_of (take i (settled first))

pub begins : (xs : List Claimed) (told : ChangeLists) → told ≡ no_changes → SweptTo xs xs 0 no_seen told
unfolding seen_of
begins xs told none = record { told_to = told_begins xs (settled xs) told none; is_seen = refl }

-- a claim that is quickly seen to stay
pub stays_swept : (left : Left) (seen : Seen) (xs : List Claimed) (x : Claimed) → remains left seen x ≡ true → swept left seen xs x ≡ x
unfolding swept
stays_swept left seen xs x stays = ap (λ b. cond b x (with_status x (swept_status left seen xs x))) stays

-- the pass changes nothing but the status
pub status_swept : (left : Left) (seen : Seen) (xs : List Claimed) (x : Claimed) → with_status x (swept left seen xs x).status ≡ swept left seen xs x
unfolding swept
status_swept left seen xs x = at (remains left seen x)
  where
    at : (b : Bool) → let y = cond b x (with_status x (swept_status left seen xs x)) in with_status x y.status ≡ y
    at true = refl
    at false = refl

-- a claim after the pass is the same claim
pub swept_same : (left : Left) (seen : Seen) (xs : List Claimed) (x : Claimed) → (swept left seen xs x).claim ≡ x.claim
unfolding swept
swept_same left seen xs x = at (remains left seen x)
  where
    at : (b : Bool) → (cond b x (with_status x (swept_status left seen xs x))).claim ≡ x.claim
    at true = refl
    at false = refl

-- a write is quickly seen to stay exactly where the test of writes says so
pub write_stays : (left : Left) (seen : Seen) (x : Claimed) → x.claim.write_half ≡ true → remains left seen x ≡ write_remains left seen x
write_stays left seen x write = ap (λ b. cond b (write_remains left seen x) (read_remains left seen x)) write

-- where nobody reads anything, a claim is a write
pub write_of : (left : Left) (x : Claimed) → left.read ≡ empty → IsClaim x.claim → is_subset x.claim.reads left.read ≡ true → x.claim.write_half ≡ true
write_of left x none is_claim within = at x.claim.write_half refl
  where
    at : (b : Bool) → x.claim.write_half ≡ b → x.claim.write_half ≡ true
    at true is = is
    at false is = absurd (is_claim.reads_some is (empty_within x.claim.reads (ap (is_subset x.claim.reads) (sym none) ∙ within)))

module _ (first : List Claimed) (left : Left) (is_left : IsLeft first left) (xs : List Claimed) (i : ℕ) (seen : Seen) (told : ChangeLists) (d : Claimed)
    (h : i < length xs) (so_far : SweptTo first xs i seen told) where
  abbrev t : List Claimed
  t = settled first

  abbrev to : ToldTo first t xs i told
  to = so_far.told_to

  long : length t ≡ length first
  long = as_long first left is_left

  inside : i < length first
  inside = in_first first t long xs i told d h to

  in_t : i < length t
  in_t = let same = long in let there = inside in omega arith

  -- what the pass makes of the claim at the place is what it settles to
  pub made : swept left seen xs (get_or xs i d) ≡ get_or t i d
  made =
      ap (swept left seen xs) (as_at_first first t long xs i told d h to)
      ∙ swept_at first left is_left i d xs seen inside (sym (take-append-drop i xs) ∙ (λ k. to.done k ++ to.rest k)) so_far.is_seen

  pub made_reads_only : ReadsOnly (swept left seen xs (get_or xs i d))
  made_reads_only =
      subst ReadsOnly (sym made)
      (behind ReadsOnly (take i t) (get_or t i d ∷ drop (i + 1) t) (subst (λ (l : List Claimed). AllByRecursion ReadsOnly l) (sym (between t i d in_t)) (reads_only first left is_left))).0

  pub write_there : left.read ≡ empty → (get_or xs i d).claim.write_half ≡ true
  write_there none =
      ap (λ x. x.claim.write_half) (as_at_first first t long xs i told d h to)
      ∙ write_of left (get_or first i d) none (at_first (λ x. IsClaim x.claim) is_left.well_formed.claims) (at_first (λ x. is_subset x.claim.reads left.read ≡ true) is_left.within)
    where
      at_first : (P : Claimed → Type 0) → AllByRecursion P first → P (get_or first i d)
      at_first P all = (behind P (take i first) (get_or first i d ∷ drop (i + 1) first) (subst (λ (l : List Claimed). AllByRecursion P l) (sym (between first i d inside)) all)).0

  pub goes_on : let x = get_or xs i d in let y = swept left seen xs x in SweptTo first (set xs i y) (i + 1) (with_seen seen y) (with_change told x y)
  unfolding seen_of
  goes_on =
      let y = swept left seen xs (get_or xs i d) in
      let front_t : take (i + 1) t ≡ take i t ++ y ∷ [] = take_more t i d in_t ∙ ap (λ z. take i t ++ z ∷ []) (sym made) in
      record {
        told_to = told_on first t long xs i told d h to y made;
        is_seen = ap (λ (s : Seen). with_seen s y) so_far.is_seen ∙ sym (ap seen_of front_t ∙ fold-append with_seen no_seen (take i t) (y ∷ []));
      }

module _ (first : List Claimed) (left : Left) (is_left : IsLeft first left) (xs : List Claimed) (i : ℕ) (seen : Seen) (told : ChangeLists) (end : length xs ≤ i) (so_far : SweptTo first xs i seen told) where
  pub ends_settled : xs ≡ settled first
  ends_settled = ends_made first (settled first) (as_long first left is_left) xs i told end so_far.told_to

  pub ends_seen : seen ≡ seen_of xs
  ends_seen = so_far.is_seen ∙ ap seen_of (all_last first (settled first) (as_long first left is_left) xs i told end so_far.told_to ∙ sym ends_settled)

  pub ends_statuses : told.statuses ≡ status_changes first xs
  ends_statuses = told_statuses first (settled first) (as_long first left is_left) xs i told end so_far.told_to

  pub ends_grants : told.grants ≡ grant_changes first xs
  ends_grants = told_grants first (settled first) (as_long first left is_left) xs i told end so_far.told_to

-- ---- what is seen of claims

pub seen_none : no_seen ≡ seen_of []
unfolding seen_of
seen_none = refl

-- it depends only on their claims and statuses
pub seen_standing : (t u : List Claimed) → AllZip SameStanding t u → seen_of t ≡ seen_of u
unfolding seen_of
seen_standing t u same = fold_zip SameStanding with_seen with_seen
    (λ all x y h i. with_seen all (record { claim = sym h.claim i; status = sym h.status i; asked = y.asked; granted = y.granted })) no_seen t u same

pub seen_more : (xs : List Claimed) (y : Claimed) → with_seen (seen_of xs) y ≡ seen_of (xs ++ y ∷ [])
unfolding seen_of
seen_more xs y = sym (fold-append with_seen no_seen xs (y ∷ []))

-- ---- where no claim is left, there is nothing to settle

no_claim : (xs : List Claimed) → (length xs == 0) ≡ true → [] ≡ xs
no_claim xs none = sym (nil_from_length xs (grind (arith, nat_tests)))

pub given_none : (xs : List Claimed) → (length xs == 0) ≡ true → xs ≡ given (settled xs)
unfolding given settled settle_kept settle_rest settle_reads
given_none xs none = subst (λ (l : List Claimed). l ≡ given (settled l)) (no_claim xs none) refl

pub seen_of_none : (xs : List Claimed) → (length xs == 0) ≡ true → no_seen ≡ seen_of xs
seen_of_none xs none = subst (λ (l : List Claimed). no_seen ≡ seen_of l) (no_claim xs none) seen_none

pub statuses_none : (xs : List Claimed) → (length xs == 0) ≡ true → no_changes.statuses ≡ status_changes xs xs
unfolding status_changes
statuses_none xs none = subst (λ (l : List Claimed). no_changes.statuses ≡ status_changes l l) (no_claim xs none) refl

pub grants_none : (xs : List Claimed) → (length xs == 0) ≡ true → no_changes.grants ≡ grant_changes xs xs
unfolding grant_changes
grants_none xs none = subst (λ (l : List Claimed). no_changes.grants ≡ grant_changes l l) (no_claim xs none) refl
