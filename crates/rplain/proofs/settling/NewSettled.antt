-- What a new claim after settled ones settles to follows from what is seen of those.
use Rattle.std.proofs.Common.{◌≡◌, ℕ, Bool, true, false, not, ◌&&◌, ◌||◌, cond, nat_lt, List, [], ◌∷◌, ◌++◌, fold, refl, sym, ap, ◌∙◌, arith}
use Rattle.std.proofs.lemmas.Bool.{lt-ltb}
use Rattle.std.proofs.lemmas.Bool.Decides.{nat_tests}
use Rattle.std.proofs.lemmas.List.Folds.{list_any-append, list_all-append}
use Rattle.std.proofs.lemmas.List.Sums.{fold-append}
use Rattle.std.specs.List.{list_any, list_all, AllByRecursion}
use Rattle.std.specs.FinSet.{empty, union}
use Rattle.rset.specs.Sets.{Set, meets}
use Rattle.rset.proofs.SetLemmas.{union_empty_right, meets_symmetric, meets_empty_left}
use Rattle.rclaim.specs.declared.claim.Status.TheVariants.{Waiting}
use Rattle.rmodel.specs.declared.claimed.Claimed.{Claimed}
use Rattle.rplain.specs.declared.seen.Seen.{Seen}
use Rattle.rmodel.specs.Claims.{conflicts, share_place, is_satisfied, is_active, satisfied_by, active_by}
use Rattle.rplain.specs.NewClaim.{no_seen, with_seen, seen_of, is_past, new_is_held_up, new_write_status}
use Rattle.rmodel.specs.Rules.{is_earlier_write, is_held_up}
use Rattle.rmodel.specs.Settling.{with_bars, bars_of, written_by_active, written_by_satisfied, read_near, is_clear, has_way, entered_status, write_status}
use Rattle.rmodel.specs.WellFormed.{Rises, IsClaim, AreWellFormed}
use Rattle.rplain.proofs.settling.Barred.{barred_in, clear_in, past_is, rise_to, front}
use Rattle.rmodel.proofs.settling.Settlement.{gathered, any_agree}

-- ---- what is seen

-- a set that is added only in one case
pub union_where : (all set : Set) (b : Bool) → union all (cond b set empty) ≡ cond b (union all set) all
union_where all set true = refl
union_where all set false = union_empty_right all

-- each of the sets that are seen is gathered on its own
seen_from : (all : Seen) (xs : List Claimed)
    → fold with_seen all xs ≡ record {
      active = fold (λ a x. cond (x.claim.write_half && is_active x) (union a x.claim.writes) a) all.active xs;
      kept = fold (λ a x. cond (x.claim.write_half && is_satisfied x) (union a x.claim.writes) a) all.kept xs;
      bars = fold with_bars all.bars xs;
    }
seen_from all [] = refl
seen_from all (x ∷ xs) = seen_from (with_seen all x) xs

module _ (xs : List Claimed) where
  pub active_seen : (seen_of xs).active ≡ written_by_active xs
  unfolding seen_of written_by_active
  active_seen = ap (λ (s : Seen). s.active) (seen_from no_seen xs)

  pub kept_seen : (seen_of xs).kept ≡ written_by_satisfied xs
  unfolding seen_of written_by_satisfied
  kept_seen = ap (λ (s : Seen). s.kept) (seen_from no_seen xs)

  pub bars_seen : (seen_of xs).bars ≡ bars_of xs
  unfolding seen_of bars_of
  bars_seen = ap (λ (s : Seen). s.bars) (seen_from no_seen xs)

  pub kept_meets : (s : Set) → meets (seen_of xs).kept s ≡ list_any (λ x. (x.claim.write_half && is_satisfied x) && meets x.claim.writes s) xs
  unfolding written_by_satisfied
  kept_meets s = ap (λ k. meets k s) kept_seen ∙ gathered (λ x. x.claim.write_half && is_satisfied x) (λ x. x.claim.writes) s xs

-- ---- a new write

pub any_or : (p q : Claimed → Bool) (xs : List Claimed) → (list_any p xs || list_any q xs) ≡ list_any (λ x. p x || q x) xs
any_or p q [] = refl
any_or p q (x ∷ xs) = swap (p x) (list_any p xs) (q x) (list_any q xs) ∙ ap (λ b. (p x || q x) || b) (any_or p q xs)
  where
    swap : (a b c d : Bool) → ((a || b) || (c || d)) ≡ ((a || c) || (b || d))
    swap true b c d = refl
    swap false true true d = refl
    swap false true false d = refl
    swap false false c d = refl

pub all_both : (P Q : Claimed → Type 0) (xs : List Claimed) → AllByRecursion P xs → AllByRecursion Q xs → AllByRecursion (λ x. P x × Q x) xs
all_both P Q [] a b = tt
all_both P Q (x ∷ xs) a b = ((a.0, b.0), all_both P Q xs a.1 b.1)

module _ (xs : List Claimed) (x : Claimed) (well : AreWellFormed (xs ++ x ∷ [])) (waits : x.status ≡ Waiting) (writes : x.claim.write_half ≡ true) where
  not_below_self : (m : ℕ) → nat_lt m m ≡ false
  not_below_self m = grind (arith, nat_tests)

  clear_same : (s : Set) → is_clear (xs ++ x ∷ []) x.claim s ≡ is_clear xs x.claim s
  unfolding is_clear
  clear_same s =
      list_all-append (λ v. not (is_earlier_write x.claim v.claim && share_place v.claim x.claim) || (is_satisfied v && not (meets v.claim.writes s))) xs (x ∷ [])
      ∙ ap (λ l. list_all (λ v. not (is_earlier_write x.claim v.claim && share_place v.claim x.claim) || (is_satisfied v && not (meets v.claim.writes s))) xs
      && ((not ((x.claim.write_half && l) && share_place x.claim x.claim) || (is_satisfied x && not (meets x.claim.writes s))) && true)) (not_below_self x.claim.stamp)
      ∙ own x.claim.write_half (share_place x.claim x.claim) (is_satisfied x && not (meets x.claim.writes s)) _
    where
      own : (w p q all : Bool) → (all && ((not ((w && false) && p) || q) && true)) ≡ all
      own true p q true = refl
      own true p q false = refl
      own false p q true = refl
      own false p q false = refl

  near_same : (s : Set) → read_near (xs ++ x ∷ []) s ≡ read_near xs s
  unfolding read_near
  near_same s =
      let near = fold (λ all x. cond (not x.claim.write_half && not (is_satisfied x) && meets x.claim.reads s) (union all x.claim.reads) all) empty xs in
      fold-append (λ all x. cond (not x.claim.write_half && not (is_satisfied x) && meets x.claim.reads s) (union all x.claim.reads) all) empty xs (x ∷ [])
      ∙ ap (λ w. cond (not w && not (is_satisfied x) && meets x.claim.reads s) (union near x.claim.reads) near) writes

  held_same : is_held_up (xs ++ x ∷ []) x.claim ≡ is_held_up xs x.claim
  held_same =
      list_any-append _ xs (x ∷ [])
      ∙ ap (λ a. is_held_up xs x.claim || ((satisfied_by a && (not x.claim.write_half || is_earlier_write x.claim x.claim) && conflicts x.claim x.claim) || false)) waits
      ∙ or_none (is_held_up xs x.claim)
    where
      or_none : (b : Bool) → (b || false) ≡ b
      or_none true = refl
      or_none false = refl

  held_up_is : new_is_held_up xs (seen_of xs) x ≡ is_held_up xs x.claim
  held_up_is =
      (λ i. (kept_meets xs x.claim.reads i || kept_meets xs x.claim.writes i) || list_any (λ v. is_satisfied v && meets v.claim.reads x.claim.writes) xs)
      ∙ ap (λ b. b || list_any (λ v. is_satisfied v && meets v.claim.reads x.claim.writes) xs)
      (any_or (λ v. (v.claim.write_half && is_satisfied v) && meets v.claim.writes x.claim.reads) (λ v. (v.claim.write_half && is_satisfied v) && meets v.claim.writes x.claim.writes) xs)
      ∙ any_or _ (λ v. is_satisfied v && meets v.claim.reads x.claim.writes) xs
      ∙ any_agree (λ v. Rises v x × IsClaim v.claim) _ _
      (λ v h.
      at v.claim.write_half (is_satisfied v) (nat_lt v.claim.stamp x.claim.stamp) (meets v.claim.writes x.claim.reads) (meets v.claim.writes x.claim.writes) (meets v.claim.reads x.claim.writes)
      (λ w. lt-ltb v.claim.stamp x.claim.stamp (h.0.after_write w))
      (λ r. ap (λ s. meets s x.claim.reads) (h.1.read_only r) ∙ meets_empty_left x.claim.reads)
      (λ r. ap (λ s. meets s x.claim.writes) (h.1.read_only r) ∙ meets_empty_left x.claim.writes)
      ∙ (λ i. is_satisfied v && (not v.claim.write_half || is_earlier_write x.claim v.claim)
      && ((meets_symmetric v.claim.writes x.claim.reads i || meets_symmetric v.claim.writes x.claim.writes i) || (meets v.claim.reads x.claim.writes || meets v.claim.writes x.claim.writes))))
      xs (all_both (λ v. Rises v x) (λ v. IsClaim v.claim) xs (rise_to xs [] x well.rising) (front xs (x ∷ []) well.claims))
    where
      last : (a b c : Bool) → ((a || b) || c) ≡ ((a || b) || (c || b))
      last true b c = refl
      last false true c = refl
      last false false true = refl
      last false false false = refl

      at : (w s l a b c : Bool) → (w ≡ true → l ≡ true) → (w ≡ false → a ≡ false) → (w ≡ false → b ≡ false)
          → ((((w && s) && a) || ((w && s) && b)) || (s && c)) ≡ (s && (not w || (w && l)) && ((a || b) || (c || b)))
      at true false l a b c less none none' = refl
      at true true l a b c less none none' = last a b c ∙ ap (λ t. t && ((a || b) || (c || b))) (sym (less refl))
      at false false l a b c less none none' = refl
      at false true l a b c less none none' = last false false c ∙ (λ i. (sym (none refl) i || sym (none' refl) i) || (c || sym (none' refl) i))

  -- where no earlier write bars it, only reads can stand between
  way_is : meets (bars_of xs) x.claim.places ≡ false → is_past xs x.claim (read_near xs x.claim.places) ≡ has_way (xs ++ x ∷ []) x.claim
  unfolding has_way
  way_is free =
      let clear : is_clear (xs ++ x ∷ []) x.claim x.claim.places ≡ true = clear_in xs [] x well free in
      past_is xs x.claim (read_near xs x.claim.places) (sym (clear_same x.claim.places) ∙ clear)
      ∙ sym (clear_same (read_near xs x.claim.places))
      ∙ ap (is_clear (xs ++ x ∷ []) x.claim) (sym (near_same x.claim.places))
      ∙ ap (λ b. b && is_clear (xs ++ x ∷ []) x.claim (read_near (xs ++ x ∷ []) x.claim.places)) (sym clear)

  pub new_write_is : write_status (xs ++ x ∷ []) x ≡ new_write_status xs (seen_of xs) x
  unfolding write_status
  new_write_is =
      let zs = xs ++ x ∷ [] in
      (λ i. cond (not (writes i) || satisfied_by (waits i)) x.status (entered_status (active_by (waits i) || has_way zs x.claim) (is_held_up zs x.claim)))
      ∙ ap (entered_status (has_way zs x.claim)) (held_same ∙ sym held_up_is)
      ∙ at (meets (seen_of xs).bars x.claim.places) refl
    where
      at : (b : Bool) → meets (seen_of xs).bars x.claim.places ≡ b
          → entered_status (has_way (xs ++ x ∷ []) x.claim) (new_is_held_up xs (seen_of xs) x) ≡ cond b Waiting (entered_status (is_past xs x.claim (read_near xs x.claim.places)) (new_is_held_up xs (seen_of xs) x))
      at true is = ap (λ e. entered_status e (new_is_held_up xs (seen_of xs) x)) (barred_in xs [] x well (ap (λ s. meets s x.claim.places) (sym (bars_seen xs)) ∙ is))
      at false is = ap (λ e. entered_status e (new_is_held_up xs (seen_of xs) x)) (sym (way_is (ap (λ s. meets s x.claim.places) (sym (bars_seen xs)) ∙ is)))
