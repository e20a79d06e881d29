-- With a read claim, one entitled or satisfied write at most conflicts: what it reads is shared, so two such writes would share a place.
use Rattle.std.proofs.Common.{◌≡◌, ◌≤◌, ℕ, Bool, true, false, ◌&&◌, cond, length, filter, List, [], ◌∷◌, refl, sym, ap, subst, ◌∙◌, arith}
use Rattle.std.proofs.lemmas.Bool.{and_parts}
use Rattle.std.proofs.lemmas.List.Sums.{length-filter}
use Rattle.std.specs.List.{count_by, AllByRecursion}
use Rattle.std.specs.FinSet.{is_subset}
use Rattle.rset.specs.Sets.{Set, meets}
use Rattle.rset.proofs.SetLemmas.{meets_common, meets_symmetric, meets_within_left, meets_within_right, within_transitive}
use Rattle.rexpand.specs.Groups.{shared_with, places_of}
use Rattle.rexpand.proofs.PlaceLemmas.{shared_within_places}
use Rattle.rexpand.proofs.DeclaredLemmas.{declared_within_shared}
use Rattle.rclaim.specs.declared.claim.Claim.{Claim}
use Rattle.rmodel.specs.declared.claimed.Claimed.{Claimed}
use Rattle.rmodel.specs.Claims.{conflicts, share_place, is_active}
use Rattle.rmodel.specs.Rules.{Settles}
use Rattle.rmodel.specs.Laws.{keeps_out, AreKeptOutByOne}
use Rattle.rmodel.specs.WellFormed.{EachPair, IsClaim, Entered, AreExclusive, IsAdmittedBy, AreAdmittedBy}
use Rattle.rmodel.proofs.ListFacts.{Among, contrary, false_from, all_at, all_from, pairs_with}
use Rattle.rmodel.proofs.settling.Settlement.{conflict_of_read}
use Rattle.rmodel.proofs.settling.Admitted.{admitted_settled}
use Rattle.rmodel.proofs.settling.Keeping.{conflicts_symmetric, exclusive_settled}

-- ---- at most one of a list

module _ {X : Type 0} (p : X → Bool) where
  none_pass : (xs : List X) → AllByRecursion (λ x. p x ≡ false) xs → length (filter p xs) ≡ 0
  none_pass [] fail = refl
  none_pass (x ∷ xs) fail = ap (λ b. length (cond b (x ∷ filter p xs) (filter p xs))) fail.0 ∙ none_pass xs fail.1

  one_passes : (xs : List X) → EachPair (λ x y. p x ≡ true → p y ≡ false) xs → length (filter p xs) ≤ 1
  one_passes [] pairs = omega arith
  one_passes (x ∷ xs) pairs = at (p x) refl (one_passes xs pairs.1)
    where
      at : (b : Bool) → p x ≡ b → length (filter p xs) ≤ 1 → length (cond b (x ∷ filter p xs) (filter p xs)) ≤ 1
      at true pass rest = let none = none_pass xs (all_from (λ y. p y ≡ false) xs (λ y there. all_at (λ y. p x ≡ true → p y ≡ false) xs y pairs.0 there pass)) in omega arith
      at false fail rest = rest

  pub one_counts : (xs : List X) → EachPair (λ x y. p x ≡ true → p y ≡ false) xs → count_by p xs ≤ 1
  one_counts xs pairs = subst (λ (n : ℕ). n ≤ 1) (length-filter p xs) (one_passes xs pairs)

-- ---- a read claim and the writes that conflict with it

-- a claim of a request that groups admit
record IsFit (groups : List Set) (c : Claim) : Type 0 where
  is_claim : IsClaim c
  admitted : IsAdmittedBy groups c

module _ (groups : List Set) (r : Claim) (fit : IsFit groups r) (is_read : r.write_half ≡ false) where
  -- such a write writes what the claim reads
  writes_read : (v : Claim) → conflicts v r ≡ true → meets r.reads v.writes ≡ true
  writes_read v h = sym (conflict_of_read r v (fit.is_claim.read_only is_read)) ∙ conflicts_symmetric r v ∙ h

  -- and has its places wherever the claim reads
  reads_in_places : (w : Claim) → IsFit groups w → w.write_half ≡ true → conflicts w r ≡ true → is_subset r.reads w.places ≡ true
  reads_in_places w fit_w is_write h =
      let both = meets_common r.reads w.writes (writes_read w h) in
      ap (is_subset r.reads) (fit_w.admitted.expanded is_write)
      ∙ within_transitive r.reads (shared_with groups both.0) (places_of groups w.reads w.writes)
      (declared_within_shared groups r.reads both.0 (fit.admitted.declared is_read) both.1)
      (shared_within_places groups w.reads w.writes both.0 both.2)

  -- so an earlier one writes places of a later one, which then has not entered
  not_both : (v w : Claimed) → IsFit groups v.claim → IsFit groups w.claim → Entered v w → keeps_out r v ≡ true → keeps_out r w ≡ false
  not_both v w fit_v fit_w entered keeps = false_from (keeps_out r w) (λ keeps_w.
      let of_v = and_parts (v.claim.write_half && is_active v) (conflicts v.claim r) keeps in
      let of_w = and_parts (w.claim.write_half && is_active w) (conflicts w.claim r) keeps_w in
      let first_v = and_parts v.claim.write_half (is_active v) of_v.0 in
      let first_w = and_parts w.claim.write_half (is_active w) of_w.0 in
      let written : meets v.claim.writes w.claim.places ≡ true
      = meets_within_right v.claim.writes r.reads w.claim.places (reads_in_places w.claim fit_w first_w.0 of_w.1) (meets_symmetric v.claim.writes r.reads ∙ writes_read v.claim of_v.1) in
      let shared : share_place v.claim w.claim ≡ true = meets_within_left v.claim.writes v.claim.places w.claim.places (fit_v.is_claim.writes_placed first_v.0) written in
      contrary (meets v.claim.writes w.claim.places) written (entered first_v.0 first_w.0 shared first_w.1).1)

-- of claims that are exclusive and admitted, no two writes keep a read claim out
pub one_keeps : (groups : List Set) (xs : List Claimed) → AreExclusive xs → AreAdmittedBy groups xs → (r : Claimed) → Among r xs → r.claim.write_half ≡ false
    → EachPair (λ v w. keeps_out r.claim v ≡ true → keeps_out r.claim w ≡ false) xs
one_keeps groups xs exclusive admitted r there is_read =
    pairs_with (λ x. IsFit groups x.claim) Entered _ (not_both groups r.claim (all_at _ xs r fit there) is_read) xs fit exclusive.entered
  where
    fit : AllByRecursion (λ x. IsFit groups x.claim) xs
    fit = all_from _ xs (λ x there. record {
      is_claim = all_at (λ x. IsClaim x.claim) xs x exclusive.well_formed.claims there;
      admitted = all_at (λ x. IsAdmittedBy groups x.claim) xs x admitted there;
    })

pub one_write : (groups : List Set) (xs : List Claimed) → AreExclusive xs → AreAdmittedBy groups xs → AreKeptOutByOne xs
one_write groups xs exclusive admitted =
    all_from (λ r. r.claim.write_half ≡ false → count_by (keeps_out r.claim) xs ≤ 1) xs
    (λ r there is_read. one_counts (keeps_out r.claim) xs (one_keeps groups xs exclusive admitted r there is_read))

pub one_write_settled : (groups : List Set) (s t : List Claimed) → AreExclusive s → AreAdmittedBy groups s → Settles s t → AreKeptOutByOne t
one_write_settled groups s t exclusive admitted settles = one_write groups t (exclusive_settled s t exclusive settles) (admitted_settled groups s t admitted settles)
