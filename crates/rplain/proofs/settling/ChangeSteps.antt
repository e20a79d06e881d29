-- The changes from a list of claims to the same claims later, one claim after another.
use Rattle.std.proofs.Common.{◌≡◌, ℕ, ◌+◌, ◌<◌, ◌≤◌, ◌==◌, ◌&&◌, true, cond, refl, List, [], ◌∷◌, ◌++◌, length, get_or, drop, sym, ap, ◌∙◌, append_assoc, append-nil, length-append, add-one, arith, Option, Some, None}
use Rattle.std.proofs.Math.Seq.{drop-cons}
use Rattle.std.proofs.lemmas.List.{drop_all}
use Rattle.std.proofs.lemmas.Bool.{eq-eqb}
use Rattle.std.specs.Option.{option_to_list}
use Rattle.rset.proofs.SetsWithin.{within_reflexive}
use Rattle.rclaim.specs.Changes.{ChangeLists}
use Rattle.rclaim.specs.Codes.{number_of}
use Rattle.rclaim.specs.declared.changes.StatusChange.{StatusChange}
use Rattle.rclaim.specs.declared.changes.GrantChange.{GrantChange}
use Rattle.rmodel.specs.declared.claimed.Claimed.{Claimed}
use Rattle.rmodel.specs.Holds.{held_by}
use Rattle.rmodel.specs.Changes.{status_change, grant_change, status_changes, grant_changes, with_change}

pub first_of_rest : (xs : List Claimed) (i : ℕ) (d : Claimed) → i < length xs → drop i xs ≡ get_or xs i d ∷ drop (i + 1) xs
first_of_rest xs i d h = drop-cons xs i d h ∙ ap (λ n. get_or xs i d ∷ drop n xs) (sym (add-one i))

module _ (xs ys : List Claimed) (i : ℕ) (d e : Claimed) (in_xs : i < length xs) (in_ys : i < length ys) where
  pub status_step : (told : List StatusChange)
      → (told ++ option_to_list (status_change (get_or xs i d) (get_or ys i e))) ++ status_changes (drop (i + 1) xs) (drop (i + 1) ys)
      ≡ told ++ status_changes (drop i xs) (drop i ys)
  unfolding status_changes
  status_step told =
      append_assoc told (option_to_list (status_change (get_or xs i d) (get_or ys i e))) (status_changes (drop (i + 1) xs) (drop (i + 1) ys))
      ∙ sym (λ j. told ++ status_changes (first_of_rest xs i d in_xs j) (first_of_rest ys i e in_ys j))

  pub grant_step : (told : List GrantChange)
      → (told ++ option_to_list (grant_change (get_or xs i d) (get_or ys i e))) ++ grant_changes (drop (i + 1) xs) (drop (i + 1) ys)
      ≡ told ++ grant_changes (drop i xs) (drop i ys)
  unfolding grant_changes
  grant_step told =
      append_assoc told (option_to_list (grant_change (get_or xs i d) (get_or ys i e))) (grant_changes (drop (i + 1) xs) (drop (i + 1) ys))
      ∙ sym (λ j. told ++ grant_changes (first_of_rest xs i d in_xs j) (first_of_rest ys i e in_ys j))

pub status_end : (xs ys : List Claimed) (i : ℕ) (told : List StatusChange) → length xs ≤ i → told ++ status_changes (drop i xs) (drop i ys) ≡ told
unfolding status_changes
status_end xs ys i told h = ap (λ r. told ++ status_changes r (drop i ys)) (drop_all i xs h) ∙ append-nil told

pub grant_end : (xs ys : List Claimed) (i : ℕ) (told : List GrantChange) → length xs ≤ i → told ++ grant_changes (drop i xs) (drop i ys) ≡ told
unfolding grant_changes
grant_end xs ys i told h = ap (λ r. told ++ grant_changes r (drop i ys)) (drop_all i xs h) ∙ append-nil told

at_most_one : {X : Type 0} (o : Option X) → length (option_to_list o) ≤ 1
at_most_one None = omega arith
at_most_one (Some x) = omega arith

-- one claim adds at most one change
pub one_more : {X : Type 0} (told : List X) (o : Option X) (i : ℕ) → length told ≤ i → length (told ++ option_to_list o) ≤ i + 1
one_more told o i h = let most = at_most_one o in omega (arith, length-append told (option_to_list o))

-- ---- a claim that stays

equal_itself : (n : ℕ) → (n == n) ≡ true
equal_itself n = eq-eqb n n refl

-- from a claim to itself nothing changes
pub no_change : (all : ChangeLists) (x : Claimed) → with_change all x x ≡ all
no_change all x =
    let status : status_change x x ≡ None = ap (λ b. cond b None (Some (record { seat = x.claim.seat; write_half = x.claim.write_half; status = x.status }))) (equal_itself (number_of x.status)) in
    let held = held_by x in
    let grant : grant_change x x ≡ None =
    (λ i. cond (within_reflexive held.reads i && within_reflexive held.writes i) None (Some (record { seat = x.claim.seat; reads = held.reads; writes = held.writes }))) in
    (λ i. record {
      statuses = (ap (λ o. all.statuses ++ option_to_list o) status ∙ append-nil all.statuses) i;
      grants = (ap (λ o. all.grants ++ option_to_list o) grant ∙ append-nil all.grants) i;
    })

-- nor to the same claim with the same status and as much granted
pub no_change_since : (all : ChangeLists) (was now : Claimed) → now.claim ≡ was.claim → now.status ≡ was.status → now.granted ≡ was.granted → with_change all was now ≡ all
no_change_since all was now claim status granted =
    (λ i. with_change all was (record { claim = claim i; status = status i; asked = now.asked; granted = granted i })) ∙ no_change all was

-- ---- the changes from the front of a list

pub statuses_more : (xs ys : List Claimed) (x y : Claimed) → length xs ≡ length ys → status_changes (xs ++ x ∷ []) (ys ++ y ∷ []) ≡ status_changes xs ys ++ option_to_list (status_change x y)
unfolding status_changes
statuses_more [] [] x y same = append-nil (option_to_list (status_change x y))
statuses_more [] (v ∷ ys) x y same = absurd (none same)
  where
    none : length {A = Claimed} [] ≡ length (v ∷ ys) → ⊥
    none e = omega arith
statuses_more (u ∷ xs) [] x y same = absurd (none same)
  where
    none : length (u ∷ xs) ≡ length {A = Claimed} [] → ⊥
    none e = omega arith
statuses_more (u ∷ xs) (v ∷ ys) x y same =
    ap (λ r. option_to_list (status_change u v) ++ r) (statuses_more xs ys x y (fewer same))
    ∙ sym (append_assoc (option_to_list (status_change u v)) (status_changes xs ys) (option_to_list (status_change x y)))
  where
    fewer : length (u ∷ xs) ≡ length (v ∷ ys) → length xs ≡ length ys
    fewer e = omega arith

pub grants_more : (xs ys : List Claimed) (x y : Claimed) → length xs ≡ length ys → grant_changes (xs ++ x ∷ []) (ys ++ y ∷ []) ≡ grant_changes xs ys ++ option_to_list (grant_change x y)
unfolding grant_changes
grants_more [] [] x y same = append-nil (option_to_list (grant_change x y))
grants_more [] (v ∷ ys) x y same = absurd (none same)
  where
    none : length {A = Claimed} [] ≡ length (v ∷ ys) → ⊥
    none e = omega arith
grants_more (u ∷ xs) [] x y same = absurd (none same)
  where
    none : length (u ∷ xs) ≡ length {A = Claimed} [] → ⊥
    none e = omega arith
grants_more (u ∷ xs) (v ∷ ys) x y same =
    ap (λ r. option_to_list (grant_change u v) ++ r) (grants_more xs ys x y (fewer same))
    ∙ sym (append_assoc (option_to_list (grant_change u v)) (grant_changes xs ys) (option_to_list (grant_change x y)))
  where
    fewer : length (u ∷ xs) ≡ length (v ∷ ys) → length xs ≡ length ys
    fewer e = omega arith
