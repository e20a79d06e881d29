-- A pass that changes the claims of a list one after another, and reports the changes of each.
use Rattle.std.proofs.Common.{◌≡◌, ℕ, ◌+◌, ◌<◌, ◌≤◌, List, [], ◌∷◌, ◌++◌, length, get_or, take, drop, refl, sym, ap, subst, ◌∙◌, arith}
use Rattle.std.proofs.Math.ListN.{set, length-set}
use Rattle.std.proofs.lemmas.List.{take_more, take_more_set, drop-set-lt, take_all, length-take-le}
use Rattle.std.specs.Option.{option_to_list}
use Rattle.rclaim.specs.Changes.{ChangeLists, no_changes}
use Rattle.rclaim.specs.declared.changes.StatusChange.{StatusChange}
use Rattle.rclaim.specs.declared.changes.GrantChange.{GrantChange}
use Rattle.rmodel.specs.declared.claimed.Claimed.{Claimed}
use Rattle.rmodel.specs.Changes.{status_change, grant_change, status_changes, grant_changes, with_change}
use Rattle.rplain.proofs.settling.ChangeSteps.{first_of_rest, statuses_more, grants_more, one_more}

-- the pass that turns the claims `first` into the claims `last` has reached the place i: those before are as they will be,
-- the rest is as it was, and this was reported of those before
pub record ToldTo (first last xs : List Claimed) (i : ℕ) (told : ChangeLists) : Type 0 where
  pub done : take i xs ≡ take i last
  pub rest : drop i xs ≡ drop i first
  pub as_long : length xs ≡ length first
  pub statuses : told.statuses ≡ status_changes (take i first) (take i last)
  pub grants : told.grants ≡ grant_changes (take i first) (take i last)
  pub few_statuses : length told.statuses ≤ i
  pub few_grants : length told.grants ≤ i

pub told_begins : (first last : List Claimed) (told : ChangeLists) → told ≡ no_changes → ToldTo first last first 0 told
unfolding status_changes grant_changes
told_begins first last told none = record {
  done = refl;
  rest = refl;
  as_long = refl;
  statuses = ap (λ (t : ChangeLists). t.statuses) none;
  grants = ap (λ (t : ChangeLists). t.grants) none;
  few_statuses = subst (λ (t : ChangeLists). length t.statuses ≤ 0) (sym none) (omega arith);
  few_grants = subst (λ (t : ChangeLists). length t.grants ≤ 0) (sym none) (omega arith);
}

same_rest : (xs ys : List Claimed) (i : ℕ) (d : Claimed) → i < length xs → i < length ys → drop i xs ≡ drop i ys → (get_or xs i d ≡ get_or ys i d) × (drop (i + 1) xs ≡ drop (i + 1) ys)
same_rest xs ys i d a b same =
    let both : get_or xs i d ∷ drop (i + 1) xs ≡ get_or ys i d ∷ drop (i + 1) ys = sym (first_of_rest xs i d a) ∙ same ∙ first_of_rest ys i d b in
    (cc both, cc both)

module _ (first last : List Claimed) (long : length last ≡ length first) (xs : List Claimed) (i : ℕ) (told : ChangeLists) where
  module _ (d : Claimed) (h : i < length xs) (so_far : ToldTo first last xs i told) where
    pub in_first : i < length first
    in_first = let same = so_far.as_long in omega arith

    same : (get_or xs i d ≡ get_or first i d) × (drop (i + 1) xs ≡ drop (i + 1) first)
    same = same_rest xs first i d h in_first so_far.rest

    -- the claim at the place is as it was
    pub as_at_first : get_or xs i d ≡ get_or first i d
    as_at_first = same.0

    -- the pass takes one more claim
    pub told_on : (y : Claimed) → y ≡ get_or last i d → ToldTo first last (set xs i y) (i + 1) (with_change told (get_or xs i d) y)
    told_on y made =
        let x = get_or xs i d in
        let less : i < i + 1 = omega arith in
        let inside = in_first in
        let inside_last : i < length last = omega arith in
        let front_first : take (i + 1) first ≡ take i first ++ x ∷ [] = take_more first i d inside ∙ ap (λ z. take i first ++ z ∷ []) (sym same.0) in
        let front_last : take (i + 1) last ≡ take i last ++ y ∷ [] = take_more last i d inside_last ∙ ap (λ z. take i last ++ z ∷ []) (sym made) in
        let as_far : length (take i first) ≡ length (take i last) = (let a = length-take-le i first (omega arith) in let b = length-take-le i last (omega arith) in a ∙ sym b) in
        record {
          done = take_more_set xs i y h ∙ ap (λ l. l ++ y ∷ []) so_far.done ∙ sym front_last;
          rest = drop-set-lt (i + 1) xs i y less ∙ same.1;
          as_long = length-set xs i y ∙ so_far.as_long;
          statuses = ap (λ (t : List StatusChange). t ++ option_to_list (status_change x y)) so_far.statuses
              ∙ sym (statuses_more (take i first) (take i last) x y as_far)
              ∙ sym (λ k. status_changes (front_first k) (front_last k));
          grants = ap (λ (t : List GrantChange). t ++ option_to_list (grant_change x y)) so_far.grants
              ∙ sym (grants_more (take i first) (take i last) x y as_far)
              ∙ sym (λ k. grant_changes (front_first k) (front_last k));
          few_statuses = one_more told.statuses (status_change x y) i so_far.few_statuses;
          few_grants = one_more told.grants (grant_change x y) i so_far.few_grants;
        }

  module _ (end : length xs ≤ i) (so_far : ToldTo first last xs i told) where
    all_first : take i first ≡ first
    all_first = take_all i first (let same = so_far.as_long in omega arith)

    pub all_last : take i last ≡ last
    all_last = take_all i last (let same = so_far.as_long in omega arith)

    pub ends_made : xs ≡ last
    ends_made = sym (take_all i xs end) ∙ so_far.done ∙ all_last

    pub told_statuses : told.statuses ≡ status_changes first xs
    told_statuses = so_far.statuses ∙ (λ k. status_changes (all_first k) ((all_last ∙ sym ends_made) k))

    pub told_grants : told.grants ≡ grant_changes first xs
    told_grants = so_far.grants ∙ (λ k. grant_changes (all_first k) ((all_last ∙ sym ends_made) k))
