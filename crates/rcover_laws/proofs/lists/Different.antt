-- The claims of a list, each once; and lists that are at most as long as others.
use Rattle.std.proofs.Common.{◌≡◌, ◌≤◌, ◌+◌, Bool, true, false, not, cond, length, Option, Some, None, List, [], ◌∷◌, filter, refl, sym, ap, subst, ◌∙◌, inl, inr, arith}
use Rattle.std.specs.List.{AllByRecursion, filter_map, cons_option}
use Rattle.rclaim.specs.declared.claim.Claim.{Claim}
use Rattle.rmodel.specs.WellFormed.{EachPair}
use Rattle.rmodel.proofs.ListFacts.{Among, contrary, false_from, all_at, all_from, among_filter, in_filter, pairs_filter}
use Rattle.rmodel.proofs.settling.Keeping.{not_false}
use Rattle.rmodel.proofs.settling.OneSettlement.{both_cases}
use Rattle.rcover_laws.specs.Moments.{is_claim}
use Rattle.rcover_laws.specs.Sections.{different}
use Rattle.rcover_laws.proofs.runs.Moments.{AreOne, are_one, one_from}

-- ---- each once

pub among_different : (cs : List Claim) (d : Claim) → Among d (different cs) → Among d cs
among_different [] d there = there
among_different (c ∷ cs) d (inl same) = inl same
among_different (c ∷ cs) d (inr later) = inr (among_different cs d (among_filter (λ d. not (is_claim c d)) (different cs) d later).0)

-- each claim is there, or one of its stamp and half
pub record HasOne (cs : List Claim) (d : Claim) : Type 0 where
  pub by : Claim
  pub among : Among by cs
  pub are_one : AreOne by d

pub in_different : (cs : List Claim) (d : Claim) → Among d cs → HasOne (different cs) d
in_different [] d there = absurd there
in_different (c ∷ cs) d (inl same) = record { by = c; among = inl refl; are_one = record { stamp = ap (λ x. x.stamp) (sym same); half = ap (λ x. x.write_half) (sym same) } }
in_different (c ∷ cs) d (inr later) =
    let rest = in_different cs d later in
    both_cases (is_claim c rest.by)
    (λ one. let by = are_one c rest.by one in record { by = c; among = inl refl; are_one = record { stamp = by.stamp ∙ rest.are_one.stamp; half = by.half ∙ rest.are_one.half } })
    (λ other. record { by = rest.by; among = inr (in_filter (λ d. not (is_claim c d)) (different cs) rest.by rest.among (ap not other)); are_one = rest.are_one })

pub are_different : (cs : List Claim) → EachPair (λ d e. is_claim d e ≡ false) (different cs)
are_different [] = tt
are_different (c ∷ cs) = (
  all_from (λ e. is_claim c e ≡ false) (filter (λ d. not (is_claim c d)) (different cs)) (λ e there. not_false (is_claim c e) (among_filter (λ d. not (is_claim c d)) (different cs) e there).1),
  pairs_filter (λ d e. is_claim d e ≡ false) (λ d. not (is_claim c d)) (different cs) (are_different cs),
)

-- ---- lengths

pub filter_shorter : {X : Type 0} (p : X → Bool) (xs : List X) → length (filter p xs) ≤ length xs
filter_shorter p [] = omega arith
filter_shorter p (x ∷ xs) = at (p x) (filter_shorter p xs)
  where
    at : (b : Bool) → length (filter p xs) ≤ length xs → length (cond b (x ∷ filter p xs) (filter p xs)) ≤ length (x ∷ xs)
    at true rest = omega arith
    at false rest = omega arith

-- what passes the first test also passes the second
pub filter_within : {X : Type 0} (p q : X → Bool) (xs : List X) → AllByRecursion (λ x. p x ≡ true → q x ≡ true) xs → length (filter p xs) ≤ length (filter q xs)
filter_within p q [] so = omega arith
filter_within p q (x ∷ xs) so = at (p x) (q x) so.0 (filter_within p q xs so.1)
  where
    at : (a b : Bool) → (a ≡ true → b ≡ true) → length (filter p xs) ≤ length (filter q xs) → length (cond a (x ∷ filter p xs) (filter p xs)) ≤ length (cond b (x ∷ filter q xs) (filter q xs))
    at true true so rest = omega arith
    at true false so rest = contrary false (so refl) refl
    at false true so rest = omega arith
    at false false so rest = rest

pub different_shorter : (cs : List Claim) → length (different cs) ≤ length cs
different_shorter [] = omega arith
different_shorter (c ∷ cs) = let less = filter_shorter (λ d. not (is_claim c d)) (different cs) in let rest = different_shorter cs in omega arith

pub filter_map_shorter : {X Y : Type 0} (f : X → Option Y) (xs : List X) → length (filter_map f xs) ≤ length xs
filter_map_shorter f [] = omega arith
filter_map_shorter f (x ∷ xs) = at (f x) (filter_map_shorter f xs)
  where
    at : (o : Option _) → length (filter_map f xs) ≤ length xs → length (cons_option o (filter_map f xs)) ≤ length (x ∷ xs)
    at None rest = omega arith
    at (Some y) rest = omega arith

pub in_filter_map : {X Y : Type 0} (f : X → Option Y) (xs : List X) (x : X) (y : Y) → Among x xs → f x ≡ Some y → Among y (filter_map f xs)
in_filter_map f [] x y there is = absurd there
in_filter_map f (z ∷ zs) x y (inl same) is = subst (λ (o : Option _). Among y (cons_option o (filter_map f zs))) (sym (ap f (sym same) ∙ is)) (inl refl)
in_filter_map f (z ∷ zs) x y (inr later) is = at (f z) (in_filter_map f zs x y later is)
  where
    at : (o : Option _) → Among y (filter_map f zs) → Among y (cons_option o (filter_map f zs))
    at None rest = rest
    at (Some w) rest = inr rest

-- what comes from a filter_map comes from an element
pub among_filter_map : {X Y : Type 0} (f : X → Option Y) (xs : List X) (y : Y) → Among y (filter_map f xs) → (x : X) × Among x xs × (f x ≡ Some y)
among_filter_map f [] y there = absurd there
among_filter_map f (z ∷ zs) y there = at (f z) refl (among_filter_map f zs y) there
  where
    at : (o : Option _) → f z ≡ o → (Among y (filter_map f zs) → (x : _) × Among x zs × (f x ≡ Some y)) → Among y (cons_option o (filter_map f zs)) → (x : _) × Among x (z ∷ zs) × (f x ≡ Some y)
    at None is rest there = let found = rest there in (found.0, inr found.1, found.2)
    at (Some w) is rest (inl same) = (z, inl refl, is ∙ ap Some (sym same))
    at (Some w) is rest (inr later) = let found = rest later in (found.0, inr found.1, found.2)

-- of different claims at most one is this one
pub one_less : (c : Claim) (ds : List Claim) → EachPair (λ d e. is_claim d e ≡ false) ds → length ds ≤ length (filter (λ d. not (is_claim d c)) ds) + 1
one_less c [] pairs = omega arith
one_less c (d ∷ ds) pairs = at (is_claim d c) refl (one_less c ds pairs.1)
  where
    others : AreOne d c → (e : Claim) → is_claim d e ≡ false → is_claim e c ≡ false
    others one e other = false_from (is_claim e c) (λ h. let by = are_one e c h in contrary (is_claim d e) (one_from d e (record { stamp = one.stamp ∙ sym by.stamp; half = one.half ∙ sym by.half })) other)

    all_pass : (es : List Claim) → AllByRecursion (λ e. is_claim e c ≡ false) es → filter (λ e. not (is_claim e c)) es ≡ es
    all_pass [] none = refl
    all_pass (e ∷ es) none = ap (λ b. cond (not b) (e ∷ filter (λ e. not (is_claim e c)) es) (filter (λ e. not (is_claim e c)) es)) none.0 ∙ ap (λ xs. e ∷ xs) (all_pass es none.1)

    at : (b : Bool) → is_claim d c ≡ b → length ds ≤ length (filter (λ e. not (is_claim e c)) ds) + 1 → length (d ∷ ds) ≤ length (cond (not b) (d ∷ filter (λ e. not (is_claim e c)) ds) (filter (λ e. not (is_claim e c)) ds)) + 1
    at false is rest = omega arith
    at true is rest =
        let one = are_one d c is in
        let same = ap length (all_pass ds (all_from (λ e. is_claim e c ≡ false) ds (λ e there. others one e (all_at (λ e. is_claim d e ≡ false) ds e pairs.0 there)))) in omega arith

-- if nothing comes from one element, fewer come than there are
pub filter_map_fewer : {X Y : Type 0} (f : X → Option Y) (xs : List X) (x : X) → Among x xs → f x ≡ None → length (filter_map f xs) + 1 ≤ length xs
filter_map_fewer f [] x there none = absurd there
filter_map_fewer f (z ∷ zs) x (inl same) none =
    let here : length (cons_option (f z) (filter_map f zs)) ≡ length (filter_map f zs) = ap (λ o. length (cons_option o (filter_map f zs))) (ap f (sym same) ∙ none) in
    let rest = filter_map_shorter f zs in omega arith
filter_map_fewer f (z ∷ zs) x (inr later) none = at (f z) (filter_map_fewer f zs x later none)
  where
    at : (o : Option _) → length (filter_map f zs) + 1 ≤ length zs → length (cons_option o (filter_map f zs)) + 1 ≤ length (z ∷ zs)
    at None rest = omega arith
    at (Some y) rest = omega arith
