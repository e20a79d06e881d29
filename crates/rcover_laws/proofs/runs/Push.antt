-- One more moment at the end of a run.
use Rattle.std.proofs.Common.{◌≡◌, Bool, true, false, not, ◌||◌, cond, Option, Some, None, List, [], ◌∷◌, ◌++◌, map, filter, refl, sym, ap, ◌∙◌, inl, inr}
use Rattle.std.proofs.lemmas.Bool.{or_left, or_right}
use Rattle.std.specs.List.{list_any, filter_map, cons_option}
use Rattle.std.specs.Option.{option_to_list}
use Rattle.rclaim.specs.declared.claim.Claim.{Claim}
use Rattle.rclaim.specs.declared.event.Event.{Event}
use Rattle.rmodel.specs.State.{LockState}
use Rattle.rmodel.specs.Steps.{next, after}
use Rattle.rmodel.proofs.ListFacts.{Among, any_among, none_among, none_from, among_filter, in_filter, passing}
use Rattle.rmodel.proofs.settling.OneSettlement.{both_cases}
use Rattle.rcover_laws.specs.Moments.{moments, is_claim}
use Rattle.rcover_laws.specs.Sections.{different}
use Rattle.rcover_laws.specs.Lists.{with_different, with_option}
use Rattle.rcover_laws.proofs.runs.Moments.{are_one, one_from}

pub moments_push : (s : LockState) (es : List Event) (e : Event) → moments s (es ++ e ∷ []) ≡ moments s es ++ (next (after s es) e).claims ∷ []
moments_push s [] e = refl
moments_push s (d ∷ es) e = ap (λ ms. s.claims ∷ ms) (moments_push (next s d) es e)

pub map_append : {X Y : Type 0} (f : X → Y) (xs ys : List X) → map f (xs ++ ys) ≡ map f xs ++ map f ys
map_append f [] ys = refl
map_append f (x ∷ xs) ys = ap (λ zs. f x ∷ zs) (map_append f xs ys)

pub filter_append : {X : Type 0} (p : X → Bool) (xs ys : List X) → filter p (xs ++ ys) ≡ filter p xs ++ filter p ys
filter_append p [] ys = refl
filter_append p (x ∷ xs) ys = at (p x) (filter_append p xs ys)
  where
    at : (b : Bool) → filter p (xs ++ ys) ≡ filter p xs ++ filter p ys → cond b (x ∷ filter p (xs ++ ys)) (filter p (xs ++ ys)) ≡ cond b (x ∷ filter p xs) (filter p xs) ++ filter p ys
    at true same = ap (λ zs. x ∷ zs) same
    at false same = same

pub filter_map_append : {X Y : Type 0} (f : X → Option Y) (xs ys : List X) → filter_map f (xs ++ ys) ≡ filter_map f xs ++ filter_map f ys
filter_map_append f [] ys = refl
filter_map_append f (x ∷ xs) ys = at (f x) (filter_map_append f xs ys)
  where
    at : (o : Option _) → filter_map f (xs ++ ys) ≡ filter_map f xs ++ filter_map f ys → cons_option o (filter_map f (xs ++ ys)) ≡ cons_option o (filter_map f xs) ++ filter_map f ys
    at None same = same
    at (Some y) same = ap (λ zs. y ∷ zs) same

pub any_append : {X : Type 0} (p : X → Bool) (xs : List X) (y : X) → list_any p (xs ++ y ∷ []) ≡ (list_any p xs || p y)
any_append p [] y = or_false (p y)
  where
    or_false : (b : Bool) → (b || false) ≡ b
    or_false true = refl
    or_false false = refl
any_append p (x ∷ xs) y = ap (λ b. p x || b) (any_append p xs y) ∙ joined (p x) (list_any p xs) (p y)
  where
    joined : (a b c : Bool) → (a || (b || c)) ≡ ((a || b) || c)
    joined true b c = refl
    joined false b c = refl

pub append_none : {X : Type 0} (xs : List X) → xs ++ [] ≡ xs
append_none [] = refl
append_none (x ∷ xs) = ap (λ ys. x ∷ ys) (append_none xs)

-- maps and filters that agree on the elements of a list
pub filter_map_same : {X Y : Type 0} (f g : X → Option Y) (xs : List X) → ((x : X) → Among x xs → f x ≡ g x) → filter_map f xs ≡ filter_map g xs
filter_map_same f g [] same = refl
filter_map_same f g (x ∷ xs) same = (λ i. cons_option (same x (inl refl) i) (filter_map_same f g xs (λ y there. same y (inr there)) i))

pub filter_same : {X : Type 0} (p q : X → Bool) (xs : List X) → ((x : X) → Among x xs → p x ≡ q x) → filter p xs ≡ filter q xs
filter_same p q [] same = refl
filter_same p q (x ∷ xs) same = (λ i. cond (same x (inl refl) i) (x ∷ filter_same p q xs (λ y there. same y (inr there)) i) (filter_same p q xs (λ y there. same y (inr there)) i))

-- ---- different claims

abbrev is_one : Claim → Claim → Bool
is_one d c = is_claim c d

pub different_push : (cs : List Claim) (d : Claim) → different (cs ++ d ∷ []) ≡ with_different (different cs) d
different_push [] d = refl
different_push (c ∷ cs) d =
    ap (λ ds. c ∷ filter (λ e. not (is_claim c e)) ds) (different_push cs d)
    ∙ both_cases (list_any (is_one d) (different cs))
    (λ some. ap (λ b. c ∷ filter other (cond b (different cs) (different cs ++ d ∷ []))) some ∙ sym (ap (λ b. cond b (c ∷ left) ((c ∷ left) ++ d ∷ [])) (still some)))
    (λ none.
    ap (λ b. c ∷ filter other (cond b (different cs) (different cs ++ d ∷ []))) none ∙ ap (λ ds. c ∷ ds) (filter_append other (different cs) (d ∷ []))
    ∙ both_cases (is_claim c d)
    (λ one.
    ap (λ b. c ∷ (left ++ cond (not b) (d ∷ []) [])) one ∙ ap (λ ds. c ∷ ds) (append_none left) ∙ sym (ap (λ b. cond (b || list_any (is_one d) left) (c ∷ left) ((c ∷ left) ++ d ∷ [])) one))
    (λ new.
    ap (λ b. c ∷ (left ++ cond (not b) (d ∷ []) [])) new
    ∙ sym ((λ i. cond (new i || list_any (is_one d) left) (c ∷ left) ((c ∷ left) ++ d ∷ [])) ∙ ap (λ b. cond b (c ∷ left) ((c ∷ left) ++ d ∷ [])) (none_left none))))
  where
    other : Claim → Bool
    other e = not (is_claim c e)

    left : List Claim
    left = filter (λ e. not (is_claim c e)) (different cs)

    still : list_any (is_one d) (different cs) ≡ true → (is_claim c d || list_any (is_one d) left) ≡ true
    still some =
        let e = passing (is_one d) (different cs) some in
        both_cases (is_claim c e.0)
        (λ one.
        let a = are_one c e.0 one in
        let b = are_one e.0 d e.2 in
        or_left (is_claim c d) (list_any (is_one d) left) (one_from c d (record { stamp = a.stamp ∙ b.stamp; half = a.half ∙ b.half })))
        (λ new. or_right (is_claim c d) (list_any (is_one d) left) (any_among (is_one d) left e.0 (in_filter (λ e. not (is_claim c e)) (different cs) e.0 e.1 (ap not new)) e.2))

    none_left : list_any (is_one d) (different cs) ≡ false → list_any (is_one d) left ≡ false
    none_left none = none_from (is_one d) left (λ e there. none_among (is_one d) (different cs) e none (among_filter (λ e. not (is_claim c e)) (different cs) e there).0)

pub different_option : (cs : List Claim) (o : Option Claim) → different (cs ++ option_to_list o) ≡ with_option (different cs) o
different_option cs None = ap different (append_none cs)
different_option cs (Some d) = different_push cs d
