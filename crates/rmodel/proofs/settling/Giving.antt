-- The pass that grants what is asked for, claim by claim.
use Rattle.std.proofs.Common.{◌≡◌, ℕ, ◌<◌, ◌≤◌, Bool, true, false, nat_lt, ◌&&◌, ◌||◌, not, cond, List, [], ◌∷◌, ◌++◌, map, take, drop, length, get_or, refl, sym, ap, subst, ◌∙◌, arith}
use Rattle.std.proofs.lemmas.Bool.{or_parts, ltb-false}
use Rattle.std.proofs.lemmas.List.{take-append-drop, take-map, get_or-map, length-map}
use Rattle.std.specs.List.{AllZip, list_any}
use Rattle.std.specs.FinSet.{empty, union, len, empty_of_len}
use Rattle.rset.specs.Sets.{Set}
use Rattle.rset.proofs.SetLemmas.{union_empty_right}
use Rattle.rclaim.specs.declared.claim.Claim.{Claim}
use Rattle.rmodel.specs.declared.claimed.Claimed.{Claimed}
use Rattle.rmodel.specs.Claims.{conflicts_on, is_satisfied, is_active, satisfied_by}
use Rattle.rmodel.specs.Changes.{SameClaim}
use Rattle.rmodel.specs.Rules.{SettlesAt}
use Rattle.rmodel.specs.Settling.{settled}
use Rattle.rmodel.specs.Steps.{some_asks, is_kept_from, gets_asked, gets, with_asked, given}
use Rattle.rmodel.specs.WellFormed.{AreWellFormed}
use Rattle.rmodel.proofs.ListFacts.{contrary, false_from, any_zip, zip_append, zip_same, zip_map_right}
use Rattle.rmodel.proofs.reaching.Soundness.{active_of_satisfied}
use Rattle.rmodel.proofs.settling.Settlement.{settles_settled}
use Rattle.rmodel.proofs.settling.Standing.{SameStanding, given_standing}

-- nothing comes to a claim that asks for nothing
pub asks_nothing : (xs : List Claimed) (x : Claimed) → x.asked ≡ empty → with_asked xs x ≡ x
asks_nothing xs x none = at (gets_asked xs x)
  where
    at : (b : Bool) → cond b (record x { asked = empty; granted = union x.granted x.asked }) x ≡ x
    at true = (λ i. record x { asked = sym none i; granted = (ap (union x.granted) none ∙ union_empty_right x.granted) i })
    at false = refl

pub no_members : (s : Set) → nat_lt 0 (len s) ≡ false → s ≡ empty
no_members s none = empty_of_len s (zero (len s) none)
  where
    zero : (n : ℕ) → nat_lt 0 n ≡ false → n ≡ 0
    zero n h = let le = ltb-false 0 n h in omega arith

pub none_by_number : (s : Set) (n : ℕ) → n ≡ len s → n ≤ 0 → s ≡ empty
none_by_number s n is none = empty_of_len s (let zero : n ≡ 0 = omega arith in sym is ∙ zero)

-- where no claim asks for anything, nothing comes to one
pub given_none : (xs : List Claimed) → some_asks xs ≡ false → given xs ≡ xs
unfolding given
given_none xs none = each xs xs none
  where
    each : (all ys : List Claimed) → some_asks ys ≡ false → map (with_asked all) ys ≡ ys
    each all [] h = refl
    each all (y ∷ ys) h = let parts = or_parts (nat_lt 0 (len y.asked)) (some_asks ys) h in (λ i. asks_nothing all y (no_members y.asked parts.0) i ∷ each all ys parts.1 i)

-- nothing is given to a claim for which nothing comes
pub given_nothing : (all : List Claimed) (y : Claimed) → gets all y ≡ false → with_asked all y ≡ y
given_nothing all y h = at (nat_lt 0 (len y.asked)) (is_active y) refl refl h
  where
    left : gets_asked all y ≡ false → with_asked all y ≡ y
    left none = ap (λ g. cond g (record y { asked = empty; granted = union y.granted y.asked }) y) none

    at : (a b : Bool) → nat_lt 0 (len y.asked) ≡ a → is_active y ≡ b → ((a && b) && gets_asked all y) ≡ false → with_asked all y ≡ y
    at true true some active h = left h
    at true false some waits h =
        let unsat : is_satisfied y ≡ false = false_from (is_satisfied y) (λ sat. contrary (is_active y) (active_of_satisfied y.status sat) waits) in
        left (λ i. unsat i || (waits i && not (is_kept_from all y.claim y.asked)))
    at false b none active h = asks_nothing all y (no_members y.asked none)

-- where nothing that is asked for comes to a claim, nothing is given
pub given_unless : (xs : List Claimed) → list_any (gets xs) xs ≡ false → given xs ≡ xs
unfolding given
given_unless xs none = each xs xs none
  where
    each : (all ys : List Claimed) → list_any (gets all) ys ≡ false → map (with_asked all) ys ≡ ys
    each all [] h = refl
    each all (y ∷ ys) h = let parts = or_parts (gets all y) (list_any (gets all) ys) h in (λ i. given_nothing all y parts.0 i ∷ each all ys parts.1 i)

-- what claims settle to asks for as much
pub settled_asks : (xs : List Claimed) → AreWellFormed xs → some_asks (settled xs) ≡ some_asks xs
settled_asks xs well = sym (any_zip (SettlesAt xs (settled xs)) _ _ (λ x y h. ap (λ s. nat_lt 0 (len s)) (sym h.asked)) xs (settled xs) (settles_settled xs well))

-- the tests see no difference once some claims got what they asked for
same_kept_from : (xs ys : List Claimed) → AllZip SameStanding xs ys → (c : Claim) (part : Set) → is_kept_from ys c part ≡ is_kept_from xs c part
same_kept_from xs ys same c part = sym (any_zip SameStanding _ _ (λ x y h. (λ i. satisfied_by (sym h.status i) && conflicts_on (sym h.claim i) c part)) xs ys same)

pub same_with_asked : (xs ys : List Claimed) → AllZip SameStanding xs ys → (x : Claimed) → with_asked ys x ≡ with_asked xs x
same_with_asked xs ys same x = ap (λ b. cond (is_satisfied x || (is_active x && not b)) (record x { asked = empty; granted = union x.granted x.asked }) x) (same_kept_from xs ys same x.claim x.asked)

-- what came to claims comes to none once more
pub given_again : (xs : List Claimed) → given (given xs) ≡ given xs
unfolding given
given_again xs = each xs
  where
    at : (x : Claimed) (b : Bool) → gets_asked xs x ≡ b → let y = cond b (record x { asked = empty; granted = union x.granted x.asked }) x in with_asked (map (with_asked xs) xs) y ≡ y
    at x true is = asks_nothing (map (with_asked xs) xs) (record x { asked = empty; granted = union x.granted x.asked }) refl
    at x false is = same_with_asked xs (given xs) (given_standing xs) x ∙ ap (λ b. cond b (record x { asked = empty; granted = union x.granted x.asked }) x) is

    each : (ys : List Claimed) → map (with_asked (map (with_asked xs) xs)) (map (with_asked xs) ys) ≡ map (with_asked xs) ys
    each [] = refl
    each (y ∷ ys) = (λ i. at y (gets_asked xs y) refl i ∷ each ys i)

-- what is granted after a settlement changes no claim
pub same_given : (xs t : List Claimed) → AllZip SameClaim xs t → AllZip SameClaim xs (given t)
unfolding given
same_given xs t same = zip_map_right (with_asked t) SameClaim SameClaim (λ x y e. at y (gets_asked t y) ∙ e) xs t same
  where
    at : (y : Claimed) (b : Bool) → (cond b (record y { asked = empty; granted = union y.granted y.asked }) y).claim ≡ y.claim
    at y true = refl
    at y false = refl

-- as far as a place
so_far : (xs : List Claimed) (i : ℕ) → AllZip SameStanding xs (map (with_asked xs) (take i xs) ++ drop i xs)
so_far xs i =
    subst (λ (zs : List Claimed). AllZip SameStanding zs (map (with_asked xs) (take i xs) ++ drop i xs)) (take-append-drop i xs)
    (zip_append SameStanding (take i xs) (map (with_asked xs) (take i xs)) (drop i xs) (drop i xs)
    (front (take i xs)) (zip_same SameStanding (λ x. record { claim = refl; status = refl }) (drop i xs)))
  where
    at : (y : Claimed) (b : Bool) → SameStanding y (cond b (record y { asked = empty; granted = union y.granted y.asked }) y)
    at y true = record { claim = refl; status = refl }
    at y false = record { claim = refl; status = refl }

    front : (ys : List Claimed) → AllZip SameStanding ys (map (with_asked xs) ys)
    front [] = tt
    front (y ∷ ys) = (at y (gets_asked xs y), front ys)

-- the pass goes on by one claim
pub give_step : (xs ys : List Claimed) (i : ℕ) (d : Claimed) → i < length xs → take i ys ≡ take i (given xs) → drop i ys ≡ drop i xs
    → with_asked ys (get_or xs i d) ≡ get_or (given xs) i d
unfolding given
give_step xs ys i d within done rest =
    let is : ys ≡ map (with_asked xs) (take i xs) ++ drop i xs = sym (take-append-drop i ys) ∙ (λ k. (done ∙ take-map (with_asked xs) i xs) k ++ rest k) in
    same_with_asked xs ys (subst (λ (zs : List Claimed). AllZip SameStanding xs zs) (sym is) (so_far xs i)) (get_or xs i d)
    ∙ sym (get_or-map (with_asked xs) xs i d d within)

pub as_many_given : (xs : List Claimed) → length (given xs) ≡ length xs
unfolding given
as_many_given xs = length-map xs (with_asked xs)

-- a list with a place has a claim
pub some_claim : (xs : List Claimed) (i : ℕ) → i < length xs → Claimed
some_claim [] i h = absurd (none h)
  where
    none : i < 0 → ⊥
    none h = omega arith
some_claim (x ∷ xs) i h = x
