-- What a turn leaves of a shelf.
use Rattle.std.proofs.Common.{◌≡◌, ◌≢◌, ◌==◌, ℕ, zero, suc, Bool, true, false, List, [], ◌∷◌, Option, Some, None, refl, sym, ap, subst, ◌∙◌}
use Rattle.std.specs.Prelude.{IfSome, length, option_map, slice_get, slice_set}
use Rattle.std.proofs.lemmas.List.{length-set}
use Rattle.std.proofs.lemmas.Bool.{true≢false, eq-eqb, eqb-true}
use Rattle.std.proofs.lemmas.Option.{none-some, same_Some}
use Rattle.rlock.specs.Known.{Known}
use Rattle.rlock.specs.declared.shelf.Shelf.{Shelf}
use Rattle.rlock.specs.declared.shelf.Spot.{Spot}
use Rattle.rlock.specs.declared.shelf.Spot.TheVariants.{Home, Out}
use Rattle.rlock.specs.Shelf.{StaysOut, HasAsManySpots, HasOut, HasNotHome, spots_of}

-- ---- spots

home_or_out : (value n : ℕ) → Some (Home value) ≡ Some (Out n) → ⊥
home_or_out value n e = cc

same_pass : (k n : ℕ) → Some (Out k) ≡ Some (Out n) → k ≡ n
same_pass k n e = cc

-- a place is this one or another
pub by_place : {P : Type 0} (a b : ℕ) (test : Bool) → (a == b) ≡ test → (a ≡ b → P) → (a ≢ b → P) → P
by_place a b true is here elsewhere = here (eqb-true a b is)
by_place a b false is here elsewhere = elsewhere (λ e. true≢false (sym (eq-eqb a b e) ∙ is))

get_here : {X : Type 0} (xs : List X) (k : ℕ) (x y : X) → slice_get xs k ≡ Some x → slice_get (slice_set xs k y) k ≡ Some y
get_here [] k x y there = absurd (none-some x there)
get_here (z ∷ xs) zero x y there = refl
get_here (z ∷ xs) (suc k) x y there = get_here xs k x y there

get_beside : {X : Type 0} (xs : List X) (k l : ℕ) (y : X) → k ≢ l → slice_get (slice_set xs k y) l ≡ slice_get xs l
get_beside [] k l y differ = refl
get_beside (z ∷ xs) zero zero y differ = absurd (differ refl)
get_beside (z ∷ xs) zero (suc l) y differ = refl
get_beside (z ∷ xs) (suc k) zero y differ = refl
get_beside (z ∷ xs) (suc k) (suc l) y differ = get_beside xs k l y (λ e. differ (ap suc e))

-- what a turn of another does to a shelf, as the pass n sees it
abbrev pub Allowed : ℕ → Shelf → Shelf → Type 0
Allowed n before after = StaysOut n before after × StaysOut n after before × HasAsManySpots before after

pub one_set : (before now : Shelf) (spot : ℕ) (value : Spot) → now.spots.items ≡ slice_set before.spots.items spot value → HasAsManySpots before now
one_set before now spot value is = ap (λ (spots : List Spot). length spots) is ∙ length-set before.spots.items spot value

-- ---- a value is taken out for the pass n, or nothing is at home

pub take_beside : (before now : Shelf) (spot n : ℕ) (result : Option ℕ)
    → IfSome result (λ value. (slice_get before.spots.items spot ≡ Some (Home value)) × (now.spots.items ≡ slice_set before.spots.items spot (Out n)))
    → (result ≡ None → now.spots.items ≡ before.spots.items)
    → (other : ℕ) → other ≢ spot → slice_get now.spots.items other ≡ slice_get before.spots.items other
take_beside before now spot n None taken none other away = ap (λ (spots : List Spot). slice_get spots other) (none refl)
take_beside before now spot n (Some value) taken none other away =
    ap (λ (spots : List Spot). slice_get spots other) taken.1 ∙ get_beside before.spots.items spot other (Out n) (λ e. away (sym e))

pub take_many : (before now : Shelf) (spot n : ℕ) (result : Option ℕ)
    → IfSome result (λ value. (slice_get before.spots.items spot ≡ Some (Home value)) × (now.spots.items ≡ slice_set before.spots.items spot (Out n)))
    → (result ≡ None → now.spots.items ≡ before.spots.items)
    → HasAsManySpots before now
take_many before now spot n None taken none = ap (λ (spots : List Spot). length spots) (none refl)
take_many before now spot n (Some value) taken none = one_set before now spot (Out n) taken.1

-- what is out with another pass stays, nothing more comes to be out with it, and there are as many spots
pub take_others : (before now : Shelf) (spot n : ℕ) (result : Option ℕ)
    → IfSome result (λ value. (slice_get before.spots.items spot ≡ Some (Home value)) × (now.spots.items ≡ slice_set before.spots.items spot (Out n)))
    → (result ≡ None → now.spots.items ≡ before.spots.items)
    → (k : ℕ) → k ≢ n → Allowed k before now
take_others before now spot n None taken none k differ = (
  (λ other out. ap (λ (spots : List Spot). slice_get spots other) (none refl) ∙ out),
  (λ other out. ap (λ (spots : List Spot). slice_get spots other) (sym (none refl)) ∙ out),
  take_many before now spot n None taken none,
)
take_others before now spot n (Some value) taken none k differ =
    let beside : (other : ℕ) → other ≢ spot → slice_get now.spots.items other ≡ slice_get before.spots.items other = take_beside before now spot n (Some value) taken none in
    let there : slice_get now.spots.items spot ≡ Some (Out n) = ap (λ (spots : List Spot). slice_get spots spot) taken.1 ∙ get_here before.spots.items spot (Home value) (Out n) taken.0 in (
      (λ other out.
          by_place other spot (other == spot) refl
          (λ e. absurd (home_or_out value k (sym taken.0 ∙ (ap (λ (j : ℕ). slice_get before.spots.items j) (sym e) ∙ out))))
          (λ away. beside other away ∙ out)),
      (λ other out.
          by_place other spot (other == spot) refl
          (λ e. absurd (differ (same_pass k n (sym out ∙ (ap (λ (j : ℕ). slice_get now.spots.items j) e ∙ there)))))
          (λ away. sym (beside other away) ∙ out)),
      take_many before now spot n (Some value) taken none,
    )

-- nothing was taken out: the value is not at home
pub not_home : {O E : Type 0} (after : Known Shelf O E) (before now : Shelf) (spot : ℕ) (result : Option ℕ)
    → after.last ≡ Some now
    → ((value : ℕ) → slice_get before.spots.items spot ≡ Some (Home value) → result ≡ Some value)
    → (result ≡ None → now.spots.items ≡ before.spots.items)
    → result ≡ None → HasNotHome after spot
not_home after before now spot result left_is home none is = λ last value last_is there.
    none-some value (sym is ∙ home value
    (ap (λ (spots : List Spot). slice_get spots spot) (sym (none is))
    ∙ (ap (λ (s : Shelf). slice_get s.spots.items spot) (same_Some now last (sym left_is ∙ last_is)) ∙ there)))

-- ---- a value that was out with the pass n is brought home

pub put_beside : (before now : Shelf) (spot value : ℕ) → now.spots.items ≡ slice_set before.spots.items spot (Home value)
    → (other : ℕ) → other ≢ spot → slice_get now.spots.items other ≡ slice_get before.spots.items other
put_beside before now spot value is other away =
    ap (λ (spots : List Spot). slice_get spots other) is ∙ get_beside before.spots.items spot other (Home value) (λ e. away (sym e))

pub put_here : (before now : Shelf) (spot n value : ℕ) → slice_get before.spots.items spot ≡ Some (Out n) → now.spots.items ≡ slice_set before.spots.items spot (Home value)
    → slice_get now.spots.items spot ≡ Some (Home value)
put_here before now spot n value was is =
    ap (λ (spots : List Spot). slice_get spots spot) is ∙ get_here before.spots.items spot (Out n) (Home value) was

-- what is out with another pass stays, nothing more comes to be out with it, and there are as many spots
pub put_others : (before now : Shelf) (spot n value : ℕ) → slice_get before.spots.items spot ≡ Some (Out n) → now.spots.items ≡ slice_set before.spots.items spot (Home value)
    → (k : ℕ) → k ≢ n → Allowed k before now
put_others before now spot n value was is k differ = (
  (λ other out.
      by_place other spot (other == spot) refl
      (λ e. absurd (differ (same_pass k n (sym out ∙ (ap (λ (j : ℕ). slice_get before.spots.items j) e ∙ was)))))
      (λ away. put_beside before now spot value is other away ∙ out)),
  (λ other out.
      by_place other spot (other == spot) refl
      (λ e. absurd (home_or_out value k (sym (put_here before now spot n value was is) ∙ (ap (λ (j : ℕ). slice_get now.spots.items j) (sym e) ∙ out))))
      (λ away. sym (put_beside before now spot value is other away) ∙ out)),
  one_set before now spot (Home value) is,
)

-- ---- what a pass knows of the shelf that it finds

-- what was out with it when it last left the shelf is still out with it, and nothing else is; no spot appeared or disappeared
pub record Knows {O E : Type 0} (pass : Known Shelf O E) (found : Shelf) : Type 0 where
  pub last : Shelf
  pub is_last : pass.last ≡ Some last
  pub stays : StaysOut pass.number last found
  pub back : StaysOut pass.number found last
  pub many : HasAsManySpots last found

pub knows : {O E : Type 0} (pass : Known Shelf O E) (found state : Shelf)
    → ((last : Shelf) × (pass.last ≡ Some last) × Allowed pass.number last state)
    → found ≡ state → Knows pass found
knows pass found state its is = subst (λ (s : Shelf). Knows pass s) (sym is) (record { last = its.0; is_last = its.1; stays = its.2.0; back = its.2.1; many = its.2.2 })

pub is_out : {O E : Type 0} (pass : Known Shelf O E) (found : Shelf) → Knows pass found → (spot : ℕ) → HasOut pass spot → slice_get found.spots.items spot ≡ Some (Out pass.number)
is_out pass found w spot out = w.stays spot (out w.last w.is_last)

-- after a turn the shelf has as many spots as when the pass last left it
pub as_many : {O E : Type 0} (pass after : Known Shelf O E) (found now : Shelf) → Knows pass found → after.last ≡ Some now → HasAsManySpots found now → spots_of after ≡ spots_of pass
as_many pass after found now w left_is many =
    let spots : Option Shelf → Option ℕ = λ last. option_map (λ (shelf : Shelf). length shelf.spots.items) last in
    ap spots left_is ∙ (ap (λ (count : ℕ). Some count) (many ∙ w.many) ∙ sym (ap spots w.is_last))

-- if a turn leaves a spot as it found it, what is out there with the pass was out with it before
pub was_out : {O E : Type 0} (pass after : Known Shelf O E) (found now : Shelf) → Knows pass found → after.last ≡ Some now → after.number ≡ pass.number
    → (other : ℕ) → slice_get now.spots.items other ≡ slice_get found.spots.items other → HasOut after other → HasOut pass other
was_out pass after found now w left_is same_number other same out = λ last is.
    ap (λ (s : Shelf). slice_get s.spots.items other) (same_Some last w.last (sym is ∙ w.is_last))
    ∙ w.back other (sym same ∙ (out now left_is ∙ ap (λ (n : ℕ). Some (Out n)) same_number))

-- and if it brings a value home, that is no longer out
pub given_home : {O E : Type 0} (pass after : Known Shelf O E) (found now : Shelf) → Knows pass found → after.last ≡ Some now → after.number ≡ pass.number
    → (spot value : ℕ) → HasOut pass spot → now.spots.items ≡ slice_set found.spots.items spot (Home value)
    → (other : ℕ) → HasOut after other → (other ≢ spot) × HasOut pass other
given_home pass after found now w left_is same_number spot value had is other out =
    let there : slice_get now.spots.items spot ≡ Some (Home value) = put_here found now spot pass.number value (is_out pass found w spot had) is in
    let away : other ≢ spot = λ e. home_or_out value after.number (sym there ∙ (ap (λ (j : ℕ). slice_get now.spots.items j) (sym e) ∙ out now left_is)) in
    (away, was_out pass after found now w left_is same_number other (put_beside found now spot value is other away) out)
