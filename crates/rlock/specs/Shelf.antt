-- What is out with a pass, and what it brought home.
use Rattle.std.specs.Prelude.{◌≡◌, ◌≢◌, ℕ, ◌+◌, ◌-◌, ◌^◌, min, Option, Some, option_map, length, slice_get}
use Rattle.rlock.specs.declared.shelf.Shelf.{Shelf}
use Rattle.rlock.specs.declared.shelf.Spot.TheVariants.{Home, Out}
use Rattle.rlock.specs.Known.{Known}

-- what is out with the pass n on the first shelf is out with it on the second
abbrev pub StaysOut : ℕ → Shelf → Shelf → Type 0
StaysOut n before after = (spot : ℕ) → slice_get before.spots.items spot ≡ Some (Out n) → slice_get after.spots.items spot ≡ Some (Out n)

-- the two shelves have equally many spots
abbrev pub HasAsManySpots : Shelf → Shelf → Type 0
HasAsManySpots before after = length after.spots.items ≡ length before.spots.items

-- how many spots the shelf had when the pass last left it
abbrev pub spots_of : {O E : Type 0} → Known Shelf O E → Option ℕ
spots_of pass = option_map (λ (shelf : Shelf). length shelf.spots.items) pass.last

-- the value of this spot was out with the pass when it last left the shelf
abbrev pub HasOut : {O E : Type 0} → Known Shelf O E → ℕ → Type 0
HasOut pass spot = (last : Shelf) → pass.last ≡ Some last → slice_get last.spots.items spot ≡ Some (Out pass.number)

-- this value was in the spot when the pass last left the shelf
abbrev pub HasHome : {O E : Type 0} → Known Shelf O E → ℕ → ℕ → Type 0
HasHome pass spot value = (last : Shelf) → pass.last ≡ Some last → slice_get last.spots.items spot ≡ Some (Home value)

-- the value of this spot was not at home when the pass last left the shelf
abbrev pub HasNotHome : {O E : Type 0} → Known Shelf O E → ℕ → Type 0
HasNotHome pass spot = (last : Shelf) (value : ℕ) → pass.last ≡ Some last → slice_get last.spots.items spot ≢ Some (Home value)

-- a value increased by this amount, but at most the greatest value
abbrev pub sum_within : ℕ → ℕ → ℕ
sum_within value amount = min (value + amount) (2 ^ 64 - 1)
