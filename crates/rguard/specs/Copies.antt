-- The copies that a section edits, and the shares of them that go home instead of what was lent.
use Rattle.std.specs.Prelude.{ℕ, Option, Some, None, IsSome, List, [], ◌∷◌, ◌++◌, map}
use Rattle.rstate.specs.Lent.{LentFields, at_place, replaced, lent_value}
use Rattle.rstate.specs.Shares.{ShareFields, whole}

module _ {V : Type 0} where
  -- the section's own copy of the value, if it has one, or else the value that is lent
  abbrev pub own_or : Option V → Option V → Option V
  own_or (Some value) lent = Some value
  own_or None lent = lent

  abbrev pub value_among : List (ℕ × V) → LentFields V → ℕ → Option V
  value_among own lent l = own_or (at_place own l) (lent_value lent l)

  -- the copies, with one of what is lent if there was none
  abbrev pub copied : List (ℕ × V) → ℕ → Option V → Option V → List (ℕ × V)
  copied own l (Some value) lent = own
  copied own l None (Some value) = own ++ (l, value) ∷ []
  copied own l None None = own

  abbrev pub with_copy : List (ℕ × V) → LentFields V → ℕ → List (ℕ × V)
  with_copy own lent l = copied own l (at_place own l) (lent_value lent l)

  -- n shares of each copy
  abbrev pub shares_of : ℕ → List (ℕ × V) → List (ℕ × ShareFields V)
  shares_of n own = map (λ copy. (copy.0, whole n copy.1)) own

  -- what is lent, with these shares replacing those that are there, one after another
  abbrev pub with_shares : List (ℕ × ShareFields V) → List (ℕ × ShareFields V) → List (ℕ × ShareFields V)
  with_shares writes [] = writes
  with_shares writes (made ∷ more) = with_shares (replaced writes made.0 made.1) more

  -- all shares of these resources are lent
  abbrev pub CanReplace : List (ℕ × ShareFields V) → List (ℕ × ShareFields V) → Type 0
  CanReplace writes [] = Unit {0}
  CanReplace writes (made ∷ more) = IsSome (at_place writes made.0) × CanReplace (replaced writes made.0 made.1) more
