-- What goes from homes to a seat and back, one resource after another.
use Rattle.std.specs.Prelude.{◌≡◌, ℕ, ◌+◌, ◌≤◌, ◌<◌, Option, Some, None, List, [], ◌∷◌, ◌++◌, length, slice_get, slice_set}
use Rattle.rmodel.specs.declared.granted.Granted.{Granted}
use Rattle.rset.specs.Sets.{rising}
use Rattle.std.specs.FinSet.{difference}
use Rattle.rstate.specs.Shares.{ShareFields, less, more, absent}
use Rattle.rstate.specs.Lent.{LentFields}

module _ {V : Type 0} where
  -- the homes after the change of one, which was this
  abbrev pub changed_at : (ShareFields V → ShareFields V) → Option (ShareFields V) → List (ShareFields V) → ℕ → List (ShareFields V)
  changed_at f (Some home) homes l = slice_set homes l (f home)
  changed_at f None homes l = homes

  abbrev pub change_at : (ShareFields V → ShareFields V) → List (ShareFields V) → ℕ → List (ShareFields V)
  change_at f homes l = changed_at f (slice_get homes l) homes l

  -- after the changes of several, one after another
  abbrev pub after_changes : (ShareFields V → ShareFields V) → List (ShareFields V) → List ℕ → List (ShareFields V)
  after_changes f homes [] = homes
  after_changes f homes (l ∷ ls) = after_changes f (change_at f homes l) ls

  -- a share of the resource is at home
  abbrev pub HasShare : List (ShareFields V) → ℕ → Type 0
  HasShare homes l = (home : ShareFields V) × (slice_get homes l ≡ Some home) × (0 < home.count)

  -- and that holds for each of several, when its turn comes
  abbrev pub HaveShares : (ShareFields V → ShareFields V) → List (ShareFields V) → List ℕ → Type 0
  HaveShares f homes [] = Unit {0}
  HaveShares f homes (l ∷ ls) = HasShare homes l × HaveShares f (change_at f homes l) ls

  abbrev pub loan_of : Option (ShareFields V) → ℕ → List (ℕ × V)
  loan_of (Some home) l = (l, home.value) ∷ []
  loan_of None l = []

  -- a share of each of these, one after another
  abbrev pub loans_from : List (ShareFields V) → List ℕ → List (ℕ × V)
  loans_from homes [] = []
  loans_from homes (l ∷ ls) = loan_of (slice_get homes l) l ++ loans_from (change_at less homes l) ls

  abbrev pub whole_of : Option (ShareFields V) → ℕ → List (ℕ × ShareFields V)
  whole_of (Some home) l = (l, home) ∷ []
  whole_of None l = []

  -- all shares of each of these, one after another
  abbrev pub wholes_from : List (ShareFields V) → List ℕ → List (ℕ × ShareFields V)
  wholes_from homes [] = []
  wholes_from homes (l ∷ ls) = whole_of (slice_get homes l) l ++ wholes_from (change_at absent homes l) ls

  -- a share of the loan's resource is missing at home, and the loan has that value
  abbrev pub IsMissed : List (ShareFields V) → ℕ × V → Type 0
  IsMissed homes loan = (home : ShareFields V) × (slice_get homes loan.0 ≡ Some home) × (home.count < home.full) × (loan.1 ≡ home.value)

  -- and that holds for each of several, when its turn comes
  abbrev pub AreMissed : List (ShareFields V) → List (ℕ × V) → Type 0
  AreMissed homes [] = Unit {0}
  AreMissed homes (loan ∷ loans) = IsMissed homes loan × AreMissed (change_at more homes loan.0) loans

  -- the homes after loans came home, one after another
  abbrev pub after_loans : List (ShareFields V) → List (ℕ × V) → List (ShareFields V)
  after_loans homes [] = homes
  after_loans homes (loan ∷ loans) = after_loans (change_at more homes loan.0) loans

  -- there are homes for all of these
  abbrev pub HaveHomes : ℕ → List (ℕ × ShareFields V) → Type 0
  HaveHomes n [] = Unit {0}
  HaveHomes n (whole ∷ wholes) = (whole.0 < n) × HaveHomes n wholes

  -- the homes after all shares of these came home, one after another
  abbrev pub after_wholes : List (ShareFields V) → List (ℕ × ShareFields V) → List (ShareFields V)
  after_wholes homes [] = homes
  after_wholes homes (whole ∷ wholes) = after_wholes (slice_set homes whole.0 whole.1) wholes

  -- there is room for what a seat takes more when it goes from the first to the second
  pub record HasRoomFor (taken granted : Granted) (lent : LentFields V) : Type 0 where
    pub reads : length lent.reads + length (rising (difference granted.reads taken.reads)) ≤ lent.reads_room
    pub writes : length lent.writes + length (rising (difference granted.writes taken.writes)) ≤ lent.writes_room
