-- The home values: how many shares of each resource's value are at home, by what the seats have taken.
use Rattle.std.specs.Prelude.{◌≡◌, ℕ, ◌+◌, ◌-◌, Bool, Some, List, slice_get, if◌then◌else◌}
use Rattle.std.specs.List.{list_any, count_by}
use Rattle.std.specs.FinSet.{contains}
use Rattle.rmodel.specs.declared.granted.Granted.{Granted}
use Rattle.rstate.specs.Shares.{ShareFields}

-- how many seats have taken the resource for reading
abbrev pub readers : List Granted → ℕ → ℕ
readers taken l = count_by (λ g. contains g.reads l) taken

-- whether a seat has taken the resource for writing
abbrev pub is_written : List Granted → ℕ → Bool
is_written taken l = list_any (λ g. contains g.writes l) taken

-- a resource has one share more than there are seats, and a seat that reads has one: so a share is at home unless somebody writes. A seat that writes
-- has all shares
abbrev pub left_at_home : ℕ → List Granted → ℕ → ℕ
left_at_home seats taken l = if is_written taken l then 0 else (seats + 1) - readers taken l

-- The home of the resource, whose value is this: it is absent exactly if a seat has taken the resource for writing, and then its value stays known
abbrev pub home_of : {V : Type 0} → ℕ → List Granted → ℕ → V → ShareFields V
home_of seats taken l value = record { count = left_at_home seats taken l; full = if is_written taken l then 0 else seats + 1; value = value }

-- each resource, whose opening value is listed, is at home in this way; `at` makes of the opening value what it is now
abbrev pub AreHome : {V : Type 0} → ℕ → List Granted → List V → (ℕ → V → V) → List (ShareFields V) → Type 0
AreHome {V} seats taken values at at_home =
    (l : ℕ) (opening : V) → slice_get values l ≡ Some opening → slice_get at_home l ≡ Some (home_of seats taken l (at l opening))
