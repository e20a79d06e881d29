-- What a step changes, as contracts see it: two lists.
use Rattle.std.specs.Prelude.{List, [], refl}
use Rattle.std.specs.Coded.{Coded, code_by, coded×, coded_list}
use Rattle.rclaim.specs.Codes.{status_change_code, grant_change_code}
use Rattle.rclaim.specs.declared.changes.StatusChange.{StatusChange}
use Rattle.rclaim.specs.declared.changes.GrantChange.{GrantChange}

-- the claims whose status differs from before, and the requests that hold more than before
pub record ChangeLists : Type 0 where
  pub statuses : List StatusChange
  pub grants : List GrantChange

-- they are coded as the pair of the lists
abbrev pub changes_code : Coded ChangeLists
changes_code =
    code_by (List StatusChange × List GrantChange) (coded× (coded_list status_change_code) (coded_list grant_change_code))
    (λ c. (c.statuses, c.grants))
    (λ p. record { statuses = p.0; grants = p.1 })
    (λ _. refl)

-- nothing changes
abbrev pub no_changes : ChangeLists
no_changes = record { statuses = []; grants = [] }
