-- Who is in the grants of a step.
use Rattle.std.specs.Prelude.{ℕ, Bool, ◌==◌, List}
use Rattle.std.specs.List.{list_any}
use Rattle.rclaim.specs.declared.changes.GrantChange.{GrantChange}

-- some grant is to this seat
abbrev pub has_grant : List GrantChange → ℕ → Bool
has_grant gs seat = list_any (λ g. seat == g.seat) gs
