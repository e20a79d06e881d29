-- What is drawn: the numbers, the lock that a drill begins with, and the requests.
use Rattle.std.specs.Prelude.{ℕ, ◌+◌, ◌*◌, ◌%◌, ◌==◌, [], ◌∷◌, if◌then◌else◌}
use Rattle.std.specs.FinSet.{empty, insert}
use Rattle.rset.specs.Sets.{Set}
use Rattle.rexpand.specs.Groups.{ReadGroups}
use Rattle.rclaim.specs.Requests.{RequestFields, normalised}
use Rattle.rclaim.specs.declared.request.Kind.{Kind}
use Rattle.rclaim.specs.declared.request.Kind.TheVariants.{Read, Write, Mixed, Upgrade, Nested}
use Rattle.rmodel.specs.State.{LockState, opening}

-- how many seats and resources a drill has, and how many of the resources have a next one
abbrev pub drill_seats : ℕ
drill_seats = 8

abbrev pub drill_resources : ℕ
drill_resources = 8

abbrev pub drill_pairs : ℕ
drill_pairs = 7

-- every drawing number is below it
abbrev pub modulus : ℕ
modulus = 65537

-- the drawing number after one more draw
abbrev pub next_draw : ℕ → ℕ
next_draw x = (75 * x + 74) % modulus

-- this resource alone, and this resource with the next one
abbrev pub one : ℕ → Set
one l = insert empty l

abbrev pub pair : ℕ → Set
pair l = insert (one l) (l + 1)

-- eight resources; each shares a group with the next
abbrev pub drill_groups : ReadGroups
drill_groups = record { q = drill_resources; groups = pair 0 ∷ pair 1 ∷ pair 2 ∷ pair 3 ∷ pair 4 ∷ pair 5 ∷ pair 6 ∷ [] }

-- the lock that a drill begins with: eight seats, each of which may have a request
abbrev pub drill_opening : LockState
drill_opening = opening drill_groups drill_seats drill_seats

-- the kind of request that a draw from five gives
abbrev pub kind_drawn : ℕ → Kind
kind_drawn n =
    if n == 0 then Read
    else if n == 1 then Write
    else if n == 2 then Mixed
    else if n == 3 then Upgrade
    else Nested

-- the request of this kind about a resource and the next one, with sections of length 1
abbrev pub request_for : Kind → ℕ → RequestFields
request_for Read l = normalised Read (pair l) empty empty 1 0
request_for Write l = normalised Write empty (one l) empty 1 0
request_for Mixed l = normalised Mixed (one (l + 1)) (one l) empty 1 0
request_for Upgrade l = normalised Upgrade (pair l) empty empty 1 1
request_for Nested l = normalised Nested empty (pair l) (one l) 1 0
