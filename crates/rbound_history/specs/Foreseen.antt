-- Which waits a request may have: those that have a bound.
use Rattle.std.specs.Prelude.{◌≡◌, ◌<◌, ℕ, length, Some, IsSome}
use Rattle.rclaim.specs.declared.request.Kind.TheVariants.{Upgrade, Nested}
use Rattle.rbound.specs.Needs.{Needs}
use Rattle.rbound.specs.TaskNeeds.{kind_at, asks_at}
use Rattle.rbound.specs.declared.which.Which.{Which}
use Rattle.rbound.specs.declared.which.Which.TheVariants.{First, Rise, Ask}

-- the task needs a request with this number, which may have this wait: every request its first, an upgrade its rise, and a nested one a wait for each of its asks
abbrev pub MayHave : Needs → ℕ → ℕ → Which → Type 0
MayHave needs task number First = IsSome (kind_at needs task number)
MayHave needs task number Rise = kind_at needs task number ≡ Some Upgrade
MayHave needs task number (Ask i) = (kind_at needs task number ≡ Some Nested) × (i < length (asks_at needs task number))
