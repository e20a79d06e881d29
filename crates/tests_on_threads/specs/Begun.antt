-- Seats in a section of a nested request or of an upgrade, by their own entries.
use Rattle.std.specs.Prelude.{◌≡◌, ℕ, Some}
use Rattle.std.specs.FinSet.{empty, insert, union}
use Rattle.rset.specs.Sets.{Set}
use Rattle.rclaim.specs.Requests.{RequestFields, normalised}
use Rattle.rclaim.specs.declared.request.Kind.TheVariants as kinds
use Rattle.rguard.specs.Seats.{SeatOf}
use Rattle.rrun.specs.Working.{section_made}
use Rattle.rscript.specs.Statements.{begun}

-- the set of this resource alone
abbrev pub single : ℕ → Set
single l = insert empty l

-- a nested request that writes two resources, and holds one of them at first
abbrev pub nesting : ℕ → ℕ → RequestFields
nesting one other = normalised kinds.Nested empty (union (single one) (single other)) (single one) 1 0

-- an upgrade that reads a set, and writes it once it has risen
abbrev pub raising : Set → RequestFields
raising set = normalised kinds.Upgrade set set set 1 1

-- the request that the seat has issued last is this, and it has made no entry since
abbrev pub HasBegunLast : {V E : Type 0} → RequestFields → SeatOf V E → Type 0
HasBegunLast r seat = section_made seat.mine ≡ Some (begun r)
