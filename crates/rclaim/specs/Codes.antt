-- How proofs distinguish values that hold sets: each is coded by its parts.
use Rattle.std.specs.Prelude.{◌≡◌, ℕ, ◌==◌, Bool, refl, if◌then◌else◌}
use Rattle.std.specs.Coded.{Coded, code_by, coded_ℕ, coded_bool, coded×}
use Rattle.std.specs.FinSet as set
use Rattle.rset.specs.Sets.{Set}
use Rattle.rclaim.specs.declared.request.Kind.{Kind}
use Rattle.rclaim.specs.declared.request.Kind.TheVariants.{Read, Write, Mixed, Upgrade, Nested}
use Rattle.rclaim.specs.declared.claim.Status.{Status}
use Rattle.rclaim.specs.declared.claim.Status.TheVariants.{Waiting, Entitled, Satisfied}
use Rattle.rclaim.specs.declared.changes.StatusChange.{StatusChange}
use Rattle.rclaim.specs.declared.changes.GrantChange.{GrantChange}

abbrev pub set_code : Coded Set
set_code = set.code coded_ℕ

-- a kind is coded as a number
abbrev pub kind_number : Kind → ℕ
kind_number Read = 0
kind_number Write = 1
kind_number Mixed = 2
kind_number Upgrade = 3
kind_number Nested = 4

abbrev pub kind_of : ℕ → Kind
kind_of n = if n == 0 then Read else (if n == 1 then Write else (if n == 2 then Mixed else (if n == 3 then Upgrade else Nested)))

pub kind_of-kind_number : (k : Kind) → kind_of (kind_number k) ≡ k
kind_of-kind_number Read = refl
kind_of-kind_number Write = refl
kind_of-kind_number Mixed = refl
kind_of-kind_number Upgrade = refl
kind_of-kind_number Nested = refl

abbrev pub kind_code : Coded Kind
kind_code = code_by ℕ coded_ℕ kind_number kind_of kind_of-kind_number

-- a status is coded as a number
abbrev pub number_of : Status → ℕ
number_of Waiting = 0
number_of Entitled = 1
number_of Satisfied = 2

abbrev pub status_of : ℕ → Status
status_of n = if n == 0 then Waiting else (if n == 1 then Entitled else Satisfied)

pub status_of-number_of : (s : Status) → status_of (number_of s) ≡ s
status_of-number_of Waiting = refl
status_of-number_of Entitled = refl
status_of-number_of Satisfied = refl

abbrev pub status_code : Coded Status
status_code = code_by ℕ coded_ℕ number_of status_of status_of-number_of

abbrev pub status_change_code : Coded StatusChange
status_change_code =
    code_by (ℕ × (Bool × Status)) (coded× coded_ℕ (coded× coded_bool status_code))
    (λ c. (c.seat, (c.write_half, c.status)))
    (λ p. record { seat = p.0; write_half = p.1.0; status = p.1.1 })
    (λ _. refl)

abbrev pub grant_change_code : Coded GrantChange
grant_change_code =
    code_by (ℕ × (Set × Set)) (coded× coded_ℕ (coded× set_code set_code))
    (λ c. (c.seat, (c.reads, c.writes)))
    (λ p. record { seat = p.0; reads = p.1.0; writes = p.1.1 })
    (λ _. refl)
