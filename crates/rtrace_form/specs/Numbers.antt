-- The numbers in fields: lengths and caps.
use Rattle.std.specs.Prelude.{ℕ, ◌+◌, ◌-◌, ◌*◌, ◌^◌, Bool, ◌&&◌, nat_le, nat_lt, List, [], ◌∷◌, length, Option, Some, None, option_and_then, if◌then◌else◌}
use Rattle.std.specs.List.{list_all}
use Rattle.rset.specs.declared.TheConstants.{SEATS}
use Rattle.rclaim.specs.declared.TheConstants.{LENGTH_LIMIT}

-- a decimal digit
abbrev pub is_digit : ℕ → Bool
is_digit c = nat_le 48 c && nat_le c 57

-- the number that the digits write after those of n
abbrev pub read_on : ℕ → List ℕ → ℕ
read_on n [] = n
read_on n (c ∷ cs) = read_on (10 * n + (c - 48)) cs

-- the number with a digit at its end, if it is a digit and a `u64` holds the number
abbrev pub digit_behind : ℕ → ℕ → Option ℕ
digit_behind n c = if is_digit c && nat_lt (10 * n + (c - 48)) (2 ^ 64) then Some (10 * n + (c - 48)) else None

-- a number is 1 to 20 digits, and below 2 ^ 64
abbrev pub is_number : List ℕ → Bool
is_number field = nat_lt 0 (length field) && nat_le (length field) 20 && list_all is_digit field && nat_lt (read_on 0 field) (2 ^ 64)

-- the number in a field, if it is one
abbrev pub number_told : List ℕ → Option ℕ
number_told field = if is_number field then Some (read_on 0 field) else None

-- the length in a field, if it is a number within the limit
unfoldable pub length_told : List ℕ → Option ℕ
length_told field = option_and_then (λ n. if nat_le n LENGTH_LIMIT then Some n else None) (number_told field)

-- a cap is a number from 1 to the number of seats
abbrev pub cap_within : ℕ → Option ℕ
cap_within n = if nat_le 1 n && nat_le n SEATS then Some n else None

-- the cap in a field, if it is one
unfoldable pub cap_told : List ℕ → Option ℕ
cap_told field = option_and_then cap_within (number_told field)
