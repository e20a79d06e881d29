-- Names and tables of them. A name is the list of its bytes, and a table is the list of its names.
use Rattle.std.specs.Prelude.{ℕ, Bool, true, false, not, ◌&&◌, ◌||◌, ◌==◌, nat_lt, nat_le, List, [], ◌∷◌, length, Option}
use Rattle.std.specs.List.{list_any, list_all, position_from}
use Rattle.std.specs.Cmp.Lexicographic.{pointwise}
use Rattle.rset.specs.declared.TheConstants.{LONGEST_NAME}
use Rattle.rset.specs.declared.names.NameErr.{NameErr}
use Rattle.rset.specs.declared.names.NameErr.TheVariants.{BadName, Repeated, TooMany, Memory}

-- a lower-case letter
abbrev pub is_letter : ℕ → Bool
is_letter c = nat_le 97 c && nat_le c 122

-- a lower-case letter, a digit or the underscore
abbrev pub is_name_byte : ℕ → Bool
is_name_byte c = is_letter c || (nat_le 48 c && nat_le c 57) || (c == 95)

-- a name begins with a letter, is not too long, and has such bytes alone
unfoldable pub is_name : List ℕ → Bool
is_name [] = false
is_name (c ∷ cs) = is_letter c && nat_lt (length cs) LONGEST_NAME && list_all is_name_byte cs

-- the same bytes
abbrev pub same_name : List ℕ → List ℕ → Bool
same_name = pointwise ◌==◌

-- the number of a name in a table: names are numbered from 0 in the order in which they were added
unfoldable pub number_in : List (List ℕ) → List ℕ → Option ℕ
number_in names name = position_from (same_name name) 0 names

-- the name is in the table
unfoldable pub knows : List (List ℕ) → List ℕ → Bool
knows names name = list_any (same_name name) names

-- no name stands twice
unfoldable pub all_differ : List (List ℕ) → Bool
all_differ [] = true
all_differ (x ∷ xs) = not (knows xs x) && all_differ xs

-- a table has different names, each of them a name, and no more than this many
unfoldable pub is_table : ℕ → List (List ℕ) → Bool
is_table limit names = list_all is_name names && all_differ names && nat_le (length names) limit

-- the number of a refusal
abbrev pub refusal_number : NameErr → ℕ
refusal_number BadName = 1
refusal_number Repeated = 2
refusal_number TooMany = 3
refusal_number Memory = 4
