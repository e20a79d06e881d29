-- Names of tables are short.
use Rattle.std.proofs.Common.{◌≡◌, ℕ, ◌≤◌, true, List, [], ◌∷◌, length, Some, arith, nat_lt, ◌&&◌}
use Rattle.std.proofs.lemmas.Bool.{and_parts, ltb-true}
use Rattle.std.specs.Prelude.{slice_get}
use Rattle.std.specs.List.{list_all}
use Rattle.rset.specs.declared.TheConstants.{LONGEST_NAME}
use Rattle.rset.specs.Names.{is_name, is_table, is_letter, is_name_byte}
use Rattle.rset.proofs.NameLemmas.{table_name_at}

short_name : (name : List ℕ) → is_name name ≡ true → length name ≤ LONGEST_NAME
unfolding is_name
short_name [] is = omega arith
short_name (c ∷ cs) is =
    let front = (and_parts (is_letter c && nat_lt (length cs) LONGEST_NAME) (list_all is_name_byte cs) is).0 in
    let few = ltb-true (length cs) LONGEST_NAME (and_parts (is_letter c) (nat_lt (length cs) LONGEST_NAME) front).1 in
    omega arith

-- a name of a table fits into a row
pub table_name_short : (limit : ℕ) (names : List (List ℕ)) (n : ℕ) (name : List ℕ) → is_table limit names ≡ true → slice_get names n ≡ Some name → length name ≤ LONGEST_NAME
table_name_short limit names n name table at = short_name name (table_name_at limit names name n table at)
