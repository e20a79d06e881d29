-- What is in a table is plain text.
use Rattle.std.proofs.Common.{rules, ◌≡◌, ◌<◌, ◌≤◌, ◌&&◌, ◌||◌, ◌==◌, ℕ, zero, suc, Bool, true, false, List, [], ◌∷◌, length, Option, Some, refl, sym, ap, subst, ◌∙◌, arith}
use Rattle.std.specs.Prelude.{slice_get, slice_index, nat_le, nat_lt}
use Rattle.std.specs.List.{list_all}
use Rattle.std.specs.Str.{IsAscii, IsUtf8}
use Rattle.std.proofs.lemmas.Str.{IsUtf8-from_ascii}
use Rattle.rset.specs.declared.TheConstants.{LONGEST_NAME}
use Rattle.rset.specs.Names.{is_letter, is_name_byte, is_name, is_table, all_differ}

and_left : (a b : Bool) → (a && b) ≡ true → a ≡ true
and_left true b h = refl
and_left false b h = absurd cc

and_right : (a b : Bool) → (a && b) ≡ true → b ≡ true
and_right true b h = h
and_right false b h = absurd cc

byte_small : (c : ℕ) → is_name_byte c ≡ true → c < 128
byte_small c h = search rules

all_small : (cs : List ℕ) → list_all is_name_byte cs ≡ true → (i : ℕ) → slice_index cs i < 128
all_small [] h i = search rules
all_small (c ∷ cs) h zero = byte_small c (and_left (is_name_byte c) (list_all is_name_byte cs) h)
all_small (c ∷ cs) h (suc i) = all_small cs (and_right (is_name_byte c) (list_all is_name_byte cs) h) i

name_small : (name : List ℕ) → is_name name ≡ true → IsAscii name
unfolding is_name
name_small [] h i = search rules
name_small (c ∷ cs) h zero = byte_small c (ap (λ b. b || (nat_le 48 c && nat_le c 57) || (c == 95)) (and_left (is_letter c) (nat_lt (length cs) LONGEST_NAME) (and_left (is_letter c && nat_lt (length cs) LONGEST_NAME) (list_all is_name_byte cs) h)))
name_small (c ∷ cs) h (suc i) = all_small cs (and_right (is_letter c && nat_lt (length cs) LONGEST_NAME) (list_all is_name_byte cs) h) i

table_names : (names : List (List ℕ)) → list_all is_name names ≡ true → (k : ℕ) (name : List ℕ) → slice_get names k ≡ Some name → is_name name ≡ true
table_names [] h k name there = search rules
table_names (x ∷ xs) h zero name there = search rules
table_names (x ∷ xs) h (suc k) name there = table_names xs (and_right (is_name x) (list_all is_name xs) h) k name there

pub name_utf8 : (limit : ℕ) (names : List (List ℕ)) → is_table limit names ≡ true → (k : ℕ) (name : List ℕ) → slice_get names k ≡ Some name → IsUtf8 name
unfolding is_table
name_utf8 limit names h k name there = IsUtf8-from_ascii name (name_small name (table_names names (and_left (list_all is_name names) (all_differ names) (and_left (list_all is_name names && all_differ names) (nat_le (length names) limit) h)) k name there))
