-- What is read of fields may be written.
use Rattle.std.proofs.Common.{◌≡◌, ◌<◌, ◌≤◌, ◌^◌, ◌∷◌, [], ◌==◌, ◌&&◌, ℕ, Bool, true, false, cond, codes, List, length, Option, Some, None, nat_lt, nat_le, refl, sym, ap, subst, ◌∙◌}
use Rattle.std.specs.List.{list_all, slice_split}
use Rattle.std.specs.Str.{bytes_eq}
use Rattle.std.specs.FinSet.{empty, insert}
use Rattle.std.proofs.lemmas.Bool.{and_parts, leb-true, ltb-true}
use Rattle.rset.specs.Names.{number_in}
use Rattle.rset.specs.Sets.{Set, all_below}
use Rattle.rset.specs.declared.TheConstants.{SEATS}
use Rattle.rset.proofs.NameLemmas.{number_below}
use Rattle.rset.proofs.SetLemmas.{all_below_empty, all_below_insert}
use Rattle.rclaim.specs.declared.TheConstants.{LENGTH_LIMIT}
use Rattle.rtrace_form.specs.Records.{Row}
use Rattle.rtrace_form.specs.Numbers.{is_digit, read_on, is_number, number_told, length_told, cap_within, cap_told}
use Rattle.rtrace_form.specs.SetFields.{gather, set_told}
use Rattle.rtrace_form.specs.Fields.{Names, Field, Said, Fresh, OneResource, OneTask, Members, Number, Length, Limit, Values, paired, read, AllGood}
use Rattle.rtrace_form.proofs.facts.Choices.{some_is, some_none, and_then_some, map_some}

-- what was paired was there
pub pair_some : {X Y : Type 0} (a : Option X) (b : Option Y) (p : X × Y) → paired a b ≡ Some p → (a ≡ Some p.0) × (b ≡ Some p.1)
pair_some None b p h = absurd (some_none h)
pair_some (Some x) None p h = absurd (some_none h)
pair_some (Some x) (Some y) p h = let is = some_is h in (ap (λ (q : _ × _). Some q.0) is, ap (λ (q : _ × _). Some q.1) is)

pub chosen : {X : Type 0} (b : Bool) (x y : X) → cond b (Some x) None ≡ Some y → (b ≡ true) × (x ≡ y)
chosen true x y h = (refl, some_is h)
chosen false x y h = absurd (some_none h)

number_small : (field : List ℕ) (n : ℕ) → number_told field ≡ Some n → n < 2 ^ 64
number_small field n h =
    let told = chosen (is_number field) (read_on 0 field) n h in
    let below = (and_parts (nat_lt 0 (length field) && nat_le (length field) 20 && list_all is_digit field) (nat_lt (read_on 0 field) (2 ^ 64)) told.0).1 in
    ltb-true n (2 ^ 64) (ap (λ m. nat_lt m (2 ^ 64)) (sym told.1) ∙ below)

length_small : (field : List ℕ) (n : ℕ) → length_told field ≡ Some n → n ≤ LENGTH_LIMIT
unfolding length_told
length_small field n h =
    let told = and_then_some (λ m. cond (nat_le m LENGTH_LIMIT) (Some m) None) (number_told field) n h in
    let within = chosen (nat_le told.0 LENGTH_LIMIT) told.0 n told.2 in
    leb-true n LENGTH_LIMIT (ap (λ m. nat_le m LENGTH_LIMIT) (sym within.1) ∙ within.0)

cap_small : (field : List ℕ) (n : ℕ) → cap_told field ≡ Some n → (1 ≤ n) × (n ≤ SEATS)
unfolding cap_told
cap_small field n h =
    let told = and_then_some cap_within (number_told field) n h in
    let within = chosen (nat_le 1 told.0 && nat_le told.0 SEATS) told.0 n told.2 in
    let both = and_parts (nat_le 1 n) (nat_le n SEATS) (ap (λ m. nat_le 1 m && nat_le m SEATS) (sym within.1) ∙ within.0) in
    (leb-true 1 n both.0, leb-true n SEATS both.1)

gather_small : (names : List (List ℕ)) (pieces : List (List ℕ)) (s t : Set) → all_below (length names) s ≡ true → gather names s pieces ≡ Some t → all_below (length names) t ≡ true
unfolding gather
gather_small names [] s t below h = subst (λ (x : Set). all_below (length names) x ≡ true) (some_is h) below
gather_small names (piece ∷ pieces) s t below h =
    let told = and_then_some (λ n. gather names (insert s n) pieces) (number_in names piece) t h in
    gather_small names pieces (insert s told.0) t (all_below_insert (length names) s told.0 below (number_below names piece told.0 told.1)) told.2

set_small : (names : List (List ℕ)) (field : List ℕ) (s : Set) → set_told names field ≡ Some s → all_below (length names) s ≡ true
unfolding set_told
set_small names field s h = at (bytes_eq field (codes "-")) h
  where
    at : (b : Bool) → cond b (Some empty) (gather names empty (slice_split (λ c. c == 43) field)) ≡ Some s → all_below (length names) s ≡ true
    at true e = subst (λ (x : Set). all_below (length names) x ≡ true) (some_is e) (all_below_empty (length names))
    at false e = gather_small names (slice_split (λ c. c == 43) field) empty s (all_below_empty (length names)) e

pub read_good : (names : Names) (fs : List Field) (row : Row) (v : Values fs) → read names fs row ≡ Some v → AllGood names fs v
unfolding read
read_good names [] row v h = tt
read_good names (f ∷ fs) [] v h = absurd (some_none h)
read_good names (Said word ∷ fs) (x ∷ row) v h = read_good names fs row v h
read_good names (Fresh ∷ fs) (x ∷ row) v h =
    let told = map_some (λ b. (x, b)) (read names fs row) v h in
    read_good names fs row v.1 (told.1 ∙ ap (λ (q : List ℕ × Values fs). Some q.1) told.2)
read_good names (OneResource ∷ fs) (x ∷ row) v h =
    let told = pair_some (number_in names.resources x) (read names fs row) v h in (number_below names.resources x v.0 told.0, read_good names fs row v.1 told.1)
read_good names (OneTask ∷ fs) (x ∷ row) v h =
    let told = pair_some (number_in names.tasks x) (read names fs row) v h in (number_below names.tasks x v.0 told.0, read_good names fs row v.1 told.1)
read_good names (Members ∷ fs) (x ∷ row) v h =
    let told = pair_some (set_told names.resources x) (read names fs row) v h in (set_small names.resources x v.0 told.0, read_good names fs row v.1 told.1)
read_good names (Number ∷ fs) (x ∷ row) v h =
    let told = pair_some (number_told x) (read names fs row) v h in (number_small x v.0 told.0, read_good names fs row v.1 told.1)
read_good names (Length ∷ fs) (x ∷ row) v h =
    let told = pair_some (length_told x) (read names fs row) v h in (length_small x v.0 told.0, read_good names fs row v.1 told.1)
read_good names (Limit ∷ fs) (x ∷ row) v h =
    let told = pair_some (cap_told x) (read names fs row) v h in (cap_small x v.0 told.0, read_good names fs row v.1 told.1)
