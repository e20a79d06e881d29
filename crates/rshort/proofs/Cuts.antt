-- Records that are cut have the codes that they had.
use Rattle.std.proofs.Common.{◌≡◌, ℕ, ◌==◌, ◌&&◌, ◌||◌, not, Bool, true, false, cond, List, [], ◌∷◌, drop, length, Option, Some, None, nat_le, inl, inr, refl, sym, ap, subst, ◌∙◌, arith}
use Rattle.std.specs.Prelude.{option_map, is_none, find}
use Rattle.std.specs.List.{list_all}
use Rattle.std.proofs.lemmas.Bool.{true≢false, and_parts, not-true, leb-true, false_from_ne_true}
use Rattle.rset.specs.Names.{is_name, knows}
use Rattle.rset.specs.declared.TheConstants.{RESOURCES, SEATS}
use Rattle.rset.proofs.NameLemmas.{table_names, table_length}
use Rattle.rclaim.specs.declared.request.Kind.TheVariants as kinds
use Rattle.rtrace_form.specs.Records.{Row}
use Rattle.rtrace_form.specs.Fields.{Names, AreTables, Field, Said, Fresh, OneResource, OneTask, Members, Number, Length, Limit, Values, is_as_long, is_said, are_said, has_form, is_counted, all_counted, paired, read}
use Rattle.rtrace_form.specs.Words.{fields_of, words_of, word_in}
use Rattle.rtrace_form.specs.Lines.{Line, HasResource, HasTask, line_by, meant_as, meaning}
use Rattle.rtrace_form.specs.Walks.{when, first_of, or_else}
use Rattle.rtrace_form.specs.SoFar.{SoFar, names_in, with_meaning, with_row}
use Rattle.rtrace_form.specs.Faults.{is_badly_declared, is_group_more, line_causes, line_code, code_of_meaning, code_by, code_of}
use Rattle.rtrace_form.specs.declared.word.Stage.TheVariants as stage
use Rattle.rtrace_form.specs.declared.word.Word.{Word}
use Rattle.rtrace_form.specs.declared.word.Word.TheVariants as word
use Rattle.rtrace_form.specs.declared.fault.Code.{Code}
use Rattle.rtrace_form.specs.declared.fault.Code.TheVariants.{BadField}
use Rattle.rtrace_form.proofs.facts.Choices.{some_none}
use Rattle.rshort.specs.Cut.{has_joint, IsCut, AreCut, HasTooMany, IsCutRow}
use Rattle.rshort.proofs.Pieces.{IsBad, SameOrBad, same_or_bad, same_word, same_is_number, same_number, same_length, same_cap, same_number_in, same_set, no_name}

-- ---- what a record is

-- no word is longer than 20 bytes, or has a `+`
abbrev is_short_word : Field → Bool
is_short_word (Said w) = nat_le (length w) 20 && not (has_joint w)
is_short_word _ = true

abbrev IsShort : List Field → Type 0
IsShort [] = Unit {0}
IsShort (f ∷ fs) = (is_short_word f ≡ true) × IsShort fs

-- the words of a record are short, and it has no more than nine fields
short_words : (w : Word) → IsShort (fields_of w) × (nat_le (length (fields_of w)) 9 ≡ true)
short_words word.Version = ((refl, (refl, tt)), refl)
short_words word.Resource = ((refl, (refl, tt)), refl)
short_words word.Group = ((refl, (refl, tt)), refl)
short_words word.Task = ((refl, (refl, tt)), refl)
short_words word.Cap = ((refl, (refl, tt)), refl)
short_words (word.Issue kinds.Read) = ((refl, (refl, (refl, (refl, (refl, tt))))), refl)
short_words (word.Issue kinds.Write) = ((refl, (refl, (refl, (refl, (refl, tt))))), refl)
short_words (word.Issue kinds.Mixed) = ((refl, (refl, (refl, (refl, (refl, (refl, tt)))))), refl)
short_words (word.Issue kinds.Upgrade) = ((refl, (refl, (refl, (refl, (refl, (refl, tt)))))), refl)
short_words (word.Issue kinds.Nested) = ((refl, (refl, (refl, (refl, (refl, (refl, (refl, tt))))))), refl)
short_words word.Finish = ((refl, (refl, tt)), refl)
short_words word.Rise = ((refl, (refl, tt)), refl)
short_words word.Ask = ((refl, (refl, (refl, tt))), refl)
short_words word.Show = ((refl, (refl, (refl, tt))), refl)
short_words (word.Add true) = ((refl, (refl, (refl, (refl, tt)))), refl)
short_words (word.Add false) = ((refl, (refl, (refl, (refl, tt)))), refl)
short_words (word.Take true) = ((refl, (refl, (refl, (refl, tt)))), refl)
short_words (word.Take false) = ((refl, (refl, (refl, (refl, tt)))), refl)
short_words (word.Put true) = ((refl, (refl, (refl, (refl, tt)))), refl)
short_words (word.Put false) = ((refl, (refl, (refl, (refl, tt)))), refl)
short_words (word.Entitled true) = ((refl, (refl, (refl, (refl, tt)))), refl)
short_words (word.Entitled false) = ((refl, (refl, (refl, (refl, tt)))), refl)
short_words (word.Satisfied true) = ((refl, (refl, (refl, (refl, tt)))), refl)
short_words (word.Satisfied false) = ((refl, (refl, (refl, (refl, tt)))), refl)
short_words word.Grant = ((refl, (refl, (refl, tt))), refl)
short_words (word.Wait stage.First) = ((refl, (refl, (refl, (refl, (refl, (refl, (refl, (refl, (refl, tt))))))))), refl)
short_words (word.Wait stage.Rise) = ((refl, (refl, (refl, (refl, (refl, (refl, (refl, (refl, (refl, tt))))))))), refl)
short_words (word.Wait stage.Ask) = ((refl, (refl, (refl, (refl, (refl, (refl, (refl, (refl, (refl, tt))))))))), refl)
short_words word.Ledger = ((refl, (refl, (refl, (refl, tt)))), refl)
short_words word.End = ((refl, tt), refl)

same_said : (f : Field) (x y : List ℕ) → is_short_word f ≡ true → IsCut x y → is_said f x ≡ is_said f y
same_said (Said w) x y short is =
    let parts = and_parts (nat_le (length w) 20) (not (has_joint w)) short in
    same_word w x y (leb-true (length w) 20 parts.0) (not-true (has_joint w) parts.1) (same_or_bad x y is)
same_said Fresh x y short is = refl
same_said OneResource x y short is = refl
same_said OneTask x y short is = refl
same_said Members x y short is = refl
same_said Number x y short is = refl
same_said Length x y short is = refl
same_said Limit x y short is = refl

same_long : (fs : List Field) (row cut : Row) → AreCut row cut → is_as_long fs row ≡ is_as_long fs cut
same_long [] [] cut are = ap (is_as_long []) (sym are)
same_long [] (x ∷ row) cut are = ap (is_as_long []) (sym are.2)
same_long (f ∷ fs) [] cut are = ap (is_as_long (f ∷ fs)) (sym are)
same_long (f ∷ fs) (x ∷ row) cut are = same_long fs row are.1 are.4 ∙ ap (is_as_long (f ∷ fs)) (sym are.2)

same_saids : (fs : List Field) (row cut : Row) → IsShort fs → AreCut row cut → are_said fs row ≡ are_said fs cut
same_saids [] row cut short are = refl
same_saids (f ∷ fs) [] cut short are = ap (are_said (f ∷ fs)) (sym are)
same_saids (f ∷ fs) (x ∷ row) cut short are =
    (λ i. same_said f x are.0 short.0 are.3 i && same_saids fs row are.1 short.1 are.4 i) ∙ ap (are_said (f ∷ fs)) (sym are.2)

same_form : (w : Word) (row cut : Row) → AreCut row cut → has_form (fields_of w) row ≡ has_form (fields_of w) cut
unfolding has_form
same_form w row cut are = λ i. same_long (fields_of w) row cut are i && same_saids (fields_of w) row cut (short_words w).0 are i

found_same : {X : Type 0} (p q : X → Bool) → ((x : X) → p x ≡ q x) → (xs : List X) → find p xs ≡ find q xs
found_same p q same [] = refl
found_same p q same (x ∷ xs) = λ i. cond (same x i) (Some x) (found_same p q same xs i)

same_word_in : (whole : Bool) (row cut : Row) → AreCut row cut → word_in whole row ≡ word_in whole cut
unfolding word_in
same_word_in whole row cut are = found_same (λ w. has_form (fields_of w) row) (λ w. has_form (fields_of w) cut) (λ w. same_form w row cut are) (words_of whole)

-- a record with too many fields is none
long_fields : (fs : List Field) (row : Row) → is_as_long fs row ≡ true → length row ≡ length fs
long_fields [] [] h = refl
long_fields [] (x ∷ row) h = absurd (true≢false (sym h))
long_fields (f ∷ fs) [] h = absurd (true≢false (sym h))
long_fields (f ∷ fs) (x ∷ row) h = let e = long_fields fs row h in omega (arith, e)

found_none : {X : Type 0} (p : X → Bool) → ((x : X) → p x ≡ false) → (xs : List X) → find p xs ≡ None
found_none p none [] = refl
found_none p none (x ∷ xs) = ap (λ (b : Bool). cond b (Some x) (find p xs)) (none x) ∙ found_none p none xs

too_many : (whole : Bool) (row : Row) → HasTooMany row → word_in whole row ≡ None
unfolding word_in has_form
too_many whole row many = found_none (λ w. is_as_long (fields_of w) row && are_said (fields_of w) row) (λ w. ap (λ (b : Bool). b && are_said (fields_of w) row) (not_form w)) (words_of whole)
  where
    not_form : (w : Word) → is_as_long (fields_of w) row ≡ false
    not_form w = false_from_ne_true (is_as_long (fields_of w) row) (λ h. let e = long_fields (fields_of w) row h in let few = leb-true (length (fields_of w)) 9 (short_words w).1 in absurd (omega (arith, e, few, many)))

-- ---- what it says

same_counted : (f : Field) (x y : List ℕ) → IsCut x y → is_counted f x ≡ is_counted f y
same_counted Number x y is = same_is_number x y (same_or_bad x y is)
same_counted Length x y is = ap (λ (o : Option ℕ). not (is_none o)) (same_length x y (same_or_bad x y is))
same_counted Limit x y is = ap (λ (o : Option ℕ). not (is_none o)) (same_cap x y (same_or_bad x y is))
same_counted (Said w) x y is = refl
same_counted Fresh x y is = refl
same_counted OneResource x y is = refl
same_counted OneTask x y is = refl
same_counted Members x y is = refl

all_same_counted : (fs : List Field) (row cut : Row) → AreCut row cut → all_counted fs row ≡ all_counted fs cut
unfolding all_counted
all_same_counted [] row cut are = refl
all_same_counted (f ∷ fs) [] cut are = ap (all_counted (f ∷ fs)) (sym are)
all_same_counted (f ∷ fs) (x ∷ row) cut are = (λ i. same_counted f x are.0 are.3 i && all_same_counted fs row are.1 are.4 i) ∙ ap (all_counted (f ∷ fs)) (sym are.2)

-- the names that a record declares are the same
abbrev SameFresh : List Field → Row → Row → Type 0
SameFresh [] row cut = Unit {0}
SameFresh (f ∷ fs) [] cut = Unit {0}
SameFresh (f ∷ fs) (x ∷ row) [] = Unit {0}
SameFresh (Fresh ∷ fs) (x ∷ row) (y ∷ cut) = (x ≡ y) × SameFresh fs row cut
SameFresh (Said w ∷ fs) (x ∷ row) (y ∷ cut) = SameFresh fs row cut
SameFresh (OneResource ∷ fs) (x ∷ row) (y ∷ cut) = SameFresh fs row cut
SameFresh (OneTask ∷ fs) (x ∷ row) (y ∷ cut) = SameFresh fs row cut
SameFresh (Members ∷ fs) (x ∷ row) (y ∷ cut) = SameFresh fs row cut
SameFresh (Number ∷ fs) (x ∷ row) (y ∷ cut) = SameFresh fs row cut
SameFresh (Length ∷ fs) (x ∷ row) (y ∷ cut) = SameFresh fs row cut
SameFresh (Limit ∷ fs) (x ∷ row) (y ∷ cut) = SameFresh fs row cut

module _ (names : Names) (tables : AreTables names) where
  resources : list_all is_name names.resources ≡ true
  resources = table_names RESOURCES names.resources tables.resources

  tasks : list_all is_name names.tasks ≡ true
  tasks = table_names SEATS names.tasks tables.tasks

  same_first : (f : Field) (fs : List Field) (x : List ℕ) (row : Row) (y : List ℕ) (cut : Row) → IsCut x y → (SameFresh fs row cut → read names fs row ≡ read names fs cut)
      → SameFresh (f ∷ fs) (x ∷ row) (y ∷ cut) → read names (f ∷ fs) (x ∷ row) ≡ read names (f ∷ fs) (y ∷ cut)
  unfolding read
  same_first (Said w) fs x row y cut is rest same = rest same
  same_first Fresh fs x row y cut is rest same = λ i. option_map (λ (b : Values fs). (same.0 i, b)) (rest same.1 i)
  same_first OneResource fs x row y cut is rest same = λ i. paired (same_number_in names.resources resources x y (same_or_bad x y is) i) (rest same i)
  same_first OneTask fs x row y cut is rest same = λ i. paired (same_number_in names.tasks tasks x y (same_or_bad x y is) i) (rest same i)
  same_first Members fs x row y cut is rest same = λ i. paired (same_set names.resources resources (table_length RESOURCES names.resources tables.resources) x y is i) (rest same i)
  same_first Number fs x row y cut is rest same = λ i. paired (same_number x y (same_or_bad x y is) i) (rest same i)
  same_first Length fs x row y cut is rest same = λ i. paired (same_length x y (same_or_bad x y is) i) (rest same i)
  same_first Limit fs x row y cut is rest same = λ i. paired (same_cap x y (same_or_bad x y is) i) (rest same i)

  same_read : (fs : List Field) (row cut : Row) → AreCut row cut → SameFresh fs row cut → read names fs row ≡ read names fs cut
  unfolding read
  same_read [] [] cut are same = ap (read names []) (sym are)
  same_read [] (x ∷ row) cut are same = ap (read names []) (sym are.2)
  same_read (f ∷ fs) [] cut are same = ap (read names (f ∷ fs)) (sym are)
  same_read (f ∷ fs) (x ∷ row) cut are same =
      same_first f fs x row are.0 are.1 are.3 (same_read fs row are.1 are.4) (subst (SameFresh (f ∷ fs) (x ∷ row)) are.2 same) ∙ ap (read names (f ∷ fs)) (sym are.2)

-- ---- its code

-- the codes are the same, and where there is none both mean the same, and say it
abbrev pub HasItsCode : Bool → SoFar → Row → Row → Type 0
HasItsCode whole s row cut =
    (code_of whole s row ≡ code_of whole s cut) × (code_of whole s row ≡ None → with_row whole s row ≡ with_row whole s cut)
    × (code_of whole s row ≡ None → meaning whole (names_in s) row ≡ meaning whole (names_in s) cut)

module _ (whole : Bool) (s : SoFar) (tables : AreTables (names_in s)) (row cut : Row) (are : AreCut row cut) where
  -- where it says the same
  when_same : (o : Option Word) → word_in whole row ≡ o → meant_as (names_in s) row o ≡ meant_as (names_in s) cut o → HasItsCode whole s row cut
  unfolding code_of with_row meaning
  when_same o is same = (
    ap (code_by whole s row) is ∙ by_word o same ∙ ap (code_by whole s cut) (sym is ∙ same_word_in whole row cut are),
    λ none. ap (with_meaning whole s) (ap (meant_as (names_in s) row) is ∙ same ∙ ap (meant_as (names_in s) cut) (sym is ∙ same_word_in whole row cut are)),
    λ none. ap (meant_as (names_in s) row) is ∙ same ∙ ap (meant_as (names_in s) cut) (sym is ∙ same_word_in whole row cut are),
  )
    where
      by_word : (o : Option Word) → meant_as (names_in s) row o ≡ meant_as (names_in s) cut o → code_by whole s row o ≡ code_by whole s cut o
      by_word None same = refl
      by_word (Some w) same =
          λ i. first_of (when (not (all_same_counted (fields_of w) row cut are i)) BadField ∷ when (is_group_more s w) BadField ∷ code_of_meaning whole s (same i) ∷ [])

  -- where nothing is declared, it does
  plain : (w : Word) → word_in whole row ≡ Some w → SameFresh (fields_of w) row cut → HasItsCode whole s row cut
  plain w is fresh = when_same (Some w) is (ap (option_map (line_by w)) (same_read (names_in s) tables (fields_of w) row cut are fresh))

  -- where the fields of both are bad
  when_bad : (w : Word) → word_in whole row ≡ Some w → code_by whole s row (Some w) ≡ Some BadField → code_by whole s cut (Some w) ≡ Some BadField → HasItsCode whole s row cut
  unfolding code_of
  when_bad w is bad cut_bad = (
    ap (code_by whole s row) is ∙ bad ∙ sym (ap (code_by whole s cut) (sym (same_word_in whole row cut are) ∙ is) ∙ cut_bad),
    λ none. absurd (some_none (sym none ∙ ap (code_by whole s row) is ∙ bad)),
    λ none. absurd (some_none (sym none ∙ ap (code_by whole s row) is ∙ bad)),
  )

-- a name that is declared and is none is a bad field
bad_line : (whole : Bool) (s : SoFar) (line : Line) → is_badly_declared s line ≡ true → line_code whole s line ≡ Some BadField
unfolding line_code
bad_line whole s line bad = ap (λ (b : Bool). or_else (when b BadField) (first_of (drop 1 (line_causes whole s line)))) bad

bad_field : (whole : Bool) (s : SoFar) (w : Word) (row : Row) (line : Line) → meant_as (names_in s) row (Some w) ≡ Some line → is_badly_declared s line ≡ true → code_by whole s row (Some w) ≡ Some BadField
bad_field whole s w row line says bad =
    ap (λ (o : Option Code). first_of (when (not (all_counted (fields_of w) row)) BadField ∷ when (is_group_more s w) BadField ∷ o ∷ [])) (ap (code_of_meaning whole s) says ∙ bad_line whole s line bad)
    ∙ one_of (not (all_counted (fields_of w) row)) (is_group_more s w)
  where
    one_of : (a b : Bool) → first_of (when a BadField ∷ when b BadField ∷ Some BadField ∷ []) ≡ Some BadField
    one_of true b = refl
    one_of false true = refl
    one_of false false = refl

bad_name : (limit : ℕ) (names : List (List ℕ)) (name : List ℕ) → IsBad name → (not (is_name name) || knows names name || (length names == limit)) ≡ true
bad_name limit names name bad = ap (λ (b : Bool). not b || knows names name || (length names == limit)) (no_name name bad)

resource : (whole : Bool) (s : SoFar) → AreTables (names_in s) → (row cut : Row) → AreCut row cut → word_in whole row ≡ Some word.Resource → HasItsCode whole s row cut
unfolding read
resource whole s tables [] cut are is = plain whole s tables [] cut are word.Resource is tt
resource whole s tables (a ∷ []) cut are is = plain whole s tables (a ∷ []) cut are word.Resource is (subst (SameFresh (fields_of word.Resource) (a ∷ [])) (sym are.2) tt)
resource whole s tables (a ∷ x ∷ row) cut are is = at (same_or_bad x are.4.0 are.4.3)
  where
    shape : cut ≡ are.0 ∷ are.4.0 ∷ are.4.1
    shape = are.2 ∙ ap (λ (r : Row). are.0 ∷ r) are.4.2

    bad_name_in : (row rest : Row) → AreCut row rest → word_in whole (a ∷ x ∷ row) ≡ Some word.Resource → AreCut (a ∷ x ∷ row) cut → cut ≡ are.0 ∷ are.4.0 ∷ rest
        → IsBad x × IsBad are.4.0 → HasItsCode whole s (a ∷ x ∷ row) cut
    bad_name_in [] rest none is both cut_is long =
        when_bad whole s tables (a ∷ x ∷ []) cut both word.Resource is
        (bad_field whole s word.Resource (a ∷ x ∷ []) (HasResource x) refl (bad_name RESOURCES s.resources x long.0))
        (bad_field whole s word.Resource cut (HasResource are.4.0) (ap (λ (r : Row). meant_as (names_in s) r (Some word.Resource)) (cut_is ∙ ap (λ (r : Row). are.0 ∷ are.4.0 ∷ r) none)) (bad_name RESOURCES s.resources are.4.0 long.1))
    bad_name_in (y ∷ ys) rest some is both cut_is long =
        when_same whole s tables (a ∷ x ∷ y ∷ ys) cut both (Some word.Resource) is
        (sym (ap (λ (r : Row). meant_as (names_in s) r (Some word.Resource)) (cut_is ∙ ap (λ (r : Row). are.0 ∷ are.4.0 ∷ r) some.2)))

    at : SameOrBad x are.4.0 → HasItsCode whole s (a ∷ x ∷ row) cut
    at (inl same) = plain whole s tables (a ∷ x ∷ row) cut are word.Resource is (subst (SameFresh (fields_of word.Resource) (a ∷ x ∷ row)) (sym shape) (same, tt))
    at (inr bad) = bad_name_in row are.4.1 are.4.4 is are shape bad

task : (whole : Bool) (s : SoFar) → AreTables (names_in s) → (row cut : Row) → AreCut row cut → word_in whole row ≡ Some word.Task → HasItsCode whole s row cut
unfolding read
task whole s tables [] cut are is = plain whole s tables [] cut are word.Task is tt
task whole s tables (a ∷ []) cut are is = plain whole s tables (a ∷ []) cut are word.Task is (subst (SameFresh (fields_of word.Task) (a ∷ [])) (sym are.2) tt)
task whole s tables (a ∷ x ∷ row) cut are is = at (same_or_bad x are.4.0 are.4.3)
  where
    shape : cut ≡ are.0 ∷ are.4.0 ∷ are.4.1
    shape = are.2 ∙ ap (λ (r : Row). are.0 ∷ r) are.4.2

    bad_name_in : (row rest : Row) → AreCut row rest → word_in whole (a ∷ x ∷ row) ≡ Some word.Task → AreCut (a ∷ x ∷ row) cut → cut ≡ are.0 ∷ are.4.0 ∷ rest
        → IsBad x × IsBad are.4.0 → HasItsCode whole s (a ∷ x ∷ row) cut
    bad_name_in [] rest none is both cut_is long =
        when_bad whole s tables (a ∷ x ∷ []) cut both word.Task is
        (bad_field whole s word.Task (a ∷ x ∷ []) (HasTask x) refl (bad_name SEATS s.tasks x long.0))
        (bad_field whole s word.Task cut (HasTask are.4.0) (ap (λ (r : Row). meant_as (names_in s) r (Some word.Task)) (cut_is ∙ ap (λ (r : Row). are.0 ∷ are.4.0 ∷ r) none)) (bad_name SEATS s.tasks are.4.0 long.1))
    bad_name_in (y ∷ ys) rest some is both cut_is long =
        when_same whole s tables (a ∷ x ∷ y ∷ ys) cut both (Some word.Task) is
        (sym (ap (λ (r : Row). meant_as (names_in s) r (Some word.Task)) (cut_is ∙ ap (λ (r : Row). are.0 ∷ are.4.0 ∷ r) some.2)))

    at : SameOrBad x are.4.0 → HasItsCode whole s (a ∷ x ∷ row) cut
    at (inl same) = plain whole s tables (a ∷ x ∷ row) cut are word.Task is (subst (SameFresh (fields_of word.Task) (a ∷ x ∷ row)) (sym shape) (same, tt))
    at (inr bad) = bad_name_in row are.4.1 are.4.4 is are shape bad

-- no field declares a name
abbrev DeclareNone : List Field → Type 0
DeclareNone [] = Unit {0}
DeclareNone (Fresh ∷ fs) = ⊥
DeclareNone (Said w ∷ fs) = DeclareNone fs
DeclareNone (OneResource ∷ fs) = DeclareNone fs
DeclareNone (OneTask ∷ fs) = DeclareNone fs
DeclareNone (Members ∷ fs) = DeclareNone fs
DeclareNone (Number ∷ fs) = DeclareNone fs
DeclareNone (Length ∷ fs) = DeclareNone fs
DeclareNone (Limit ∷ fs) = DeclareNone fs

fresh_same : (fs : List Field) (row cut : Row) → DeclareNone fs → SameFresh fs row cut
fresh_same [] row cut none = tt
fresh_same (f ∷ fs) [] cut none = tt
fresh_same (f ∷ fs) (x ∷ row) [] none = tt
fresh_same (Fresh ∷ fs) (x ∷ row) (y ∷ cut) none = absurd none
fresh_same (Said w ∷ fs) (x ∷ row) (y ∷ cut) none = fresh_same fs row cut none
fresh_same (OneResource ∷ fs) (x ∷ row) (y ∷ cut) none = fresh_same fs row cut none
fresh_same (OneTask ∷ fs) (x ∷ row) (y ∷ cut) none = fresh_same fs row cut none
fresh_same (Members ∷ fs) (x ∷ row) (y ∷ cut) none = fresh_same fs row cut none
fresh_same (Number ∷ fs) (x ∷ row) (y ∷ cut) none = fresh_same fs row cut none
fresh_same (Length ∷ fs) (x ∷ row) (y ∷ cut) none = fresh_same fs row cut none
fresh_same (Limit ∷ fs) (x ∷ row) (y ∷ cut) none = fresh_same fs row cut none

-- by what the record is
module _ (whole : Bool) (s : SoFar) (tables : AreTables (names_in s)) (row cut : Row) (are : AreCut row cut) where
  other : (w : Word) → word_in whole row ≡ Some w → DeclareNone (fields_of w) → HasItsCode whole s row cut
  other w is none = plain whole s tables row cut are w is (fresh_same (fields_of w) row cut none)

  by_word : (o : Option Word) → word_in whole row ≡ o → HasItsCode whole s row cut
  by_word None is = when_same whole s tables row cut are None is refl
  by_word (Some word.Resource) is = resource whole s tables row cut are is
  by_word (Some word.Task) is = task whole s tables row cut are is
  by_word (Some word.Version) is = other word.Version is tt
  by_word (Some word.Group) is = other word.Group is tt
  by_word (Some word.Cap) is = other word.Cap is tt
  by_word (Some (word.Issue kinds.Read)) is = other (word.Issue kinds.Read) is tt
  by_word (Some (word.Issue kinds.Write)) is = other (word.Issue kinds.Write) is tt
  by_word (Some (word.Issue kinds.Mixed)) is = other (word.Issue kinds.Mixed) is tt
  by_word (Some (word.Issue kinds.Upgrade)) is = other (word.Issue kinds.Upgrade) is tt
  by_word (Some (word.Issue kinds.Nested)) is = other (word.Issue kinds.Nested) is tt
  by_word (Some word.Finish) is = other word.Finish is tt
  by_word (Some word.Rise) is = other word.Rise is tt
  by_word (Some word.Ask) is = other word.Ask is tt
  by_word (Some word.Show) is = other word.Show is tt
  by_word (Some (word.Add done)) is = other (word.Add done) is tt
  by_word (Some (word.Take done)) is = other (word.Take done) is tt
  by_word (Some (word.Put done)) is = other (word.Put done) is tt
  by_word (Some (word.Entitled half)) is = other (word.Entitled half) is tt
  by_word (Some (word.Satisfied half)) is = other (word.Satisfied half) is tt
  by_word (Some word.Grant) is = other word.Grant is tt
  by_word (Some (word.Wait which)) is = other (word.Wait which) is tt
  by_word (Some word.Ledger) is = other word.Ledger is tt
  by_word (Some word.End) is = other word.End is tt

pub has_its_code : (whole : Bool) (s : SoFar) (row cut : Row) → AreTables (names_in s) → IsCutRow row cut → HasItsCode whole s row cut
unfolding code_of
has_its_code whole s row cut tables (inl are) = by_word whole s tables row cut are (word_in whole row) refl
has_its_code whole s row cut tables (inr many) = both_none (too_many whole row many.0) (too_many whole cut many.1)
  where
    both_none : word_in whole row ≡ None → word_in whole cut ≡ None → HasItsCode whole s row cut
    both_none is cut_is = (
      ap (code_by whole s row) is ∙ sym (ap (code_by whole s cut) cut_is),
      λ none. absurd (some_none (sym none ∙ ap (code_by whole s row) is)),
      λ none. absurd (some_none (sym none ∙ ap (code_by whole s row) is)),
    )
