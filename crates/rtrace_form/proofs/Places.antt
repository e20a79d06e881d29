-- What the fields of a record say, by their places.
use Rattle.std.proofs.Common.{◌≡◌, ℕ, suc, Bool, true, false, ◌&&◌, List, [], ◌∷◌, Option, Some, None, refl, sym, ap, ◌∙◌}
use Rattle.std.specs.Prelude.{option_map}
use Rattle.csv.specs.Records.{field_at}
use Rattle.rtrace_form.specs.Records.{Row}
use Rattle.rtrace_form.specs.Fields.{Names, Field, Values, read_with, read, is_counted, all_counted, is_as_long, has_form}
use Rattle.rtrace_form.specs.Decided.{field_of}
use Rattle.rtrace_form.specs.Words.{fields_of}
use Rattle.rtrace_form.specs.Lines.{Line, line_by}
use Rattle.rtrace_form.specs.declared.word.Word.{Word}
use Rattle.rtrace_form.proofs.facts.Tests.{both_of}
use Rattle.rtrace_form.specs.Told.{IsOf, Says, IsUnknown}

-- what fields say, where the first of them is at this place of the record
abbrev pub read_at : Names → (fs : List Field) → ℕ → Row → Option (Values fs)
read_at names [] k row = Some tt
read_at names (f ∷ fs) k row = read_with names f (field_of row k) (read_at names fs (suc k) row)

-- each of them that is to be a number is
abbrev pub counted_at : List Field → ℕ → Row → Bool
counted_at [] k row = true
counted_at (f ∷ fs) k row = is_counted f (field_of row k) && counted_at fs (suc k) row

read_behind : (names : Names) (fs : List Field) (k : ℕ) (x : List ℕ) (row : Row) → read_at names fs (suc k) (x ∷ row) ≡ read_at names fs k row
unfolding field_at
read_behind names [] k x row = refl
read_behind names (f ∷ fs) k x row = ap (read_with names f (field_of row k)) (read_behind names fs (suc k) x row)

counted_behind : (fs : List Field) (k : ℕ) (x : List ℕ) (row : Row) → counted_at fs (suc k) (x ∷ row) ≡ counted_at fs k row
unfolding field_at
counted_behind [] k x row = refl
counted_behind (f ∷ fs) k x row = ap (λ b. is_counted f (field_of row k) && b) (counted_behind fs (suc k) x row)

reads_at : (names : Names) (fs : List Field) (row : Row) → is_as_long fs row ≡ true → read names fs row ≡ read_at names fs 0 row
unfolding read field_at
reads_at names [] [] h = refl
reads_at names [] (x ∷ row) h = cc
reads_at names (f ∷ fs) [] h = cc
reads_at names (f ∷ fs) (x ∷ row) h = ap (read_with names f x) (reads_at names fs row h ∙ sym (read_behind names fs 0 x row))

counts_at : (fs : List Field) (row : Row) → is_as_long fs row ≡ true → all_counted fs row ≡ counted_at fs 0 row
unfolding all_counted field_at
counts_at [] row h = refl
counts_at (f ∷ fs) [] h = cc
counts_at (f ∷ fs) (x ∷ row) h = ap (λ b. is_counted f x && b) (counts_at fs row h ∙ sym (counted_behind fs 0 x row))

as_long : (fs : List Field) (row : Row) → has_form fs row ≡ true → is_as_long fs row ≡ true
unfolding has_form
as_long fs row h = (both_of (is_as_long fs row) _ h).0

module _ (names : Names) (w : Word) (row : Row) (form : IsOf w row) where
  pub says_at : (line : Line) → counted_at (fields_of w) 0 row ≡ true → option_map (line_by w) (read_at names (fields_of w) 0 row) ≡ Some line → Says names w row line
  says_at line counted meant = record {
    counted = counts_at (fields_of w) row (as_long (fields_of w) row form) ∙ counted;
    meant = ap (option_map (line_by w)) (reads_at names (fields_of w) row (as_long (fields_of w) row form)) ∙ meant;
  }

  pub unknown_at : counted_at (fields_of w) 0 row ≡ true → read_at names (fields_of w) 0 row ≡ None → IsUnknown names w row
  unknown_at counted none = record {
    counted = counts_at (fields_of w) row (as_long (fields_of w) row form) ∙ counted;
    meant = ap (option_map (line_by w)) (reads_at names (fields_of w) row (as_long (fields_of w) row form) ∙ none);
  }

  pub uncounted_at : counted_at (fields_of w) 0 row ≡ false → all_counted (fields_of w) row ≡ false
  uncounted_at bad = counts_at (fields_of w) row (as_long (fields_of w) row form) ∙ bad
