-- The fields of a record of a word.
use Rattle.std.proofs.Common.{◌≡◌, Bool, true, false, cond, List, [], ◌∷◌, Some, refl, sym, ap, ◌∙◌, true≢false}
use Rattle.std.specs.Prelude.{find}
use Rattle.csv.specs.Records.{field_at}
use Rattle.rtrace_form.specs.Records.{Row}
use Rattle.rtrace_form.specs.Decided.{field_of}
use Rattle.rtrace_form.specs.Fields.{Field, has_form, is_as_long}
use Rattle.rtrace_form.proofs.facts.Choices.{some_is, some_none}
use Rattle.rtrace_form.proofs.facts.Tests.{left_holds}
use Rattle.rscript.specs.Words.{fields_of, words, word_in}
use Rattle.rscript.specs.declared.word.ScriptWord.{ScriptWord}

find_passes : {X : Type 0} (p : X → Bool) (xs : List X) (x : X) → find p xs ≡ Some x → p x ≡ true
find_passes p [] x h = absurd (some_none h)
find_passes p (y ∷ ys) x h =
    elim (p y) as (λ b. p y ≡ b → cond b (Some y) (find p ys) ≡ Some x → p x ≡ true) [
      | true ↦ λ e f. ap p (sym (some_is f)) ∙ e
      | false ↦ λ e f. find_passes p ys x f
    ] refl h

-- a record of a word has as many fields as the table says
pub long_of : (w : ScriptWord) (row : Row) → word_in row ≡ Some w → is_as_long (fields_of w) row ≡ true
unfolding word_in has_form
long_of w row h = left_holds _ _ (find_passes (λ v. has_form (fields_of v) row) words w h)

pub one_row : (f : Field) (row : Row) → is_as_long (f ∷ []) row ≡ true → row ≡ field_of row 0 ∷ []
unfolding field_at
one_row f [] h = absurd (true≢false (sym h))
one_row f (a ∷ []) h = refl
one_row f (a ∷ b ∷ row) h = absurd (true≢false (sym h))

pub two_row : (f g : Field) (row : Row) → is_as_long (f ∷ g ∷ []) row ≡ true → row ≡ field_of row 0 ∷ field_of row 1 ∷ []
unfolding field_at
two_row f g [] h = absurd (true≢false (sym h))
two_row f g (a ∷ []) h = absurd (true≢false (sym h))
two_row f g (a ∷ b ∷ []) h = refl
two_row f g (a ∷ b ∷ c ∷ row) h = absurd (true≢false (sym h))

pub three_row : (f g k : Field) (row : Row) → is_as_long (f ∷ g ∷ k ∷ []) row ≡ true → row ≡ field_of row 0 ∷ field_of row 1 ∷ field_of row 2 ∷ []
unfolding field_at
three_row f g k [] h = absurd (true≢false (sym h))
three_row f g k (a ∷ []) h = absurd (true≢false (sym h))
three_row f g k (a ∷ b ∷ []) h = absurd (true≢false (sym h))
three_row f g k (a ∷ b ∷ c ∷ []) h = refl
three_row f g k (a ∷ b ∷ c ∷ d ∷ row) h = absurd (true≢false (sym h))

pub four_row : (f g k l : Field) (row : Row) → is_as_long (f ∷ g ∷ k ∷ l ∷ []) row ≡ true → row ≡ field_of row 0 ∷ field_of row 1 ∷ field_of row 2 ∷ field_of row 3 ∷ []
unfolding field_at
four_row f g k l [] h = absurd (true≢false (sym h))
four_row f g k l (a ∷ []) h = absurd (true≢false (sym h))
four_row f g k l (a ∷ b ∷ []) h = absurd (true≢false (sym h))
four_row f g k l (a ∷ b ∷ c ∷ []) h = absurd (true≢false (sym h))
four_row f g k l (a ∷ b ∷ c ∷ d ∷ []) h = refl
four_row f g k l (a ∷ b ∷ c ∷ d ∷ e ∷ row) h = absurd (true≢false (sym h))

pub five_row : (f g k l m : Field) (row : Row) → is_as_long (f ∷ g ∷ k ∷ l ∷ m ∷ []) row ≡ true → row ≡ field_of row 0 ∷ field_of row 1 ∷ field_of row 2 ∷ field_of row 3 ∷ field_of row 4 ∷ []
unfolding field_at
five_row f g k l m [] h = absurd (true≢false (sym h))
five_row f g k l m (a ∷ []) h = absurd (true≢false (sym h))
five_row f g k l m (a ∷ b ∷ []) h = absurd (true≢false (sym h))
five_row f g k l m (a ∷ b ∷ c ∷ []) h = absurd (true≢false (sym h))
five_row f g k l m (a ∷ b ∷ c ∷ d ∷ []) h = absurd (true≢false (sym h))
five_row f g k l m (a ∷ b ∷ c ∷ d ∷ e ∷ []) h = refl
five_row f g k l m (a ∷ b ∷ c ∷ d ∷ e ∷ x ∷ row) h = absurd (true≢false (sym h))
