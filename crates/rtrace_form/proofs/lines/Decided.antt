-- What is decided by the number of fields is what the table says.
use Rattle.std.proofs.Common.{◌≡◌, ℕ, Bool, true, false, ◌&&◌, cond, codes, List, [], ◌∷◌, length, Some, None, refl, arith}
use Rattle.std.specs.Str.{bytes_eq}
use Rattle.csv.specs.Records.{field_at}
use Rattle.rclaim.specs.declared.request.Kind.TheVariants.{Read, Write, Mixed, Upgrade, Nested}
use Rattle.rtrace_form.specs.Records.{Row}
use Rattle.rtrace_form.specs.Fields.{has_form}
use Rattle.rtrace_form.specs.Words.{word_in}
use Rattle.rtrace_form.specs.Decided.{word_of_one, word_of_two, word_of_three, word_of_four, word_of_five, word_of_six, word_of_seven, word_of_nine, field_of}
use Rattle.rtrace_form.specs.declared.word.Stage.TheVariants as stage
use Rattle.rtrace_form.specs.declared.word.Word.TheVariants as word

one : (x : Bool) → x ≡ (x && true)
one true = refl
one false = refl

two : (x y : Bool) → (x && y) ≡ (x && (y && true))
two true y = one y
two false y = refl

three : (x y z : Bool) → (x && y && z) ≡ (x && (y && (z && true)))
three true y z = two y z
three false y z = refl

by_one : (whole : Bool) (a : List ℕ) → word_of_one a ≡ word_in whole (a ∷ [])
unfolding word_in has_form
by_one true a = λ i. cond (one (bytes_eq a (codes "end")) i) (Some word.End) (None)
by_one false a = λ i. cond (one (bytes_eq a (codes "end")) i) (Some word.End) (None)

pub decided_one : (whole : Bool) (fields : Row) → length fields ≡ 1 → word_of_one (field_of fields 0) ≡ word_in whole fields
unfolding field_at
decided_one whole ([]) h = absurd (omega (arith, h))
decided_one whole (a ∷ []) h = by_one whole a
decided_one whole (a ∷ x ∷ fields) h = absurd (omega (arith, h))

by_two : (whole : Bool) (a b : List ℕ) → word_of_two a b ≡ word_in whole (a ∷ b ∷ [])
unfolding word_in has_form
by_two true a b = λ i. cond (two (bytes_eq a (codes "rnlp")) (bytes_eq b (codes "1")) i) (Some word.Version) (cond (one (bytes_eq a (codes "resource")) i) (Some word.Resource) (cond (one (bytes_eq a (codes "group")) i) (Some word.Group) (cond (one (bytes_eq a (codes "task")) i) (Some word.Task) (cond (one (bytes_eq a (codes "cap")) i) (Some word.Cap) (cond (one (bytes_eq a (codes "finish")) i) (Some word.Finish) (cond (one (bytes_eq a (codes "rise")) i) (Some word.Rise) (None)))))))
by_two false a b = λ i. cond (two (bytes_eq a (codes "rnlp")) (bytes_eq b (codes "1")) i) (Some word.Version) (cond (one (bytes_eq a (codes "resource")) i) (Some word.Resource) (cond (one (bytes_eq a (codes "group")) i) (Some word.Group) (cond (one (bytes_eq a (codes "task")) i) (Some word.Task) (cond (one (bytes_eq a (codes "cap")) i) (Some word.Cap) (cond (one (bytes_eq a (codes "finish")) i) (Some word.Finish) (cond (one (bytes_eq a (codes "rise")) i) (Some word.Rise) (None)))))))

pub decided_two : (whole : Bool) (fields : Row) → length fields ≡ 2 → word_of_two (field_of fields 0) (field_of fields 1) ≡ word_in whole fields
unfolding field_at
decided_two whole ([]) h = absurd (omega (arith, h))
decided_two whole (a ∷ []) h = absurd (omega (arith, h))
decided_two whole (a ∷ b ∷ []) h = by_two whole a b
decided_two whole (a ∷ b ∷ x ∷ fields) h = absurd (omega (arith, h))

by_three : (whole : Bool) (a b c : List ℕ) → word_of_three whole a ≡ word_in whole (a ∷ b ∷ c ∷ [])
unfolding word_in has_form
by_three true a b c = λ i. cond (one (bytes_eq a (codes "ask")) i) (Some word.Ask) (cond (one (bytes_eq a (codes "show")) i) (Some word.Show) (cond (one (bytes_eq a (codes "grant")) i) (Some word.Grant) (None)))
by_three false a b c = λ i. cond (one (bytes_eq a (codes "ask")) i) (Some word.Ask) (None)

pub decided_three : (whole : Bool) (fields : Row) → length fields ≡ 3 → word_of_three whole (field_of fields 0) ≡ word_in whole fields
unfolding field_at
decided_three whole ([]) h = absurd (omega (arith, h))
decided_three whole (a ∷ []) h = absurd (omega (arith, h))
decided_three whole (a ∷ b ∷ []) h = absurd (omega (arith, h))
decided_three whole (a ∷ b ∷ c ∷ []) h = by_three whole a b c
decided_three whole (a ∷ b ∷ c ∷ x ∷ fields) h = absurd (omega (arith, h))

by_four : (whole : Bool) (a b c d : List ℕ) → word_of_four whole a c d ≡ word_in whole (a ∷ b ∷ c ∷ d ∷ [])
unfolding word_in has_form
by_four true a b c d = λ i. cond (two (bytes_eq a (codes "add")) (bytes_eq d (codes "yes")) i) (Some (word.Add true)) (cond (two (bytes_eq a (codes "add")) (bytes_eq d (codes "no")) i) (Some (word.Add false)) (cond (two (bytes_eq a (codes "take")) (bytes_eq d (codes "yes")) i) (Some (word.Take true)) (cond (two (bytes_eq a (codes "take")) (bytes_eq d (codes "no")) i) (Some (word.Take false)) (cond (two (bytes_eq a (codes "set")) (bytes_eq d (codes "yes")) i) (Some (word.Put true)) (cond (two (bytes_eq a (codes "set")) (bytes_eq d (codes "no")) i) (Some (word.Put false)) (cond (three (bytes_eq a (codes "now")) (bytes_eq c (codes "write")) (bytes_eq d (codes "entitled")) i) (Some (word.Entitled true)) (cond (three (bytes_eq a (codes "now")) (bytes_eq c (codes "read")) (bytes_eq d (codes "entitled")) i) (Some (word.Entitled false)) (cond (three (bytes_eq a (codes "now")) (bytes_eq c (codes "write")) (bytes_eq d (codes "satisfied")) i) (Some (word.Satisfied true)) (cond (three (bytes_eq a (codes "now")) (bytes_eq c (codes "read")) (bytes_eq d (codes "satisfied")) i) (Some (word.Satisfied false)) (cond (one (bytes_eq a (codes "ledger")) i) (Some word.Ledger) (None)))))))))))
by_four false a b c d = refl

pub decided_four : (whole : Bool) (fields : Row) → length fields ≡ 4 → word_of_four whole (field_of fields 0) (field_of fields 2) (field_of fields 3) ≡ word_in whole fields
unfolding field_at
decided_four whole ([]) h = absurd (omega (arith, h))
decided_four whole (a ∷ []) h = absurd (omega (arith, h))
decided_four whole (a ∷ b ∷ []) h = absurd (omega (arith, h))
decided_four whole (a ∷ b ∷ c ∷ []) h = absurd (omega (arith, h))
decided_four whole (a ∷ b ∷ c ∷ d ∷ []) h = by_four whole a b c d
decided_four whole (a ∷ b ∷ c ∷ d ∷ x ∷ fields) h = absurd (omega (arith, h))

by_five : (whole : Bool) (a b c d e : List ℕ) → word_of_five a c ≡ word_in whole (a ∷ b ∷ c ∷ d ∷ e ∷ [])
unfolding word_in has_form
by_five true a b c d e = λ i. cond (two (bytes_eq a (codes "issue")) (bytes_eq c (codes "read")) i) (Some (word.Issue Read)) (cond (two (bytes_eq a (codes "issue")) (bytes_eq c (codes "write")) i) (Some (word.Issue Write)) (None))
by_five false a b c d e = λ i. cond (two (bytes_eq a (codes "issue")) (bytes_eq c (codes "read")) i) (Some (word.Issue Read)) (cond (two (bytes_eq a (codes "issue")) (bytes_eq c (codes "write")) i) (Some (word.Issue Write)) (None))

pub decided_five : (whole : Bool) (fields : Row) → length fields ≡ 5 → word_of_five (field_of fields 0) (field_of fields 2) ≡ word_in whole fields
unfolding field_at
decided_five whole ([]) h = absurd (omega (arith, h))
decided_five whole (a ∷ []) h = absurd (omega (arith, h))
decided_five whole (a ∷ b ∷ []) h = absurd (omega (arith, h))
decided_five whole (a ∷ b ∷ c ∷ []) h = absurd (omega (arith, h))
decided_five whole (a ∷ b ∷ c ∷ d ∷ []) h = absurd (omega (arith, h))
decided_five whole (a ∷ b ∷ c ∷ d ∷ e ∷ []) h = by_five whole a b c d e
decided_five whole (a ∷ b ∷ c ∷ d ∷ e ∷ x ∷ fields) h = absurd (omega (arith, h))

by_six : (whole : Bool) (a b c d e f : List ℕ) → word_of_six a c ≡ word_in whole (a ∷ b ∷ c ∷ d ∷ e ∷ f ∷ [])
unfolding word_in has_form
by_six true a b c d e f = λ i. cond (two (bytes_eq a (codes "issue")) (bytes_eq c (codes "mixed")) i) (Some (word.Issue Mixed)) (cond (two (bytes_eq a (codes "issue")) (bytes_eq c (codes "upgrade")) i) (Some (word.Issue Upgrade)) (None))
by_six false a b c d e f = λ i. cond (two (bytes_eq a (codes "issue")) (bytes_eq c (codes "mixed")) i) (Some (word.Issue Mixed)) (cond (two (bytes_eq a (codes "issue")) (bytes_eq c (codes "upgrade")) i) (Some (word.Issue Upgrade)) (None))

pub decided_six : (whole : Bool) (fields : Row) → length fields ≡ 6 → word_of_six (field_of fields 0) (field_of fields 2) ≡ word_in whole fields
unfolding field_at
decided_six whole ([]) h = absurd (omega (arith, h))
decided_six whole (a ∷ []) h = absurd (omega (arith, h))
decided_six whole (a ∷ b ∷ []) h = absurd (omega (arith, h))
decided_six whole (a ∷ b ∷ c ∷ []) h = absurd (omega (arith, h))
decided_six whole (a ∷ b ∷ c ∷ d ∷ []) h = absurd (omega (arith, h))
decided_six whole (a ∷ b ∷ c ∷ d ∷ e ∷ []) h = absurd (omega (arith, h))
decided_six whole (a ∷ b ∷ c ∷ d ∷ e ∷ f ∷ []) h = by_six whole a b c d e f
decided_six whole (a ∷ b ∷ c ∷ d ∷ e ∷ f ∷ x ∷ fields) h = absurd (omega (arith, h))

by_seven : (whole : Bool) (a b c d e f g : List ℕ) → word_of_seven a c ≡ word_in whole (a ∷ b ∷ c ∷ d ∷ e ∷ f ∷ g ∷ [])
unfolding word_in has_form
by_seven true a b c d e f g = λ i. cond (two (bytes_eq a (codes "issue")) (bytes_eq c (codes "nested")) i) (Some (word.Issue Nested)) (None)
by_seven false a b c d e f g = λ i. cond (two (bytes_eq a (codes "issue")) (bytes_eq c (codes "nested")) i) (Some (word.Issue Nested)) (None)

pub decided_seven : (whole : Bool) (fields : Row) → length fields ≡ 7 → word_of_seven (field_of fields 0) (field_of fields 2) ≡ word_in whole fields
unfolding field_at
decided_seven whole ([]) h = absurd (omega (arith, h))
decided_seven whole (a ∷ []) h = absurd (omega (arith, h))
decided_seven whole (a ∷ b ∷ []) h = absurd (omega (arith, h))
decided_seven whole (a ∷ b ∷ c ∷ []) h = absurd (omega (arith, h))
decided_seven whole (a ∷ b ∷ c ∷ d ∷ []) h = absurd (omega (arith, h))
decided_seven whole (a ∷ b ∷ c ∷ d ∷ e ∷ []) h = absurd (omega (arith, h))
decided_seven whole (a ∷ b ∷ c ∷ d ∷ e ∷ f ∷ []) h = absurd (omega (arith, h))
decided_seven whole (a ∷ b ∷ c ∷ d ∷ e ∷ f ∷ g ∷ []) h = by_seven whole a b c d e f g
decided_seven whole (a ∷ b ∷ c ∷ d ∷ e ∷ f ∷ g ∷ x ∷ fields) h = absurd (omega (arith, h))

by_nine : (whole : Bool) (a b c d e f g h i : List ℕ) → word_of_nine whole a c ≡ word_in whole (a ∷ b ∷ c ∷ d ∷ e ∷ f ∷ g ∷ h ∷ i ∷ [])
unfolding word_in has_form
by_nine true a b c d e f g h j = λ i. cond (two (bytes_eq a (codes "wait")) (bytes_eq c (codes "first")) i) (Some (word.Wait stage.First)) (cond (two (bytes_eq a (codes "wait")) (bytes_eq c (codes "rise")) i) (Some (word.Wait stage.Rise)) (cond (two (bytes_eq a (codes "wait")) (bytes_eq c (codes "ask")) i) (Some (word.Wait stage.Ask)) (None)))
by_nine false a b c d e f g h j = refl

pub decided_nine : (whole : Bool) (fields : Row) → length fields ≡ 9 → word_of_nine whole (field_of fields 0) (field_of fields 2) ≡ word_in whole fields
unfolding field_at
decided_nine whole ([]) n = absurd (omega (arith, n))
decided_nine whole (a ∷ []) n = absurd (omega (arith, n))
decided_nine whole (a ∷ b ∷ []) n = absurd (omega (arith, n))
decided_nine whole (a ∷ b ∷ c ∷ []) n = absurd (omega (arith, n))
decided_nine whole (a ∷ b ∷ c ∷ d ∷ []) n = absurd (omega (arith, n))
decided_nine whole (a ∷ b ∷ c ∷ d ∷ e ∷ []) n = absurd (omega (arith, n))
decided_nine whole (a ∷ b ∷ c ∷ d ∷ e ∷ f ∷ []) n = absurd (omega (arith, n))
decided_nine whole (a ∷ b ∷ c ∷ d ∷ e ∷ f ∷ g ∷ []) n = absurd (omega (arith, n))
decided_nine whole (a ∷ b ∷ c ∷ d ∷ e ∷ f ∷ g ∷ h ∷ []) n = absurd (omega (arith, n))
decided_nine whole (a ∷ b ∷ c ∷ d ∷ e ∷ f ∷ g ∷ h ∷ i ∷ []) n = by_nine whole a b c d e f g h i
decided_nine whole (a ∷ b ∷ c ∷ d ∷ e ∷ f ∷ g ∷ h ∷ i ∷ x ∷ fields) n = absurd (omega (arith, n))

-- any other number of fields is no record
pub decided_other : (whole : Bool) (fields : Row) → (length fields ≡ 1 → ⊥) → (length fields ≡ 2 → ⊥) → (length fields ≡ 3 → ⊥) → (length fields ≡ 4 → ⊥) → (length fields ≡ 5 → ⊥) → (length fields ≡ 6 → ⊥) → (length fields ≡ 7 → ⊥) → (length fields ≡ 9 → ⊥) → None ≡ word_in whole fields
unfolding word_in has_form
decided_other true [] o1 o2 o3 o4 o5 o6 o7 o9 = refl
decided_other true (a ∷ []) o1 o2 o3 o4 o5 o6 o7 o9 = absurd (o1 refl)
decided_other true (a ∷ b ∷ []) o1 o2 o3 o4 o5 o6 o7 o9 = absurd (o2 refl)
decided_other true (a ∷ b ∷ c ∷ []) o1 o2 o3 o4 o5 o6 o7 o9 = absurd (o3 refl)
decided_other true (a ∷ b ∷ c ∷ d ∷ []) o1 o2 o3 o4 o5 o6 o7 o9 = absurd (o4 refl)
decided_other true (a ∷ b ∷ c ∷ d ∷ e ∷ []) o1 o2 o3 o4 o5 o6 o7 o9 = absurd (o5 refl)
decided_other true (a ∷ b ∷ c ∷ d ∷ e ∷ f ∷ []) o1 o2 o3 o4 o5 o6 o7 o9 = absurd (o6 refl)
decided_other true (a ∷ b ∷ c ∷ d ∷ e ∷ f ∷ g ∷ []) o1 o2 o3 o4 o5 o6 o7 o9 = absurd (o7 refl)
decided_other true (a ∷ b ∷ c ∷ d ∷ e ∷ f ∷ g ∷ h ∷ []) o1 o2 o3 o4 o5 o6 o7 o9 = refl
decided_other true (a ∷ b ∷ c ∷ d ∷ e ∷ f ∷ g ∷ h ∷ i ∷ []) o1 o2 o3 o4 o5 o6 o7 o9 = absurd (o9 refl)
decided_other true (a ∷ b ∷ c ∷ d ∷ e ∷ f ∷ g ∷ h ∷ i ∷ x ∷ fields) o1 o2 o3 o4 o5 o6 o7 o9 = refl
decided_other false [] o1 o2 o3 o4 o5 o6 o7 o9 = refl
decided_other false (a ∷ []) o1 o2 o3 o4 o5 o6 o7 o9 = absurd (o1 refl)
decided_other false (a ∷ b ∷ []) o1 o2 o3 o4 o5 o6 o7 o9 = absurd (o2 refl)
decided_other false (a ∷ b ∷ c ∷ []) o1 o2 o3 o4 o5 o6 o7 o9 = absurd (o3 refl)
decided_other false (a ∷ b ∷ c ∷ d ∷ []) o1 o2 o3 o4 o5 o6 o7 o9 = absurd (o4 refl)
decided_other false (a ∷ b ∷ c ∷ d ∷ e ∷ []) o1 o2 o3 o4 o5 o6 o7 o9 = absurd (o5 refl)
decided_other false (a ∷ b ∷ c ∷ d ∷ e ∷ f ∷ []) o1 o2 o3 o4 o5 o6 o7 o9 = absurd (o6 refl)
decided_other false (a ∷ b ∷ c ∷ d ∷ e ∷ f ∷ g ∷ []) o1 o2 o3 o4 o5 o6 o7 o9 = absurd (o7 refl)
decided_other false (a ∷ b ∷ c ∷ d ∷ e ∷ f ∷ g ∷ h ∷ []) o1 o2 o3 o4 o5 o6 o7 o9 = refl
decided_other false (a ∷ b ∷ c ∷ d ∷ e ∷ f ∷ g ∷ h ∷ i ∷ []) o1 o2 o3 o4 o5 o6 o7 o9 = absurd (o9 refl)
decided_other false (a ∷ b ∷ c ∷ d ∷ e ∷ f ∷ g ∷ h ∷ i ∷ x ∷ fields) o1 o2 o3 o4 o5 o6 o7 o9 = refl
