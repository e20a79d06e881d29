-- What is decided by the number of fields is what the table says.
use Rattle.std.proofs.Common.{◌≡◌, ℕ, Bool, true, false, ◌&&◌, cond, codes, List, [], ◌∷◌, length, Some, None, refl, arith}
use Rattle.std.specs.Str.{bytes_eq}
use Rattle.csv.specs.Records.{field_at}
use Rattle.rclaim.specs.declared.request.Kind.TheVariants.{Read, Write, Mixed, Upgrade, Nested}
use Rattle.rtrace_form.specs.Records.{Row}
use Rattle.rtrace_form.specs.Decided.{field_of}
use Rattle.rtrace_form.specs.Fields.{has_form}
use Rattle.rscript.specs.Words.{word_in}
use Rattle.rscript.specs.Decided.{word_of_one, word_of_two, word_of_three, word_of_four, word_of_five}
use Rattle.rscript.specs.declared.word.ScriptWord.TheVariants as word

one : (x : Bool) → x ≡ (x && true)
one true = refl
one false = refl

two : (x y : Bool) → (x && y) ≡ (x && (y && true))
two true y = one y
two false y = refl

by_one : (a : List ℕ) → word_of_one a ≡ word_in (a ∷ [])
unfolding word_in has_form
by_one a = λ i. cond (one (bytes_eq a (codes "rise")) i) (Some word.Rise) (cond (one (bytes_eq a (codes "finish")) i) (Some word.Finish) (cond (one (bytes_eq a (codes "end")) i) (Some word.End) (None)))

pub decided_one : (fields : Row) → length fields ≡ 1 → word_of_one (field_of fields 0) ≡ word_in fields
unfolding field_at
decided_one ([]) h = absurd (omega (arith, h))
decided_one (a ∷ []) h = by_one a
decided_one (a ∷ x ∷ fields) h = absurd (omega (arith, h))

by_two : (a b : List ℕ) → word_of_two a b ≡ word_in (a ∷ b ∷ [])
unfolding word_in has_form
by_two a b = λ i. cond (two (bytes_eq a (codes "rnlp")) (bytes_eq b (codes "1")) i) (Some word.Version) (cond (one (bytes_eq a (codes "resource")) i) (Some word.Resource) (cond (one (bytes_eq a (codes "group")) i) (Some word.Group) (cond (one (bytes_eq a (codes "task")) i) (Some word.Task) (cond (one (bytes_eq a (codes "show")) i) (Some word.Show) (cond (one (bytes_eq a (codes "ask")) i) (Some word.Ask) (None))))))

pub decided_two : (fields : Row) → length fields ≡ 2 → word_of_two (field_of fields 0) (field_of fields 1) ≡ word_in fields
unfolding field_at
decided_two ([]) h = absurd (omega (arith, h))
decided_two (a ∷ []) h = absurd (omega (arith, h))
decided_two (a ∷ b ∷ []) h = by_two a b
decided_two (a ∷ b ∷ x ∷ fields) h = absurd (omega (arith, h))

by_three : (a b c : List ℕ) → word_of_three a ≡ word_in (a ∷ b ∷ c ∷ [])
unfolding word_in has_form
by_three a b c = λ i. cond (one (bytes_eq a (codes "read")) i) (Some (word.Begin Read)) (cond (one (bytes_eq a (codes "write")) i) (Some (word.Begin Write)) (cond (one (bytes_eq a (codes "add")) i) (Some word.Add) (cond (one (bytes_eq a (codes "take")) i) (Some word.Take) (cond (one (bytes_eq a (codes "set")) i) (Some word.Put) (None)))))

pub decided_three : (fields : Row) → length fields ≡ 3 → word_of_three (field_of fields 0) ≡ word_in fields
unfolding field_at
decided_three ([]) h = absurd (omega (arith, h))
decided_three (a ∷ []) h = absurd (omega (arith, h))
decided_three (a ∷ b ∷ []) h = absurd (omega (arith, h))
decided_three (a ∷ b ∷ c ∷ []) h = by_three a b c
decided_three (a ∷ b ∷ c ∷ x ∷ fields) h = absurd (omega (arith, h))

by_four : (a b c d : List ℕ) → word_of_four a ≡ word_in (a ∷ b ∷ c ∷ d ∷ [])
unfolding word_in has_form
by_four a b c d = λ i. cond (one (bytes_eq a (codes "mixed")) i) (Some (word.Begin Mixed)) (cond (one (bytes_eq a (codes "upgrade")) i) (Some (word.Begin Upgrade)) (None))

pub decided_four : (fields : Row) → length fields ≡ 4 → word_of_four (field_of fields 0) ≡ word_in fields
unfolding field_at
decided_four ([]) h = absurd (omega (arith, h))
decided_four (a ∷ []) h = absurd (omega (arith, h))
decided_four (a ∷ b ∷ []) h = absurd (omega (arith, h))
decided_four (a ∷ b ∷ c ∷ []) h = absurd (omega (arith, h))
decided_four (a ∷ b ∷ c ∷ d ∷ []) h = by_four a b c d
decided_four (a ∷ b ∷ c ∷ d ∷ x ∷ fields) h = absurd (omega (arith, h))

by_five : (a b c d e : List ℕ) → word_of_five a ≡ word_in (a ∷ b ∷ c ∷ d ∷ e ∷ [])
unfolding word_in has_form
by_five a b c d e = λ i. cond (one (bytes_eq a (codes "nested")) i) (Some (word.Begin Nested)) (None)

pub decided_five : (fields : Row) → length fields ≡ 5 → word_of_five (field_of fields 0) ≡ word_in fields
unfolding field_at
decided_five ([]) h = absurd (omega (arith, h))
decided_five (a ∷ []) h = absurd (omega (arith, h))
decided_five (a ∷ b ∷ []) h = absurd (omega (arith, h))
decided_five (a ∷ b ∷ c ∷ []) h = absurd (omega (arith, h))
decided_five (a ∷ b ∷ c ∷ d ∷ []) h = absurd (omega (arith, h))
decided_five (a ∷ b ∷ c ∷ d ∷ e ∷ []) h = by_five a b c d e
decided_five (a ∷ b ∷ c ∷ d ∷ e ∷ x ∷ fields) h = absurd (omega (arith, h))

-- any other number of fields is no record
pub decided_other : (fields : Row) → (length fields ≡ 1 → ⊥) → (length fields ≡ 2 → ⊥) → (length fields ≡ 3 → ⊥) → (length fields ≡ 4 → ⊥) → (length fields ≡ 5 → ⊥) → None ≡ word_in fields
unfolding word_in has_form
decided_other [] o1 o2 o3 o4 o5 = refl
decided_other (a ∷ []) o1 o2 o3 o4 o5 = absurd (o1 refl)
decided_other (a ∷ b ∷ []) o1 o2 o3 o4 o5 = absurd (o2 refl)
decided_other (a ∷ b ∷ c ∷ []) o1 o2 o3 o4 o5 = absurd (o3 refl)
decided_other (a ∷ b ∷ c ∷ d ∷ []) o1 o2 o3 o4 o5 = absurd (o4 refl)
decided_other (a ∷ b ∷ c ∷ d ∷ e ∷ []) o1 o2 o3 o4 o5 = absurd (o5 refl)
decided_other (a ∷ b ∷ c ∷ d ∷ e ∷ x ∷ fields) o1 o2 o3 o4 o5 = refl
