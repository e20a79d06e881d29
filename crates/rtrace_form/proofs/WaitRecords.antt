-- What a record of a wait says, from what its fields say.
use Rattle.std.proofs.Common.{◌≡◌, ℕ, Bool, true, false, ◌&&◌, List, Option, Some, None, refl, sym, ap, ◌∙◌}
use Rattle.std.specs.Prelude.{option_map, option_and_then}
use Rattle.rset.specs.Names.{number_in}
use Rattle.rtrace_form.specs.Bounds.{Numbers}
use Rattle.rtrace_form.specs.Records.{Row}
use Rattle.rtrace_form.specs.Numbers.{is_number, number_told}
use Rattle.rtrace_form.specs.Fields.{paired, all_counted}
use Rattle.rtrace_form.specs.Decided.{field_of}
use Rattle.rtrace_form.specs.Words.{fields_of}
use Rattle.rtrace_form.specs.Lines.{Waits, line_by}
use Rattle.rtrace_form.specs.declared.word.Stage.{Stage}
use Rattle.rtrace_form.specs.declared.word.Word.TheVariants as word
use Rattle.rtrace_form.proofs.facts.Choices.{some_is, some_none}
use Rattle.rtrace_form.specs.Told.{names_by, IsOf, Says, IsUnknown}
use Rattle.rtrace_form.specs.WaitRecords.{numbers_by, numbers_told}
use Rattle.rtrace_form.proofs.Places.{says_at, unknown_at, uncounted_at}
use Rattle.rtrace_form.proofs.Said.{number_is, number_none}

-- each of three fields is its number
record AreTold (x y z : List ℕ) (n : Numbers) : Type 0 where
  reads : number_told x ≡ Some n.reads
  writes : number_told y ≡ Some n.writes
  units : number_told z ≡ Some n.units

three : Option ℕ → Option ℕ → Option ℕ → Option Numbers
three a b c = option_and_then (λ reads. option_and_then (λ writes. option_map (numbers_by reads writes) c) b) a

told_three : (x y z : List ℕ) (n : Numbers) (a b c : Option ℕ) → number_told x ≡ a → number_told y ≡ b → number_told z ≡ c → three a b c ≡ Some n → AreTold x y z n
unfolding three
told_three x y z n (Some a) (Some b) (Some c) p q r h =
    let is : numbers_by a b c ≡ n = some_is h in
    record { reads = p ∙ ap (λ (m : Numbers). Some m.reads) is; writes = q ∙ ap (λ (m : Numbers). Some m.writes) is; units = r ∙ ap (λ (m : Numbers). Some m.units) is }
told_three x y z n None b c p q r h = absurd (some_none h)
told_three x y z n (Some a) None c p q r h = absurd (some_none h)
told_three x y z n (Some a) (Some b) None p q r h = absurd (some_none h)

-- one of three fields is not a number, where they give no numbers together
none_three : (x y z : List ℕ) (rest : Bool) (a b c : Option ℕ) → number_told x ≡ a → number_told y ≡ b → number_told z ≡ c → three a b c ≡ None
    → (is_number x && (is_number y && (is_number z && rest))) ≡ false
unfolding three
none_three x y z rest None b c p q r h = ap (λ t. t && (is_number y && (is_number z && rest))) (number_none x p)
none_three x y z rest (Some a) None c p q r h = (λ i. number_is x a p i && (number_none y q i && (is_number z && rest)))
none_three x y z rest (Some a) (Some b) None p q r h = (λ i. number_is x a p i && (number_is y b q i && (number_none z r i && rest)))
none_three x y z rest (Some a) (Some b) (Some c) p q r h = absurd (some_none (sym h))

all_three : (x y z : List ℕ) (n : Numbers) (rest : Bool) → AreTold x y z n → (is_number x && (is_number y && (is_number z && rest))) ≡ rest
all_three x y z n rest h = λ i. number_is x n.reads h.reads i && (number_is y n.writes h.writes i && (number_is z n.units h.units i && rest))

module _ (rs ts : List (List ℕ)) (told : Row) (stage : Stage) (form : IsOf (word.Wait stage) told) where
  at_three : (n : Numbers) → numbers_told told 3 ≡ Some n → AreTold (field_of told 3) (field_of told 4) (field_of told 5) n
  unfolding three
  at_three n h = told_three (field_of told 3) (field_of told 4) (field_of told 5) n (number_told (field_of told 3)) (number_told (field_of told 4)) (number_told (field_of told 5)) refl refl refl h

  at_six : (n : Numbers) → numbers_told told 6 ≡ Some n → AreTold (field_of told 6) (field_of told 7) (field_of told 8) n
  unfolding three
  at_six n h = told_three (field_of told 6) (field_of told 7) (field_of told 8) n (number_told (field_of told 6)) (number_told (field_of told 7)) (number_told (field_of told 8)) refl refl refl h

  pub wait_says : (seat : ℕ) (cover bound : Numbers) → number_in ts (field_of told 1) ≡ Some seat → numbers_told told 3 ≡ Some cover → numbers_told told 6 ≡ Some bound
      → Says (names_by rs ts) (word.Wait stage) told (Waits seat stage cover bound)
  wait_says seat cover bound task first last =
      let a = at_three cover first in
      let b = at_six bound last in
      says_at (names_by rs ts) (word.Wait stage) told form _
      (all_three _ _ _ cover _ a ∙ all_three _ _ _ bound true b)
      (λ i. option_map (line_by (word.Wait stage)) (paired (task i) (paired (a.reads i) (paired (a.writes i) (paired (a.units i) (paired (b.reads i) (paired (b.writes i) (paired (b.units i) (Some tt)))))))))

  pub wait_unknown : (cover bound : Numbers) → number_in ts (field_of told 1) ≡ None → numbers_told told 3 ≡ Some cover → numbers_told told 6 ≡ Some bound → IsUnknown (names_by rs ts) (word.Wait stage) told
  wait_unknown cover bound none first last =
      let a = at_three cover first in
      let b = at_six bound last in
      unknown_at (names_by rs ts) (word.Wait stage) told form
      (all_three _ _ _ cover _ a ∙ all_three _ _ _ bound true b)
      (λ i. paired (none i) (paired (a.reads i) (paired (a.writes i) (paired (a.units i) (paired (b.reads i) (paired (b.writes i) (paired (b.units i) (Some tt))))))))

  pub wait_no_cover : numbers_told told 3 ≡ None → all_counted (fields_of (word.Wait stage)) told ≡ false
  unfolding three
  wait_no_cover none =
      uncounted_at (names_by rs ts) (word.Wait stage) told form
      (none_three (field_of told 3) (field_of told 4) (field_of told 5) (is_number (field_of told 6) && (is_number (field_of told 7) && (is_number (field_of told 8) && true)))
      (number_told (field_of told 3)) (number_told (field_of told 4)) (number_told (field_of told 5)) refl refl refl none)

  pub wait_no_bound : (cover : Numbers) → numbers_told told 3 ≡ Some cover → numbers_told told 6 ≡ None → all_counted (fields_of (word.Wait stage)) told ≡ false
  unfolding three
  wait_no_bound cover first none =
      uncounted_at (names_by rs ts) (word.Wait stage) told form
      (all_three _ _ _ cover _ (at_three cover first)
      ∙ none_three (field_of told 6) (field_of told 7) (field_of told 8) true
      (number_told (field_of told 6)) (number_told (field_of told 7)) (number_told (field_of told 8)) refl refl refl none)
