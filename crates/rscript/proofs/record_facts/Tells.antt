-- What the record of a statement says, by its fields.
use Rattle.std.proofs.Common.{◌≡◌, ℕ, Bool, true, false, not, ◌&&◌, cond, codes, List, [], ◌∷◌, Option, Some, None, refl, sym, ap, subst, ◌∙◌, true≢false}
use Rattle.std.specs.Prelude.{is_none, option_map}
use Rattle.rset.specs.Names.{number_in}
use Rattle.rset.specs.Sets.{Set}
use Rattle.rclaim.specs.declared.request.Kind.{Kind}
use Rattle.rtrace_form.specs.Records.{Row}
use Rattle.rtrace_form.specs.Decided.{field_of}
use Rattle.rtrace_form.specs.Numbers.{is_number, read_on, number_told}
use Rattle.rtrace_form.specs.SetFields.{set_told}
use Rattle.rtrace_form.specs.Fields.{paired, read, all_known, all_counted, Said, OneResource, Members, Number, is_as_long}
use Rattle.rtrace_form.specs.Walks.{when, first_of}
use Rattle.rtrace_form.proofs.facts.Choices.{some_none}
use Rattle.rtrace_form.proofs.facts.ReadGood.{chosen}
use Rattle.rscript.specs.Words.{fields_of, word_in}
use Rattle.rscript.specs.Lines.{Line, names_of, line_by, meant_as}
use Rattle.rscript.specs.Causes.{statement_causes, meant_causes, said_causes}
use Rattle.rscript.specs.Told.{is_edit, is_statement, edit_by, Tells, IsWrong}
use Rattle.rscript.specs.declared.code.ScriptCode.{ScriptCode}
use Rattle.rscript.specs.declared.code.ScriptCode.TheVariants.{UnknownName, BadNumber}
use Rattle.rscript.specs.declared.section.OpenSection.{OpenSection}
use Rattle.rscript.specs.declared.statement.Statement.{Statement}
use Rattle.rscript.specs.declared.statement.Statement.TheVariants as statement
use Rattle.rscript.specs.declared.word.ScriptWord.{ScriptWord}
use Rattle.rscript.specs.declared.word.ScriptWord.TheVariants as word
use Rattle.rscript.proofs.record_facts.Shapes.{long_of, one_row, two_row, three_row}

-- ---- codes

unknown_first : (a b : Bool) (line : List (Option ScriptCode)) → a ≡ false → first_of (when (not a) UnknownName ∷ when (not b) BadNumber ∷ line) ≡ Some UnknownName
unknown_first a b line p = rw p refl

uncounted_first : (a b : Bool) (line : List (Option ScriptCode)) → a ≡ true → b ≡ false → first_of (when (not a) UnknownName ∷ when (not b) BadNumber ∷ line) ≡ Some BadNumber
uncounted_first a b line p q = rw (p, q) refl

-- where the fields are right, what is wrong is what is wrong with what they say
pub line_first : (a b : Bool) (line : List (Option ScriptCode)) → a ≡ true → b ≡ true → first_of (when (not a) UnknownName ∷ when (not b) BadNumber ∷ line) ≡ first_of line
line_first a b line p q = rw (p, q) refl

module _ (resources : List (List ℕ)) (w : ScriptWord) (row : Row) where
  pub unknown_wrong : all_known (names_of resources) (fields_of w) row ≡ false → IsWrong resources w row UnknownName
  unknown_wrong h = λ groups section. unknown_first _ (all_counted (fields_of w) row) (meant_causes groups section (meant_as (names_of resources) row (Some w))) h

  pub uncounted_wrong : all_known (names_of resources) (fields_of w) row ≡ true → all_counted (fields_of w) row ≡ false → IsWrong resources w row BadNumber
  uncounted_wrong h k = λ groups section. uncounted_first _ _ (meant_causes groups section (meant_as (names_of resources) row (Some w))) h k

  -- what is wrong with a record that says a statement is what is wrong with the statement
  pub told_causes : (st : Statement) → Tells resources w row st → (groups : List Set) (section : Option OpenSection) → first_of (said_causes resources groups section row w) ≡ first_of (statement_causes groups section st)
  told_causes st h groups section =
      line_first _ _ (meant_causes groups section (meant_as (names_of resources) row (Some w))) h.known h.counted
      ∙ ap (λ (o : Option Line). first_of (meant_causes groups section o)) h.means

-- ---- what the fields say

module _ (rs : List (List ℕ)) where
  show_fields : (a x : List ℕ) (place : ℕ) → number_in rs x ≡ Some place → Tells rs word.Show (a ∷ x ∷ []) (statement.Show place)
  unfolding all_known all_counted read
  show_fields a x place h = record {
    known = ap (λ o. not (is_none o) && true) h;
    counted = refl;
    means = ap (λ o. option_map (line_by word.Show) (paired o (Some tt))) h;
  }

  show_none : (a x : List ℕ) → number_in rs x ≡ None → all_known (names_of rs) (fields_of word.Show) (a ∷ x ∷ []) ≡ false
  unfolding all_known
  show_none a x h = ap (λ o. not (is_none o) && true) h

  pub show_tells : (row : Row) (place : ℕ) → word_in row ≡ Some word.Show → number_in rs (field_of row 1) ≡ Some place → Tells rs word.Show row (statement.Show place)
  show_tells row place is h =
      subst (λ (r : Row). Tells rs word.Show r (statement.Show place)) (sym (two_row (Said (codes "show")) OneResource row (long_of word.Show row is))) (show_fields (field_of row 0) (field_of row 1) place h)

  pub show_unknown : (row : Row) → word_in row ≡ Some word.Show → number_in rs (field_of row 1) ≡ None → IsWrong rs word.Show row UnknownName
  show_unknown row is h =
      unknown_wrong rs word.Show row (ap (all_known (names_of rs) (fields_of word.Show)) (two_row (Said (codes "show")) OneResource row (long_of word.Show row is)) ∙ show_none (field_of row 0) (field_of row 1) h)

  ask_fields : (a x : List ℕ) (part : Set) → set_told rs x ≡ Some part → Tells rs word.Ask (a ∷ x ∷ []) (statement.Ask part)
  unfolding all_known all_counted read
  ask_fields a x part h = record {
    known = ap (λ o. not (is_none o) && true) h;
    counted = refl;
    means = ap (λ o. option_map (line_by word.Ask) (paired o (Some tt))) h;
  }

  ask_none : (a x : List ℕ) → set_told rs x ≡ None → all_known (names_of rs) (fields_of word.Ask) (a ∷ x ∷ []) ≡ false
  unfolding all_known
  ask_none a x h = ap (λ o. not (is_none o) && true) h

  pub ask_tells : (row : Row) (part : Set) → word_in row ≡ Some word.Ask → set_told rs (field_of row 1) ≡ Some part → Tells rs word.Ask row (statement.Ask part)
  ask_tells row part is h =
      subst (λ (r : Row). Tells rs word.Ask r (statement.Ask part)) (sym (two_row (Said (codes "ask")) Members row (long_of word.Ask row is))) (ask_fields (field_of row 0) (field_of row 1) part h)

  pub ask_unknown : (row : Row) → word_in row ≡ Some word.Ask → set_told rs (field_of row 1) ≡ None → IsWrong rs word.Ask row UnknownName
  ask_unknown row is h =
      unknown_wrong rs word.Ask row (ap (all_known (names_of rs) (fields_of word.Ask)) (two_row (Said (codes "ask")) Members row (long_of word.Ask row is)) ∙ ask_none (field_of row 0) (field_of row 1) h)

  rise_fields : (a : List ℕ) → Tells rs word.Rise (a ∷ []) statement.Rise
  unfolding all_known all_counted read
  rise_fields a = record { known = refl; counted = refl; means = refl }

  finish_fields : (a : List ℕ) → Tells rs word.Finish (a ∷ []) statement.Finish
  unfolding all_known all_counted read
  finish_fields a = record { known = refl; counted = refl; means = refl }

  pub rise_tells : (row : Row) → word_in row ≡ Some word.Rise → Tells rs word.Rise row statement.Rise
  rise_tells row is = subst (λ (r : Row). Tells rs word.Rise r statement.Rise) (sym (one_row (Said (codes "rise")) row (long_of word.Rise row is))) (rise_fields (field_of row 0))

  pub finish_tells : (row : Row) → word_in row ≡ Some word.Finish → Tells rs word.Finish row statement.Finish
  finish_tells row is = subst (λ (r : Row). Tells rs word.Finish r statement.Finish) (sym (one_row (Said (codes "finish")) row (long_of word.Finish row is))) (finish_fields (field_of row 0))

  -- ---- edits

  told_number : (x : List ℕ) (n : ℕ) → number_told x ≡ Some n → is_number x ≡ true
  told_number x n h = (chosen (is_number x) (read_on 0 x) n h).0

  no_number : (x : List ℕ) → number_told x ≡ None → is_number x ≡ false
  no_number x h = at (is_number x) h
    where
      at : (b : Bool) → cond b (Some (read_on 0 x)) None ≡ None → b ≡ false
      at true e = absurd (some_none (sym e))
      at false e = refl

  edit_fields : (w : ScriptWord) (a x y : List ℕ) (place n : ℕ) → is_edit w ≡ true → number_in rs x ≡ Some place → number_told y ≡ Some n → Tells rs w (a ∷ x ∷ y ∷ []) (statement.Edit place (edit_by w n))
  unfolding all_known all_counted read
  edit_fields word.Add a x y place n e h k = record {
    known = ap (λ o. not (is_none o) && true) h;
    counted = ap (λ b. b && true) (told_number y n k);
    means = λ i. option_map (line_by word.Add) (paired (h i) (paired (k i) (Some tt)));
  }
  edit_fields word.Take a x y place n e h k = record {
    known = ap (λ o. not (is_none o) && true) h;
    counted = ap (λ b. b && true) (told_number y n k);
    means = λ i. option_map (line_by word.Take) (paired (h i) (paired (k i) (Some tt)));
  }
  edit_fields word.Put a x y place n e h k = record {
    known = ap (λ o. not (is_none o) && true) h;
    counted = ap (λ b. b && true) (told_number y n k);
    means = λ i. option_map (line_by word.Put) (paired (h i) (paired (k i) (Some tt)));
  }
  edit_fields _ a x y place n e h k = absurd (true≢false (sym e))

  edit_long : (w : ScriptWord) (row : Row) → is_edit w ≡ true → is_as_long (fields_of w) row ≡ true → row ≡ field_of row 0 ∷ field_of row 1 ∷ field_of row 2 ∷ []
  edit_long word.Add row e h = three_row (Said (codes "add")) OneResource Number row h
  edit_long word.Take row e h = three_row (Said (codes "take")) OneResource Number row h
  edit_long word.Put row e h = three_row (Said (codes "set")) OneResource Number row h
  edit_long _ row e h = absurd (true≢false (sym e))

  edit_none : (w : ScriptWord) (a x y : List ℕ) → is_edit w ≡ true → number_in rs x ≡ None → all_known (names_of rs) (fields_of w) (a ∷ x ∷ y ∷ []) ≡ false
  unfolding all_known
  edit_none word.Add a x y e h = ap (λ o. not (is_none o) && true) h
  edit_none word.Take a x y e h = ap (λ o. not (is_none o) && true) h
  edit_none word.Put a x y e h = ap (λ o. not (is_none o) && true) h
  edit_none _ a x y e h = absurd (true≢false (sym e))

  edit_known : (w : ScriptWord) (a x y : List ℕ) (place : ℕ) → is_edit w ≡ true → number_in rs x ≡ Some place → all_known (names_of rs) (fields_of w) (a ∷ x ∷ y ∷ []) ≡ true
  unfolding all_known
  edit_known word.Add a x y place e h = ap (λ o. not (is_none o) && true) h
  edit_known word.Take a x y place e h = ap (λ o. not (is_none o) && true) h
  edit_known word.Put a x y place e h = ap (λ o. not (is_none o) && true) h
  edit_known _ a x y place e h = absurd (true≢false (sym e))

  edit_uncounted : (w : ScriptWord) (a x y : List ℕ) → is_edit w ≡ true → number_told y ≡ None → all_counted (fields_of w) (a ∷ x ∷ y ∷ []) ≡ false
  unfolding all_counted
  edit_uncounted word.Add a x y e h = ap (λ b. b && true) (no_number y h)
  edit_uncounted word.Take a x y e h = ap (λ b. b && true) (no_number y h)
  edit_uncounted word.Put a x y e h = ap (λ b. b && true) (no_number y h)
  edit_uncounted _ a x y e h = absurd (true≢false (sym e))

  module _ (w : ScriptWord) (row : Row) (is : word_in row ≡ Some w) (e : is_edit w ≡ true) where
    are_three : row ≡ field_of row 0 ∷ field_of row 1 ∷ field_of row 2 ∷ []
    are_three = edit_long w row e (long_of w row is)

    pub edit_tells : (place n : ℕ) → number_in rs (field_of row 1) ≡ Some place → number_told (field_of row 2) ≡ Some n → Tells rs w row (statement.Edit place (edit_by w n))
    edit_tells place n h k =
        subst (λ (r : Row). Tells rs w r (statement.Edit place (edit_by w n))) (sym are_three) (edit_fields w (field_of row 0) (field_of row 1) (field_of row 2) place n e h k)

    pub edit_unknown : number_in rs (field_of row 1) ≡ None → IsWrong rs w row UnknownName
    edit_unknown h = unknown_wrong rs w row (ap (all_known (names_of rs) (fields_of w)) are_three ∙ edit_none w (field_of row 0) (field_of row 1) (field_of row 2) e h)

    pub edit_no_number : (place : ℕ) → number_in rs (field_of row 1) ≡ Some place → number_told (field_of row 2) ≡ None → IsWrong rs w row BadNumber
    edit_no_number place h k =
        uncounted_wrong rs w row
        (ap (all_known (names_of rs) (fields_of w)) are_three ∙ edit_known w (field_of row 0) (field_of row 1) (field_of row 2) place e h)
        (ap (all_counted (fields_of w)) are_three ∙ edit_uncounted w (field_of row 0) (field_of row 1) (field_of row 2) e k)

-- a statement that is none of the others is a finish
pub finish_by : (w : ScriptWord) → is_statement w ≡ true → ((kind : Kind) → w ≡ word.Begin kind → ⊥) → (w ≡ word.Show → ⊥) → (w ≡ word.Add → ⊥) → (w ≡ word.Take → ⊥) → (w ≡ word.Put → ⊥) → (w ≡ word.Ask → ⊥)
    → (w ≡ word.Rise → ⊥) → w ≡ word.Finish
finish_by (word.Begin kind) h o1 o2 o3 o4 o5 o6 o7 = absurd (o1 kind refl)
finish_by word.Show h o1 o2 o3 o4 o5 o6 o7 = absurd (o2 refl)
finish_by word.Add h o1 o2 o3 o4 o5 o6 o7 = absurd (o3 refl)
finish_by word.Take h o1 o2 o3 o4 o5 o6 o7 = absurd (o4 refl)
finish_by word.Put h o1 o2 o3 o4 o5 o6 o7 = absurd (o5 refl)
finish_by word.Ask h o1 o2 o3 o4 o5 o6 o7 = absurd (o6 refl)
finish_by word.Rise h o1 o2 o3 o4 o5 o6 o7 = absurd (o7 refl)
finish_by word.Finish h o1 o2 o3 o4 o5 o6 o7 = refl
finish_by _ h o1 o2 o3 o4 o5 o6 o7 = absurd (true≢false (sym h))
