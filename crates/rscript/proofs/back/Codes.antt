-- A record that says a line that may come next has no fault.
use Rattle.std.proofs.Common.{◌≡◌, Bool, true, false, not, ◌&&◌, ◌==◌, List, [], ◌∷◌, ◌++◌, length, Option, Some, None, refl, sym, ap, subst, ◌∙◌}
use Rattle.std.proofs.lemmas.Bool.{and_from}
use Rattle.std.specs.FinSet.{len}
use Rattle.std.specs.Prelude.{is_none, option_map}
use Rattle.rset.specs.Names.{number_in}
use Rattle.rset.specs.declared.TheConstants.{RESOURCES, SEATS}
use Rattle.rexpand.specs.declared.TheConstants.{GROUPS}
use Rattle.rtrace_form.specs.Records.{Row}
use Rattle.rtrace_form.specs.Decided.{field_of}
use Rattle.rtrace_form.specs.Numbers.{number_told, length_told, cap_told}
use Rattle.rtrace_form.specs.SetFields.{set_told}
use Rattle.rtrace_form.specs.Fields.{Names, Field, Said, Fresh, OneResource, OneTask, Members, Number, Length, Limit, Values, all_counted, all_known, read}
use Rattle.rtrace_form.specs.Heads.{is_nil, is_bad_name}
use Rattle.rtrace_form.specs.Walks.{when, or_else, first_of}
use Rattle.rtrace_form.proofs.facts.Choices.{map_some}
use Rattle.rtrace_form.proofs.facts.ReadGood.{pair_some}
use Rattle.rtrace_form.proofs.back.Rows.{read_counted}
use Rattle.rscript.specs.Words.{fields_of}
use Rattle.rscript.specs.Lines.{Line, Opens, HasResource, HasGroup, HasTask, Does, Ends, line_by, word_of, meaning, meant_as, names_of}
use Rattle.rscript.specs.Causes.{line_causes, meant_causes}
use Rattle.rscript.specs.declared.word.ScriptWord.{ScriptWord}
use Rattle.rscript.specs.declared.word.ScriptWord.TheVariants as word
use Rattle.rscript.specs.declared.code.ScriptCode.{ScriptCode}
use Rattle.rscript.specs.declared.code.ScriptCode.TheVariants.{BadOrder, NoResources, NoTask, TooMany, UnknownName, BadNumber, EmptyGroup}
use Rattle.rscript.proofs.record_facts.Causes.{first_of-append, name_none, statement_none}
use Rattle.rscript.specs.SoFar.{SoFar, section_of}
use Rattle.rscript.specs.Faults.{may_stand, needs_resources, is_end, declared_causes, code_of, code_by}
use Rattle.rscript.proofs.facts.Fine.{IsFine, IsNext, fresh_is}
use Rattle.rscript.proofs.facts.Said.{says, word_by}

there : {X : Type 0} (o : Option X) (x : X) → o ≡ Some x → not (is_none o) ≡ true
there o x h = ap (λ p. not (is_none p)) h

-- the fields of a record of a line name what was declared
read_known : (names : Names) (fs : List Field) (row : Row) (v : Values fs) → read names fs row ≡ Some v → all_known names fs row ≡ true
unfolding read all_known
read_known names [] row v h = refl
read_known names (f ∷ fs) [] v h = refl
read_known names (Said text ∷ fs) (x ∷ row) v h = read_known names fs row v h
read_known names (Fresh ∷ fs) (x ∷ row) v h = let told = map_some (λ b. (x, b)) (read names fs row) v h in read_known names fs row told.0 told.1
read_known names (OneResource ∷ fs) (x ∷ row) v h =
    let told = pair_some (number_in names.resources x) (read names fs row) v h in and_from _ _ (there (number_in names.resources x) v.0 told.0) (read_known names fs row v.1 told.1)
read_known names (OneTask ∷ fs) (x ∷ row) v h =
    let told = pair_some (number_in names.tasks x) (read names fs row) v h in and_from _ _ (there (number_in names.tasks x) v.0 told.0) (read_known names fs row v.1 told.1)
read_known names (Members ∷ fs) (x ∷ row) v h =
    let told = pair_some (set_told names.resources x) (read names fs row) v h in and_from _ _ (there (set_told names.resources x) v.0 told.0) (read_known names fs row v.1 told.1)
read_known names (Number ∷ fs) (x ∷ row) v h = let told = pair_some (number_told x) (read names fs row) v h in read_known names fs row v.1 told.1
read_known names (Length ∷ fs) (x ∷ row) v h = let told = pair_some (length_told x) (read names fs row) v h in read_known names fs row v.1 told.1
read_known names (Limit ∷ fs) (x ∷ row) v h = let told = pair_some (cap_told x) (read names fs row) v h in read_known names fs row v.1 told.1

when_none : {C : Type 0} (b : Bool) (c : C) → b ≡ false → first_of (when b c ∷ []) ≡ None
when_none b c h = rw h refl

module _ (s : SoFar) where
  -- what is declared without a fault has no fault
  declared_none : (row : Row) (w : ScriptWord) (v : Values (fields_of w)) → read (names_of s.resources) (fields_of w) row ≡ Some v → IsFine s (line_by w v) → first_of (declared_causes s w row) ≡ None
  declared_none row word.Version v reads fine = refl
  declared_none row word.Resource v reads fine =
      name_none RESOURCES s.resources (field_of row 1) (ap (is_bad_name RESOURCES s.resources) (fresh_is (names_of s.resources) _ row v reads) ∙ fine)
  declared_none row word.Group v reads fine = when_none (length s.groups == GROUPS) TooMany fine.0
  declared_none row word.Task v reads fine =
      name_none SEATS s.tasks (field_of row 1) (ap (is_bad_name SEATS s.tasks) (fresh_is (names_of s.resources) _ row v reads) ∙ fine)
  declared_none row (word.Begin kind) v reads fine = refl
  declared_none row word.Show v reads fine = refl
  declared_none row word.Add v reads fine = refl
  declared_none row word.Take v reads fine = refl
  declared_none row word.Put v reads fine = refl
  declared_none row word.Ask v reads fine = refl
  declared_none row word.Rise v reads fine = refl
  declared_none row word.Finish v reads fine = refl
  declared_none row word.End v reads fine = refl

  line_none : (line : Line) → IsFine s line → first_of (line_causes s.groups (section_of s.latest) line) ≡ None
  line_none Opens fine = refl
  line_none (HasResource name) fine = refl
  line_none (HasGroup group) fine = when_none (len group == 0) EmptyGroup fine.1
  line_none (HasTask name) fine = refl
  line_none (Does done) fine = statement_none s.groups (section_of s.latest) done fine.1
  line_none Ends fine = refl

none_of : (a b c d e : Bool) (declared line : List (Option ScriptCode)) → a ≡ true → b ≡ false → c ≡ false → first_of declared ≡ None → d ≡ true → e ≡ true → first_of line ≡ None
    → first_of (when (not a) BadOrder ∷ when b NoResources ∷ when c NoTask ∷ (declared ++ when (not d) UnknownName ∷ when (not e) BadNumber ∷ line)) ≡ None
none_of a b c d e declared line p q r none t u free =
    rw (p, q, r) (first_of-append declared (when (not d) UnknownName ∷ when (not e) BadNumber ∷ line) ∙ ap (λ (o : Option ScriptCode). or_else o (first_of (when (not d) UnknownName ∷ when (not e) BadNumber ∷ line))) none ∙ rw (t, u) free)

pub no_code : (s : SoFar) (row : Row) (line : Line) → meaning (names_of s.resources) row ≡ Some line → IsNext s line → code_of s row ≡ None
unfolding code_of
no_code s row line means next =
    let told = says (names_of s.resources) row line means in
    let of : word_of line ≡ told.of = ap word_of (sym told.tells) ∙ word_by told.of told.values in
    let meant : meant_as (names_of s.resources) row (Some told.of) ≡ Some line = ap (option_map (line_by told.of)) told.reads ∙ ap (λ (l : Line). Some l) told.tells in
    let fine : IsFine s (line_by told.of told.values) = subst (λ (l : Line). IsFine s l) (sym told.tells) next.fine in
    ap (code_by s row) told.is
    ∙ none_of (may_stand s told.of) (needs_resources told.of && is_nil s.resources) (is_end told.of && is_nil s.tasks)
    (all_known (names_of s.resources) (fields_of told.of) row) (all_counted (fields_of told.of) row)
    (declared_causes s told.of row) (meant_causes s.groups (section_of s.latest) (meant_as (names_of s.resources) row (Some told.of)))
    (subst (λ (w : ScriptWord). may_stand s w ≡ true) of next.placed)
    (subst (λ (w : ScriptWord). (needs_resources w && is_nil s.resources) ≡ false) of next.resources)
    (subst (λ (w : ScriptWord). (is_end w && is_nil s.tasks) ≡ false) of next.task)
    (declared_none s row told.of told.values told.reads fine)
    (read_known (names_of s.resources) (fields_of told.of) row told.values told.reads)
    (read_counted (names_of s.resources) (fields_of told.of) row told.values told.reads)
    (ap (λ (o : Option Line). first_of (meant_causes s.groups (section_of s.latest) o)) meant ∙ line_none s line next.fine)
