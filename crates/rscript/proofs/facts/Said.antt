-- What a record with a meaning says, and what a record without a fault says.
use Rattle.std.proofs.Common.{◌≡◌, true, false, not, ◌&&◌, Option, Some, None, refl, sym, ap, subst, ◌∙◌}
use Rattle.rclaim.specs.declared.request.Kind.TheVariants.{Read, Write, Mixed, Upgrade, Nested}
use Rattle.rtrace_form.specs.Records.{Row}
use Rattle.rtrace_form.specs.Fields.{Names, Values, read, all_counted, all_known}
use Rattle.rtrace_form.specs.Heads.{is_nil}
use Rattle.rtrace_form.specs.Walks.{when, first_of}
use Rattle.rtrace_form.proofs.facts.Choices.{some_none, map_some}
use Rattle.rtrace_form.proofs.facts.ReadGood.{read_good}
use Rattle.rtrace_form.proofs.facts.Tests.{not_false}
use Rattle.rtrace_form.proofs.facts.Walks.{when_not, or_none}
use Rattle.rscript.specs.Words.{fields_of, word_in}
use Rattle.rscript.specs.Lines.{Line, line_by, word_of, meaning, meant_as, names_of}
use Rattle.rscript.specs.Causes.{meant_causes}
use Rattle.rscript.specs.declared.word.ScriptWord.{ScriptWord}
use Rattle.rscript.specs.declared.word.ScriptWord.TheVariants as word
use Rattle.rscript.specs.declared.code.ScriptCode.TheVariants.{BadOrder, NoResources, NoTask, UnknownName, BadNumber}
use Rattle.rscript.proofs.record_facts.Causes.{none_of_both}
use Rattle.rscript.specs.SoFar.{SoFar, section_of}
use Rattle.rscript.specs.Faults.{may_stand, needs_resources, is_end, declared_causes, code_of, code_by}
use Rattle.rscript.proofs.facts.Fine.{IsFine, IsNext, fine_by}

-- the word of a line is that of the record that said it
pub word_by : (w : ScriptWord) (v : Values (fields_of w)) → word_of (line_by w v) ≡ w
word_by word.Version v = refl
word_by word.Resource v = refl
word_by word.Group v = refl
word_by word.Task v = refl
word_by (word.Begin Read) v = refl
word_by (word.Begin Write) v = refl
word_by (word.Begin Mixed) v = refl
word_by (word.Begin Upgrade) v = refl
word_by (word.Begin Nested) v = refl
word_by word.Show v = refl
word_by word.Add v = refl
word_by word.Take v = refl
word_by word.Put v = refl
word_by word.Ask v = refl
word_by word.Rise v = refl
word_by word.Finish v = refl
word_by word.End v = refl

-- a record says this line: it is of this word, and its fields say these values
pub record Says (names : Names) (row : Row) (line : Line) : Type 0 where
  pub of : ScriptWord
  pub values : Values (fields_of of)
  pub is : word_in row ≡ Some of
  pub reads : read names (fields_of of) row ≡ Some values
  pub tells : line_by of values ≡ line

says_of : (names : Names) (row : Row) (line : Line) (o : Option ScriptWord) → word_in row ≡ o → meant_as names row o ≡ Some line → Says names row line
says_of names row line None is h = absurd (some_none h)
says_of names row line (Some w) is h =
    let told = map_some (line_by w) (read names (fields_of w) row) line h in
    record { of = w; values = told.0; is = is; reads = told.1; tells = told.2 }

pub says : (names : Names) (row : Row) (line : Line) → meaning names row ≡ Some line → Says names row line
unfolding meaning
says names row line h = says_of names row line (word_in row) refl h

-- a record without a fault: it says a line that may come next
pub record IsClean (s : SoFar) (row : Row) : Type 0 where
  pub line : Line
  pub means : meaning (names_of s.resources) row ≡ Some line
  pub next : IsNext s line

clean_as : (s : SoFar) (row : Row) (w : ScriptWord) (o : Option Line) → word_in row ≡ Some w → meant_as (names_of s.resources) row (Some w) ≡ o
    → may_stand s w ≡ true → (needs_resources w && is_nil s.resources) ≡ false → (is_end w && is_nil s.tasks) ≡ false
    → first_of (declared_causes s w row) ≡ None → first_of (meant_causes s.groups (section_of s.latest) o) ≡ None → IsClean s row
unfolding meaning
clean_as s row w None is means placed resources task declared line = absurd (some_none (sym line))
clean_as s row w (Some line) is means placed resources task declared free =
    let told = map_some (line_by w) (read (names_of s.resources) (fields_of w) row) line means in
    let of : w ≡ word_of line = sym (word_by w told.0) ∙ ap word_of told.2 in
    let good = read_good (names_of s.resources) (fields_of w) row told.0 told.1 in
    record {
      line = line;
      means = ap (meant_as (names_of s.resources) row) is ∙ means;
      next = record {
        placed = subst (λ (v : ScriptWord). may_stand s v ≡ true) of placed;
        resources = subst (λ (v : ScriptWord). (needs_resources v && is_nil s.resources) ≡ false) of resources;
        task = subst (λ (v : ScriptWord). (is_end v && is_nil s.tasks) ≡ false) of task;
        fine = subst (λ (l : Line). IsFine s l) told.2 (fine_by s row w told.0 told.1 good declared (subst (λ (l : Line). first_of (meant_causes s.groups (section_of s.latest) (Some l)) ≡ None) (sym told.2) free));
      };
    }

clean_by : (s : SoFar) (row : Row) (o : Option ScriptWord) → word_in row ≡ o → code_by s row o ≡ None → IsClean s row
clean_by s row None is h = absurd (some_none (sym h))
clean_by s row (Some w) is h =
    let a = or_none (when (not (may_stand s w)) BadOrder) _ h in
    let b = or_none (when (needs_resources w && is_nil s.resources) NoResources) _ a.1 in
    let c = or_none (when (is_end w && is_nil s.tasks) NoTask) _ b.1 in
    let d = none_of_both (declared_causes s w row) _ c.1 in
    let e = or_none (when (not (all_known (names_of s.resources) (fields_of w) row)) UnknownName) _ d.1 in
    let f = or_none (when (not (all_counted (fields_of w) row)) BadNumber) _ e.1 in
    clean_as s row w (meant_as (names_of s.resources) row (Some w)) is refl
    (not_false (may_stand s w) (when_not (not (may_stand s w)) BadOrder a.0))
    (when_not (needs_resources w && is_nil s.resources) NoResources b.0)
    (when_not (is_end w && is_nil s.tasks) NoTask c.0)
    d.0 f.1

pub clean : (s : SoFar) (row : Row) → code_of s row ≡ None → IsClean s row
unfolding code_of
clean s row h = clean_by s row (word_in row) refl h
