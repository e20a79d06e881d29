-- What a record says if it has a meaning, and what a record without a fault says.
use Rattle.std.proofs.Common.{◌≡◌, Bool, false, not, Option, Some, None, refl, sym, ap, ◌∙◌}
use Rattle.rclaim.specs.declared.request.Kind.TheVariants.{Read, Write, Mixed, Upgrade, Nested}
use Rattle.rtrace_form.specs.Records.{Row}
use Rattle.rtrace_form.specs.Fields.{Names, Values, read, all_counted}
use Rattle.rtrace_form.specs.Words.{fields_of, word_in}
use Rattle.rtrace_form.specs.Lines.{Line, line_by, word_of, meaning, meant_as}
use Rattle.rtrace_form.specs.SoFar.{SoFar, names_in}
use Rattle.rtrace_form.specs.Walks.{when, or_else}
use Rattle.rtrace_form.specs.Faults.{is_group_more, code_of, code_by, code_of_meaning}
use Rattle.rtrace_form.specs.declared.word.Word.{Word}
use Rattle.rtrace_form.specs.declared.word.Word.TheVariants as word
use Rattle.rtrace_form.specs.declared.fault.Code.TheVariants.{BadField}
use Rattle.rtrace_form.proofs.facts.Choices.{some_none, map_some}
use Rattle.rtrace_form.proofs.facts.Walks.{when_not, or_none}
use Rattle.rtrace_form.proofs.facts.Fine.{IsFine, fine_without_code}

-- the word of a line is that of the record that said it
pub word_by : (w : Word) (v : Values (fields_of w)) → word_of (line_by w v) ≡ w
word_by word.Version v = refl
word_by word.Resource v = refl
word_by word.Group v = refl
word_by word.Task v = refl
word_by word.Cap v = refl
word_by (word.Issue Read) v = refl
word_by (word.Issue Write) v = refl
word_by (word.Issue Mixed) v = refl
word_by (word.Issue Upgrade) v = refl
word_by (word.Issue Nested) v = refl
word_by word.Finish v = refl
word_by word.Rise v = refl
word_by word.Ask v = refl
word_by word.Show v = refl
word_by (word.Add done) v = refl
word_by (word.Take done) v = refl
word_by (word.Put done) v = refl
word_by (word.Entitled write_half) v = refl
word_by (word.Satisfied write_half) v = refl
word_by word.Grant v = refl
word_by (word.Wait which) v = refl
word_by word.Ledger v = refl
word_by word.End v = refl

-- a record says this line: it is of this word, and its fields say these values
pub record Says (whole : Bool) (names : Names) (row : Row) (line : Line) : Type 0 where
  pub of : Word
  pub values : Values (fields_of of)
  pub is : word_in whole row ≡ Some of
  pub reads : read names (fields_of of) row ≡ Some values
  pub tells : line_by of values ≡ line

says_of : (whole : Bool) (names : Names) (row : Row) (line : Line) (o : Option Word) → word_in whole row ≡ o → meant_as names row o ≡ Some line → Says whole names row line
says_of whole names row line None is h = absurd (some_none h)
says_of whole names row line (Some w) is h =
    let told = map_some (line_by w) (read names (fields_of w) row) line h in
    record { of = w; values = told.0; is = is; reads = told.1; tells = told.2 }

pub says : (whole : Bool) (names : Names) (row : Row) (line : Line) → meaning whole names row ≡ Some line → Says whole names row line
unfolding meaning
says whole names row line h = says_of whole names row line (word_in whole row) refl h

-- a record without a fault: it says a line in which nothing is wrong
pub record IsClean (whole : Bool) (s : SoFar) (row : Row) : Type 0 where
  pub line : Line
  pub means : meaning whole (names_in s) row ≡ Some line
  pub room : is_group_more s (word_of line) ≡ false
  pub fine : IsFine whole s line

clean_as : (whole : Bool) (s : SoFar) (row : Row) (w : Word) (o : Option Line) → word_in whole row ≡ Some w → meant_as (names_in s) row (Some w) ≡ o
    → is_group_more s w ≡ false → code_of_meaning whole s o ≡ None → IsClean whole s row
unfolding meaning
clean_as whole s row w None is means room h = absurd (some_none (sym h))
clean_as whole s row w (Some line) is means room h =
    let told = map_some (line_by w) (read (names_in s) (fields_of w) row) line means in
    record {
      line = line;
      means = ap (meant_as (names_in s) row) is ∙ means;
      room = ap (is_group_more s) (sym (ap word_of told.2) ∙ word_by w told.0) ∙ room;
      fine = fine_without_code whole s line h;
    }

pub last_none : {X : Type 0} (a : Option X) → or_else a None ≡ None → a ≡ None
last_none None h = refl
last_none (Some x) h = h

clean_by : (whole : Bool) (s : SoFar) (row : Row) (o : Option Word) → word_in whole row ≡ o → code_by whole s row o ≡ None → IsClean whole s row
clean_by whole s row None is h = absurd (some_none (sym h))
clean_by whole s row (Some w) is h =
    let a = or_none (when (not (all_counted (fields_of w) row)) BadField) _ h in
    let b = or_none (when (is_group_more s w) BadField) _ a.1 in
    clean_as whole s row w (meant_as (names_in s) row (Some w)) is refl (when_not (is_group_more s w) BadField b.0) (last_none _ b.1)

pub clean : (whole : Bool) (s : SoFar) (row : Row) → code_of whole s row ≡ None → IsClean whole s row
unfolding code_of
clean whole s row h = clean_by whole s row (word_in whole row) refl h
