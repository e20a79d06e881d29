-- Records that are not of a wait: they have no bound.
use Rattle.std.proofs.Common.{◌≡◌, Bool, true, false, Option, Some, None, refl, sym, ap, ◌∙◌, true≢false}
use Rattle.std.specs.Prelude.{option_map, option_and_then}
use Rattle.rclaim.specs.declared.request.Kind.TheVariants.{Read, Write, Mixed, Upgrade, Nested}
use Rattle.rtrace_form.specs.Records.{Row}
use Rattle.rtrace_form.specs.Fields.{Names, Values, read}
use Rattle.rtrace_form.specs.Words.{fields_of, word_in}
use Rattle.rtrace_form.specs.Lines.{line_by, meaning, meant_as}
use Rattle.rtrace_form.specs.SoFar.{names_in}
use Rattle.rtrace_form.specs.WrongBounds.{bound_told, bound_said}
use Rattle.rtrace_form.specs.declared.word.Word.{Word}
use Rattle.rtrace_form.specs.declared.word.Word.TheVariants as word
use Rattle.rtrace_form.specs.Told.{is_event, is_act, is_wait}
use Rattle.rtrace_read.specs.declared.reading.ReportReader.{ReportReader}
use Rattle.rtrace_read.specs.declared.taken.TakenRecord.{TakenRecord}
use Rattle.rtrace_read.specs.Takes.{TellsBound, bound_of}

line_none : (w : Word) (v : Values (fields_of w)) → is_wait w ≡ false → bound_told (line_by w v) ≡ None
line_none word.Version v h = refl
line_none word.Resource v h = refl
line_none word.Group v h = refl
line_none word.Task v h = refl
line_none word.Cap v h = refl
line_none (word.Issue Read) v h = refl
line_none (word.Issue Write) v h = refl
line_none (word.Issue Mixed) v h = refl
line_none (word.Issue Upgrade) v h = refl
line_none (word.Issue Nested) v h = refl
line_none word.Finish v h = refl
line_none word.Rise v h = refl
line_none word.Ask v h = refl
line_none word.Show v h = refl
line_none (word.Add done) v h = refl
line_none (word.Take done) v h = refl
line_none (word.Put done) v h = refl
line_none (word.Entitled half) v h = refl
line_none (word.Satisfied half) v h = refl
line_none word.Grant v h = refl
line_none (word.Wait which) v h = absurd (true≢false h)
line_none word.Ledger v h = refl
line_none word.End v h = refl

none_by : (w : Word) (v : Option (Values (fields_of w))) → is_wait w ≡ false → option_and_then bound_told (option_map (line_by w) v) ≡ None
none_by w None h = refl
none_by w (Some v) h = line_none w v h

-- a record that is not of a wait has no bound
pub none_said : (whole : Bool) (names : Names) (row : Row) (w : Word) → word_in whole row ≡ Some w → is_wait w ≡ false → bound_said whole names row ≡ None
unfolding meaning
none_said whole names row w is other =
    ap (λ (o : Option Word). option_and_then bound_told (meant_as names row o)) is ∙ none_by w (read names (fields_of w) row) other

-- so it has none whatever was said before it
pub tells_none : (old : ReportReader) (row : Row) (w : Word) (what : TakenRecord) → word_in old.whole row ≡ Some w → is_wait w ≡ false → bound_of what ≡ None → TellsBound old row what
tells_none old row w what is other none = λ whole s h. none_said whole (names_in s) row w (ap (λ b. word_in b row) (sym h.kind) ∙ is) other ∙ sym none

pub event_no_wait : (w : Word) → is_event w ≡ true → is_wait w ≡ false
event_no_wait (word.Wait which) h = absurd (true≢false (sym h))
event_no_wait _ h = refl

pub act_no_wait : (w : Word) → is_act w ≡ true → is_wait w ≡ false
act_no_wait (word.Wait which) h = absurd (true≢false (sym h))
act_no_wait _ h = refl
