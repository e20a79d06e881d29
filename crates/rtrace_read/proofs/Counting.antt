-- Records that were taken, and how they are counted.
use Rattle.std.proofs.Common.{◌≡◌, true, Option, Some, sym, subst, true≢false}
use Rattle.rtrace_form.specs.Records.{Row}
use Rattle.rtrace_form.specs.Words.{word_in}
use Rattle.rtrace_form.specs.declared.word.Word.{Word}
use Rattle.rtrace_form.specs.declared.word.Word.TheVariants as word
use Rattle.rtrace_form.specs.Told.{is_status}
use Rattle.rtrace_read.specs.declared.reading.ReportReader.{ReportReader}
use Rattle.rtrace_read.specs.declared.taken.TakenRecord.TheVariants as taken
use Rattle.rtrace_read.specs.Takes.{OneMoreTold, CountsWord, CountsRow}

-- a record of this word is counted as the word is
pub word_counts : (old new : ReportReader) (row : Row) (w : Word) → word_in old.whole row ≡ Some w → CountsWord (Some w) old new → CountsRow old new row taken.Other
word_counts old new row w is h = subst (λ (o : Option Word). CountsWord o old new) (sym is) h

pub status_counts : (old new : ReportReader) (w : Word) → is_status w ≡ true → OneMoreTold old new → CountsWord (Some w) old new
status_counts old new (word.Entitled half) is h = h
status_counts old new (word.Satisfied half) is h = h
status_counts old new _ is h = absurd (true≢false (sym is))
