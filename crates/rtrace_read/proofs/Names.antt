-- The names after a refused record.
use Rattle.std.proofs.Common.{◌≡◌, inl, inr, ℕ, List, [], Option, Some, sym, ap, subst}
use Rattle.rtrace_form.specs.Decided.{field_of}
use Rattle.rtrace_form.specs.Records.{Row}
use Rattle.rtrace_form.specs.Words.{word_in}
use Rattle.rtrace_form.specs.declared.word.Word.{Word}
use Rattle.rtrace_form.specs.declared.word.Word.TheVariants as word
use Rattle.rtrace_read.specs.declared.reading.ReportReader.{ReportReader}
use Rattle.rtrace_read.specs.LineTakes.{IsAsBefore, MayStand}
use Rattle.rtrace_read.specs.Takes.{NamesBehind, NamesStay, OneMoreAtMost}

pub resource_names : (old new : ReportReader) (row : Row) (name : List ℕ) → word_in old.whole row ≡ Some word.Resource → name ≡ field_of row 1
    → IsAsBefore (record old { resources = new.resources }) new × MayStand old.resources new.resources name → NamesStay old new row
resource_names old new row name is at h =
    subst (λ (o : Option Word). NamesBehind o old new row) (sym is) (subst (λ n. MayStand old.resources new.resources n) at h.1, ap (λ (r : ReportReader). r.tasks) h.0.0)

pub task_names : (old new : ReportReader) (row : Row) (name : List ℕ) → word_in old.whole row ≡ Some word.Task → name ≡ field_of row 1
    → (new ≡ record old { tasks = new.tasks }) × MayStand old.tasks new.tasks name → NamesStay old new row
task_names old new row name is at h =
    subst (λ (o : Option Word). NamesBehind o old new row) (sym is) (ap (λ (r : ReportReader). r.resources) h.0, subst (λ n. MayStand old.tasks new.tasks n) at h.1)

one_more_by : (o : Option Word) (old new : ReportReader) (row : Row) → NamesBehind o old new row → OneMoreAtMost old new
one_more_by (Some word.Resource) old new row h = (field_of row 1, inl h)
one_more_by (Some word.Task) old new row h = (field_of row 1, inr h)
one_more_by _ old new row h = ([], inl (inl h.0, h.1))

-- a refused record declares at most one name
pub one_more : (old new : ReportReader) (row : Row) → NamesStay old new row → OneMoreAtMost old new
one_more old new row h = one_more_by (word_in old.whole row) old new row h
