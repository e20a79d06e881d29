use Rattle.std.proofs.Common.{[], ◌∷◌, ◌++◌, refl}
use Rattle.rtrace_form.specs.Texts.{report_text}
use Rattle.rrun.specs.Report.{told_by}
use Rattle.rnlp_cli.proofs.Runs.{left_without}
use Rattle.rnlp_cli.proofs.running.hand_out.Goals as goal

pub returns-in-NoMemory : goal.returns-in-NoMemory
returns-in-NoMemory g c = λ form script before after run.
    (rw c.in-NoMemory.is at c.write_both.ensures, refl, left_without form script before (report_text (told_by c.args.report.now) ++ c.args.rest.now) (c.args.report.now.entries ∷ []) after run)
