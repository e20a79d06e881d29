use Rattle.rtrace_form.proofs.texts.Rows.{written_read}
use Rattle.rtrace_form.proofs.laws.what_is_written_is_read.Goals as goal

pub returns : goal.returns
returns c = written_read
