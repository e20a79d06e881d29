use Rattle.rtrace_form.proofs.written.Spelled.{spelled_may_be}
use Rattle.rtrace_form.proofs.laws.what_is_spelled_may_be_written.Goals as goal

pub returns : goal.returns
returns c = spelled_may_be
