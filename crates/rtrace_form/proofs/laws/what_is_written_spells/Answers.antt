use Rattle.rtrace_form.proofs.written.GoodEntries.{written_spells}
use Rattle.rtrace_form.proofs.laws.what_is_written_spells.Goals as goal

pub returns : goal.returns
returns c = written_spells
