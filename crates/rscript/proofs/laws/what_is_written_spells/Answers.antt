use Rattle.rscript.proofs.texts.Written.{written_spells}
use Rattle.rscript.proofs.laws.what_is_written_spells.Goals as goal

pub returns : goal.returns
returns c = written_spells
