use Rattle.rscript.proofs.texts.OneScript.{one_told}
use Rattle.rscript.proofs.laws.a_text_spells_one_script.Goals as goal

pub returns : goal.returns
returns c = one_told
