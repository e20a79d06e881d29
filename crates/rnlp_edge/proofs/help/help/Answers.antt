use Rattle.rnlp_edge.specs.Words.{help_text}
use Rattle.rnlp_edge.proofs.help.help.Goals as goal

pub returns : goal.returns
unfolding help_text
returns c = c.as_bytes.ensures.value
