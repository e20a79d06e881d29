use Rattle.rnlp_edge.specs.Words.{version_text}
use Rattle.rnlp_edge.proofs.help.version.Goals as goal

pub returns : goal.returns
unfolding version_text
returns c = c.as_bytes.ensures.value
