use Rattle.rmon.proofs.Ruling.{admits}
use Rattle.rmon.proofs.feed.reader_of.Goals as goal

pub reader-requires : goal.reader-requires
reader-requires g c = admits
