use Rattle.rtrace.proofs.Windows.{cut_within}
use Rattle.rtrace.proofs.window.Window.cut.Goals as goal

pub returns-clause-within : goal.returns-clause-within
returns-clause-within c = cut_within c.args.self.now c.cut_place.result c.requires (rw c.deref.ensures.value at c.cut_place.ensures.within)

pub returns-clause-cut : goal.returns-clause-cut
returns-clause-cut c = rw c.deref.ensures.value at c.cut_place.ensures.cut
