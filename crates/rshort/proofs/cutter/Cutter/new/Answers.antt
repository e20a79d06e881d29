use Rattle.std.proofs.Common.{refl}
use Rattle.rshort.proofs.Cutting.{at_start}
use Rattle.rshort.proofs.cutter.Cutter.new.Goals as goal

pub returns : goal.returns
returns c = at_start _ c.new.ensures.items refl refl refl c.new-2.ensures.items c.no_joint.ensures
