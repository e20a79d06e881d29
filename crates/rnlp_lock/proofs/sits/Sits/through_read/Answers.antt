use Rattle.std.proofs.Common.{refl}
use Rattle.rguard.specs.Sections.{read_of}
use Rattle.rnlp_lock.proofs.Making.{made_read}
use Rattle.rnlp_lock.proofs.sits.Sits.through_read.Goals as goal

pub returns-in-Ok-clause-ok : goal.returns-in-Ok-clause-ok
returns-in-Ok-clause-ok g c =
    made_read (read_of c.args.set) _ (g.Self.Sits.seat c.args.self) (g.Self.Sits.reading c.in-Ok.work) (g.Self.Sits.seat c.end_read.result) c.in-Ok.ensures.ok c.end_read.ensures
    (c.in-Ok.work, refl, record { 0 = _; 1 = c.f-answer.ensures; 2 = refl })
