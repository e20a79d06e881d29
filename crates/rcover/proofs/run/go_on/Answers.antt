use Rattle.std.proofs.Common.{sym, subst, ◌∙◌}
use Rattle.rset.specs.declared.TheConstants.{SEATS}
use Rattle.rcover_laws.specs.Lists.{AreAtMost}
use Rattle.rcover.specs.Kept.{kept_in}
use Rattle.rcover.proofs.over.Closed.{write_gone_on}
use Rattle.rcover.proofs.run.go_on.Goals as goal

pub go_on_write-requires-clause-few : goal.go_on_write-requires-clause-few
go_on_write-requires-clause-few c =
    subst (AreAtMost SEATS) (write_gone_on c.args.last.now c.args.next.now c.args.x.now.claim (kept_in c.args.run.now) c.if-x.true) c.requires.few

pub returns-then-x-clause-kept : goal.returns-then-x-clause-kept
returns-then-x-clause-kept c =
    c.go_on_write.ensures.kept ∙ sym (write_gone_on c.args.last.now c.args.next.now c.args.x.now.claim (kept_in c.args.run.now) c.if-x.true)

pub returns-clause-lengths : goal.returns-clause-lengths
returns-clause-lengths c = λ len are own have. record { reads = c.close_read_of.ensures.lengths len are have.reads; writes = have.writes }
