use Rattle.rbound_table.specs.Tables.{key_of}
use Rattle.rbound_table.proofs.TableFacts.{takes_more}
use Rattle.rbound_table.proofs.table.take_claims.Goals as goal

pub loop-at-preserved : goal.loop-at-preserved
loop-at-preserved c =
    takes_more (key_of c.args.key) c.args.needs.now c.args.cells.now c.loop-at.cells c.take_claim.new.cells c.loop-at.at c.index-needs-at.result c.key_of.result c.loop-at-test.true c.index-needs-at.is c.key_of.ensures
    c.loop-at.invariant c.take_claim.ensures.cells c.take_claim.ensures.below
