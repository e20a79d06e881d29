use Rattle.rcover.proofs.run.find_taken.Goals as goal

pub returns-then-is_for-clause-section : goal.returns-then-is_for-clause-section
returns-then-is_for-clause-section c = let same = c.is_for.ensures.0 c.if-is_for.true in c.requires c.args.c.now same.0 same.1
