use Rattle.rbound_table.proofs.AnswerFacts.{HasWriteBounds}
use Rattle.rbound_table.proofs.answers.all_write_bounds.Given as goal

abbrev pub invariant-loop-l : goal.invariant-loop-l
invariant-loop-l l = HasWriteBounds l.tables l.tasks l.cap l.zones l.writes.items l.l
