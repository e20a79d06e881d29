use Rattle.std.proofs.Common.{refl, sym}
use Rattle.rbound_history.proofs.TableFacts.{entry_taken}
use Rattle.rbound_history.proofs.table.take_over.Goals as goal

pub returns-then-not-is_as_long : goal.returns-then-not-is_as_long
returns-then-not-is_as_long c = entry_taken c.args.entries.now.items c.args.place c.index_mut-entry.result.now _ c.args.request.now c.index_mut-entry.ensures.value refl c.lengthened-entry.ensures refl

-- no length is greater, so the entry stays
pub returns-else-not-is_as_long : goal.returns-else-not-is_as_long
returns-else-not-is_as_long c = entry_taken c.args.entries.now.items c.args.place c.index_mut-entry.result.now _ c.args.request.now c.index_mut-entry.ensures.value refl (sym (c.is_as_long.ensures.stays c.if-not-is_as_long.false)) refl
