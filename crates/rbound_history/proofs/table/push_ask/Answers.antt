use Rattle.std.proofs.Common.{refl, ◌∙◌}
use Rattle.rbound.proofs.RequestVectors.{on_err}
use Rattle.rbound_history.proofs.TableFacts.{entry_asked, entry_kept, number_asked}
use Rattle.rbound_history.proofs.table.push_ask.Goals as goal

pub returns-clause-ok : goal.returns-clause-ok
returns-clause-ok c = entry_asked c.args.entries.now.items c.args.place c.index_mut-entry.result.now _ c.args.set c.index_mut-entry.ensures.value refl refl c.in_ok-number.ensures.keys

pub returns-clause-number : goal.returns-clause-number
returns-clause-number c = c.in_ok-number.ensures.index ∙ number_asked c.args.entries.now.items c.args.place c.index_mut-entry.result.now c.args.set c.requires c.index_mut-entry.ensures.value

pub returns-in_err-number-clause-err : goal.returns-in_err-number-clause-err
returns-in_err-number-clause-err c = on_err c.from_residual.result (entry_kept c.args.entries.now.items c.args.place c.index_mut-entry.result.now _ c.index_mut-entry.ensures.value refl refl c.in_err-number.ensures.err)
