use Rattle.std.proofs.Common.{[], sym, ◌∙◌}
use Rattle.std.proofs.lemmas.Option.{get_or_from_slice_get}
use Rattle.rset.specs.declared.TheConstants.{RESOURCES}
use Rattle.rnlp_edge.proofs.PlainNames.{name_utf8}
use Rattle.rnlp_edge.proofs.lines.name_in.Goals as goal

pub unreachable-requires : goal.unreachable-requires
unreachable-requires c = c.in-Err.ensures.cases.0 (name_utf8 RESOURCES c.args.names.now c.number_of.ensures.table c.args.task c.name_of-name.result.now c.name_of-name.ensures)

pub returns : goal.returns
returns c = c.in-Ok.ensures.cases.0 ∙ sym (get_or_from_slice_get c.args.names.now c.args.task c.name_of-name.result.now [] c.name_of-name.ensures)
