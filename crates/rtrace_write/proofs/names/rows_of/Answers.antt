use Rattle.std.proofs.Common.{[], ◌∷◌, ◌++◌, take, sym, ap, ◌∙◌}
use Rattle.std.proofs.lemmas.List.{take_more}
use Rattle.std.proofs.lemmas.Option.{get_or_from_slice_get, slice_get_within}
use Rattle.rset.specs.declared.TheConstants.{RESOURCES}
use Rattle.rtrace_write.proofs.Tables.{table_name_short}
use Rattle.rtrace_write.proofs.names.rows_of.Goals as goal

pub of-requires : goal.of-requires
of-requires c = table_name_short RESOURCES c.args.names.now c.loop-n.n c.name_of.result.now c.len-n-end.ensures.table c.name_of.ensures

pub loop-n-preserved : goal.loop-n-preserved
loop-n-preserved c =
    c.in_ok-push.ensures.items ∙ (λ i. c.loop-n.invariant i ++ c.of.ensures i ∷ [])
    ∙ sym (take_more c.args.names.now c.loop-n.n c.name_of.result.now (slice_get_within c.args.names.now c.loop-n.n c.name_of.result.now c.name_of.ensures)
    ∙ ap (λ x. take c.loop-n.n c.args.names.now ++ x ∷ []) (get_or_from_slice_get c.args.names.now c.loop-n.n c.name_of.result.now c.name_of.result.now c.name_of.ensures))
