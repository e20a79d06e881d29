use Rattle.std.proofs.lemmas.Option.{get_or_from_slice_get, slice_get_within}
use Rattle.rtrace_form.specs.Lines.{HasGroup}
use Rattle.rtrace_write.proofs.Growing.{one_more}
use Rattle.rtrace_write.proofs.head.push_groups.Goals as goal

pub loop-i-preserved : goal.loop-i-preserved
loop-i-preserved c =
    one_more c.args.names.now HasGroup c.args.groups.now.groups c.loop-i.i c.at.result c.args.page.now c.loop-i.page c.push_group.new.self
    (slice_get_within c.args.groups.now.groups c.loop-i.i c.at.result c.at.ensures)
    (get_or_from_slice_get c.args.groups.now.groups c.loop-i.i c.at.result c.at.result c.at.ensures)
    c.loop-i.invariant c.in_ok-push_group.ensures.ok
