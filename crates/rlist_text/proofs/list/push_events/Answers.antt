use Rattle.std.proofs.Common.{◌++◌, ap, sym, ◌∙◌}
use Rattle.rtrace_form.specs.Lines.{Happens}
use Rattle.rtrace_write.specs.Told.{told_line}
use Rattle.rtrace_write.proofs.Growing.{one_more}
use Rattle.rlist_text.proofs.list.push_events.Goals as goal

pub loop-entry-preserved : goal.loop-entry-preserved
loop-entry-preserved g c =
    one_more c.args.names.now (λ entry. Happens entry.event) c.args.entries.now c.loop-entry.entry-index c.entry-item.result c.args.page.now c.loop-entry.page c.push_event.new.self
    c.loop-entry-test.true (sym c.entry-item.is) c.loop-entry.invariant (c.in_ok-push_event.ensures.ok ∙ ap (λ x. c.loop-entry.page ++ told_line c.args.names.now (Happens x.event)) c.entry.view_is)
