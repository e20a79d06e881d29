use Rattle.std.proofs.Common.{◌∙◌}
use Rattle.rtrace_form.specs.Heads.{Head}
use Rattle.rtrace_form.specs.Reports.{Entry}
use Rattle.rtrace_form.specs.Waits.{all_ended}
use Rattle.std.specs.Prelude.{List}
use Rattle.rtrace_write.specs.Behind.{past_in}
use Rattle.rtrace_write.proofs.Closing.{history_gaps, history_closed}
use Rattle.rtrace_write.proofs.Results.{on_some_each}
use Rattle.rtrace_write.proofs.closed.close_history.Goals as goal

pub closed-requires : goal.closed-requires
closed-requires c =
    let r = c.requires in
    let head : Head = r.1 in
    let entries : List Entry = r.2 in
    (past_in head entries, all_ended head entries, r.3.known, r.4, r.5, r.6, history_gaps r.0 head entries c.args.text r.3.told)

pub returns : goal.returns
returns c =
    on_some_each c.closed.result c.closed.ensures
    (λ page so names head entries whole groups cap.
    so (past_in head entries) (all_ended head entries) whole.known groups cap ∙ history_closed names head entries c.args.text whole.told)
