use Rattle.std.proofs.Common.{refl, sym}
use Rattle.rplain.proofs.settling.ChangeSteps.{no_change_since}
use Rattle.rplain.proofs.tell.tell_changed.Goals as goal

pub returns-else-not-is_as_it_was : goal.returns-else-not-is_as_it_was
returns-else-not-is_as_it_was c =
    let so = c.if-not-is_as_it_was.ensures.0 refl in
    sym (no_change_since c.args.changes.now c.args.was.now c.args.now.now c.requires.same so.0 so.1)
