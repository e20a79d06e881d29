use Rattle.std.proofs.Common.{◌-◌, take, ap, ◌∙◌}
use Rattle.rtrace.proofs.Windows.{kept_behind}
use Rattle.rtrace.proofs.window.Window.cut_off.Goals as goal

pub returns-clause-held : goal.returns-clause-held
returns-clause-held c =
    let w = c.args.self.now in
    ap (take (w.filled - c.args.cut)) c.copy_within.ensures.items ∙ kept_behind w.bytes.items c.args.cut w.filled c.requires.within c.requires.sound.within
