use Rattle.std.proofs.Common.{sym, ap, ◌∙◌}
use Rattle.rmon.specs.declared.image.Image.{Image}
use Rattle.rmon.proofs.Ruling.{looks}
use Rattle.rmon.proofs.monitor.Monitor.try_look.Goals as goal

pub enter_as-requires : goal.enter_as-requires
enter_as-requires c = looks _ _

pub longer-front-requires : goal.longer-front-requires
longer-front-requires c =
    let inv = c.self.invariant in
    let found = c.in-Ok.ensures.1.1 inv.told inv.knows in
    record { feed = ap (λ (x : Image). x.front.feed) c.get-image.ensures ∙ (sym found.1 ∙ inv.its_feed) }
