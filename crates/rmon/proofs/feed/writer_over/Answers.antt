use Rattle.std.proofs.Common.{fold, sym, ap, ◌∙◌, subst}
use Rattle.left_right.specs.Sides.{view}
use Rattle.rmodel.specs.Steps.{AreAccepted, after}
use Rattle.rmon.specs.Images.{absorbed}
use Rattle.rmon.specs.Opened.{opening_of, opening_in}
use Rattle.rmon.proofs.Ruling.{begins, first_ruled}
use Rattle.rmon.proofs.feed.writer_over.Goals as goal

pub new-requires-clause-rule : goal.new-requires-clause-rule
new-requires-clause-rule g c =
    let x = c.args.first in
    let o = opening_in x.machine.state in
    first_ruled o x (record {
      state = c.requires.opened ∙ ap (after (opening_of o)) (sym c.requires.none);
      accepted = subst (AreAccepted (opening_of o)) (sym c.requires.none) tt;
    })

pub publish_as-writer-requires : goal.publish_as-writer-requires
publish_as-writer-requires g c =
    let w = c.in_ok-writer.writer in
    let is = c.in_ok-writer.ensures in
    λ next same. begins w.desk.place.id (view w.desk.place) w.desk.shown.value next (same ∙ ap (fold absorbed w.desk.shown.value) is.1) (ap (λ x. x.front.events) is.0 ∙ c.requires.none)
