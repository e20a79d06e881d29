use Rattle.std.proofs.Common.{◌<◌, refl, sym, subst, ◌∙◌}
use Rattle.std.proofs.lemmas.Bool.{not-true, not-false}
use Rattle.rdrill.proofs.WhatIsDrawn.{idle_draws, some_draws, none_draws, at_index}
use Rattle.rdrill.proofs.drawing.draw_event.Goals as goal

pub returns-then-idle-clause-drawn : goal.returns-then-idle-clause-drawn
returns-then-idle-clause-drawn g c =
    idle_draws (g.M.Machine.state c.args.machine.now) c.args.latest.now c.args.dice.now.x c.draw-named.new.self.x c.draw-named.result c.acting-seat.result c.draw-named.ensures.dice c.draw-named.ensures.drawn
    c.acting-seat.ensures.acts _ (not-true _ (sym c.idle.ensures ∙ c.if-idle.true)) c.draw_issue.ensures.drawn

pub returns-in-Some-clause-drawn : goal.returns-in-Some-clause-drawn
returns-in-Some-clause-drawn g c =
    some_draws (g.M.Machine.state c.args.machine.now) c.args.latest.now c.args.dice.now.x c.draw-named.new.self.x c.draw-named.result c.acting-seat.result c.draw-named.ensures.dice c.draw-named.ensures.drawn
    c.acting-seat.ensures.acts _ c.in-Some.request (not-false _ (sym c.idle.ensures ∙ c.if-idle.false)) (at_index c.args.latest.now c.acting-seat.result c.from.result _ c.from.ensures (subst (λ n. c.acting-seat.result < n) (sym c.requires.seats) c.acting-seat.ensures.there) c.index-latest-from.is ∙ c.in-Some.is) c.draw_holding.ensures.drawn

pub returns-in-None-clause-drawn : goal.returns-in-None-clause-drawn
returns-in-None-clause-drawn g c =
    none_draws (g.M.Machine.state c.args.machine.now) c.args.latest.now c.args.dice.now.x c.draw-named.new.self.x c.draw-named.result c.acting-seat.result c.draw-named.ensures.dice c.draw-named.ensures.drawn
    c.acting-seat.ensures.acts _ (not-false _ (sym c.idle.ensures ∙ c.if-idle.false)) (at_index c.args.latest.now c.acting-seat.result c.from.result _ c.from.ensures (subst (λ n. c.acting-seat.result < n) (sym c.requires.seats) c.acting-seat.ensures.there) c.index-latest-from.is ∙ c.in-None.is) refl
