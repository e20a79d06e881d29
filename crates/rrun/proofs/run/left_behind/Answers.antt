use Rattle.std.proofs.Common.{ap, map, length, ◌∙◌}
use Rattle.std.proofs.lemmas.List.{length-map}
use Rattle.rrun.specs.declared.tasks.Ended.{Ended}
use Rattle.rrun.proofs.Left.{are_left, have_ended}
use Rattle.rrun.proofs.run.left_behind.Goals as goal

pub returns-in-Ok-clause-seats : goal.returns-in-Ok-clause-seats
returns-in-Ok-clause-seats g c =
    are_left {M = g.row.M.Denot} c.args.rnlp.now c.args.script.now c.args.seats.items c.in-Ok.ended.items c.in-Ok.ensures.ran c.seats_of.result.items c.seats_of.ensures

pub returns-in-Ok-clause-count : goal.returns-in-Ok-clause-count
returns-in-Ok-clause-count g c =
    ap length (c.stopped_of-stopped.ensures ∙ ap (map (λ (ended : Ended g.row.M.Denot). ended.stopped)) c.as_slice.ensures.value) ∙ length-map c.in-Ok.ended.items (λ (ended : Ended g.row.M.Denot). ended.stopped) ∙ c.in-Ok.ensures.ran.count

pub returns-in-Ok-clause-ended : goal.returns-in-Ok-clause-ended
returns-in-Ok-clause-ended g c =
    have_ended {M = g.row.M.Denot} c.args.rnlp.now c.args.script.now c.args.seats.items c.in-Ok.ended.items c.in-Ok.ensures.ran c.seats_of.result.items c.seats_of.ensures
    c.stopped_of-stopped.result.items (c.stopped_of-stopped.ensures ∙ ap (map (λ (ended : Ended g.row.M.Denot). ended.stopped)) c.as_slice.ensures.value)
