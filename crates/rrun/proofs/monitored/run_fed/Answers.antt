use Rattle.std.proofs.Common.{map}
use Rattle.std.specs.Arc.{arc_value}
use Rattle.rrun.proofs.Looking.{jobs_ready, all_rounds, watch_may_end, all_there_after, seats_of_it, seats_idle, every_seat, closed_fed}
use Rattle.rrun.proofs.monitored.run_fed.Goals as goal

pub work_beside-requires-clause-ready : goal.work_beside-requires-clause-ready
work_beside-requires-clause-ready g c κs within = jobs_ready c.args.script.now c.tasks.ensures.script c.in_ok-rnlp.rnlp c.in_ok-rnlp.team.jobs.items c.in_ok-rnlp.team.scribe c.in_ok-rnlp.ensures

pub left_of-requires-after_bounds : goal.left_of-requires-after_bounds
left_of-requires-after_bounds g c κs =
    all_there_after c.args.script.now c.tasks.ensures.script c.in_ok-rnlp.rnlp c.in_ok-rnlp.team.jobs.items c.in_ok-rnlp.team.scribe c.in_ok-rnlp.ensures c.work_beside.new.team.jobs.items c.in-Ok.ensures.count c.in-Ok.ensures.done

pub close_fed-requires-clause-of : goal.close_fed-requires-clause-of
close_fed-requires-clause-of g c κs =
    seats_of_it c.args.script.now c.tasks.ensures.script c.in_ok-rnlp.rnlp c.in_ok-rnlp.team.jobs.items c.in_ok-rnlp.team.scribe c.in_ok-rnlp.ensures c.work_beside.new.team.jobs.items c.in-Ok.ensures.count c.in-Ok.ensures.done
    c.in_ok-seats-in-Ok.seats.items c.in_ok-seats-in-Ok.stopped.items c.in_ok-seats-in-Ok.ensures

pub close_fed-requires-clause-idle : goal.close_fed-requires-clause-idle
close_fed-requires-clause-idle g c κs =
    seats_idle c.args.script.now c.tasks.ensures.script c.in_ok-rnlp.rnlp c.in_ok-rnlp.team.jobs.items c.in_ok-rnlp.team.scribe c.in_ok-rnlp.ensures c.work_beside.new.team.jobs.items c.in-Ok.ensures.count c.in-Ok.ensures.done
    c.in_ok-seats-in-Ok.seats.items c.in_ok-seats-in-Ok.stopped.items c.in_ok-seats-in-Ok.ensures

pub close_fed-requires-clause-all : goal.close_fed-requires-clause-all
close_fed-requires-clause-all g c κs =
    every_seat c.args.script.now c.tasks.ensures.script c.in_ok-rnlp.rnlp c.in_ok-rnlp.team.jobs.items c.in_ok-rnlp.team.scribe c.in_ok-rnlp.ensures c.work_beside.new.team.jobs.items c.in-Ok.ensures.count c.in-Ok.ensures.done
    c.in_ok-seats-in-Ok.seats.items c.in_ok-seats-in-Ok.stopped.items c.in_ok-seats-in-Ok.ensures

pub close_fed-requires-clause-scribe : goal.close_fed-requires-clause-scribe
close_fed-requires-clause-scribe g c κs =
    (all_rounds c.args.script.now c.tasks.ensures.script c.in_ok-rnlp.rnlp c.in_ok-rnlp.team.jobs.items c.in_ok-rnlp.team.scribe c.in_ok-rnlp.ensures c.args.watch.now c.work_beside.new.watch c.requires c.in-Ok.scribe c.in-Ok.ensures.watched).feeds.of

pub returns-in_ok-seats-in-Ok-clause-closed : goal.returns-in_ok-seats-in-Ok-clause-closed
returns-in_ok-seats-in-Ok-clause-closed g c =
    closed_fed c.args.script.now c.tasks.ensures.script c.in_ok-rnlp.rnlp c.in_ok-rnlp.team.jobs.items c.in_ok-rnlp.team.scribe c.in_ok-rnlp.ensures c.work_beside.new.team.jobs.items c.in-Ok.ensures.count c.in-Ok.ensures.done
    c.in_ok-seats-in-Ok.seats.items c.in_ok-seats-in-Ok.stopped.items c.in_ok-seats-in-Ok.ensures c.close_fed.result.0.entries (map arc_value c.close_fed.result.1.items) c.close_fed.ensures.seats

pub returns-in_ok-seats-in-Ok-clause-watch : goal.returns-in_ok-seats-in-Ok-clause-watch
returns-in_ok-seats-in-Ok-clause-watch g c =
    watch_may_end c.args.script.now c.tasks.ensures.script c.in_ok-rnlp.rnlp c.in_ok-rnlp.team.jobs.items c.in_ok-rnlp.team.scribe c.in_ok-rnlp.ensures c.args.watch.now c.work_beside.new.watch c.requires c.in-Ok.scribe c.in-Ok.ensures.watched
    c.close_fed.result.0.entries (map arc_value c.close_fed.result.1.items) c.close_fed.ensures.scribe

pub returns-in_ok-seats-in-Ok-clause-began : goal.returns-in_ok-seats-in-Ok-clause-began
returns-in_ok-seats-in-Ok-clause-began g c =
    (all_rounds c.args.script.now c.tasks.ensures.script c.in_ok-rnlp.rnlp c.in_ok-rnlp.team.jobs.items c.in_ok-rnlp.team.scribe c.in_ok-rnlp.ensures c.args.watch.now c.work_beside.new.watch c.requires c.in-Ok.scribe c.in-Ok.ensures.watched).feeds.opened
