use Rattle.std.proofs.Common.{length, sym, ap, subst, ◌∙◌, List}
use Rattle.std.specs.Prelude.{All, IsSome}
use Rattle.rvalue.specs.declared.ledger.Edit.{Edit}
use Rattle.rvalue.specs.declared.ledger.Ledger.{Ledger}
use Rattle.rguard.specs.Seats.{SeatOf}
use Rattle.rrun.specs.declared.jobs.Job.{Job}
use Rattle.rrun.proofs.tasks.run_tasks.Goals as goal
use Rattle.rrun.proofs.Ending.{are_ready, are_there, are_ended, written_back}

pub work_all-requires-clause-ready : goal.work_all-requires-clause-ready
work_all-requires-clause-ready g c κs within = are_ready c.args.rnlp.now c.args.script.now c.args.seats.items c.requires c.as_mut_slice.result.now (c.as_mut_slice.ensures.value ∙ c.jobs_of-jobs.ensures)

pub ended_of-requires-clause-there : goal.ended_of-requires-clause-there
ended_of-requires-clause-there g c κs within =
    subst (λ (jobs : List (Job (SeatOf Ledger Edit))). All (λ (job : Job (SeatOf Ledger Edit)). IsSome job.seat) jobs)
    (sym (written_back c.work_all.new.jobs c.jobs_of-jobs.result.items c.jobs_of-jobs.result.len (c.work_all.ensures.count ∙ ap length c.as_mut_slice.ensures.value) (sym c.as_mut_slice.ensures.len ∙ ap length c.as_mut_slice.ensures.value)))
    (are_there c.args.rnlp.now c.args.script.now c.args.seats.items c.requires c.as_mut_slice.result.now (c.as_mut_slice.ensures.value ∙ c.jobs_of-jobs.ensures) c.tasks.ensures.script.paired c.work_all.new.jobs c.work_all.ensures.count c.work_all.ensures.done)

pub returns-clause-ran : goal.returns-clause-ran
returns-clause-ran g c =
    are_ended c.args.rnlp.now c.args.script.now c.args.seats.items c.requires c.as_mut_slice.result.now (c.as_mut_slice.ensures.value ∙ c.jobs_of-jobs.ensures) c.tasks.ensures.script.paired c.work_all.new.jobs c.work_all.ensures.count c.work_all.ensures.done
    {M = g.row.M.Denot} c.ended_of.result.items
    (sym (written_back c.work_all.new.jobs c.jobs_of-jobs.result.items c.jobs_of-jobs.result.len (c.work_all.ensures.count ∙ ap length c.as_mut_slice.ensures.value) (sym c.as_mut_slice.ensures.len ∙ ap length c.as_mut_slice.ensures.value))
    ∙ c.ended_of.ensures)
