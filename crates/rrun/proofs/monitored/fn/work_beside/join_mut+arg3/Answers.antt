use Rattle.std.proofs.Common.{◌≡◌, List, length, sym, ap, subst, ◌∙◌}
use Rattle.rvalue.specs.declared.ledger.Edit.{Edit}
use Rattle.rvalue.specs.declared.ledger.Ledger.{Ledger}
use Rattle.rguard.specs.Seats.{SeatOf}
use Rattle.rrun.specs.Jobs.{AreDone}
use Rattle.rrun.specs.declared.jobs.Job.{Job}
use Rattle.rrun.proofs.Ending.{written_back}
use Rattle.rrun.proofs.monitored.fn.work_beside.join_mut+arg3.Goals as goal

pub returns : goal.returns
returns g c =
    let before : List (Job (SeatOf Ledger Edit)) = c.captures.jobs.now.items in
    let same : length c.work_to_the_end.new.jobs ≡ length before = c.work_to_the_end.ensures.count ∙ ap length c.as_mut_slice.ensures.value in
    subst (λ (jobs : List (Job (SeatOf Ledger Edit))). (length jobs ≡ length before) × AreDone c.captures.rnlp.now c.captures.script.now before jobs)
    (sym (written_back c.work_to_the_end.new.jobs before c.captures.jobs.now.len same (sym c.as_mut_slice.ensures.len ∙ ap length c.as_mut_slice.ensures.value)))
    (same, subst (λ (jobs : List (Job (SeatOf Ledger Edit))). AreDone c.captures.rnlp.now c.captures.script.now jobs c.work_to_the_end.new.jobs) c.as_mut_slice.ensures.value c.work_to_the_end.ensures.done)
