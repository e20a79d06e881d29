use Rattle.std.proofs.Common.{◌≡◌, [], replicate, length, None, refl, sym, ap, ◌∙◌}
use Rattle.rlock.specs.Known.{newcomer}
use Rattle.rmodel.specs.Holds.{nothing}
use Rattle.rmodel.specs.State.{LockState, opening}
use Rattle.rstate.specs.Contents.{Contents}
use Rattle.rvalue.specs.declared.ledger.Edit.{Edit}
use Rattle.rvalue.specs.declared.ledger.Ledger.{Ledger}
use Rattle.rrun.proofs.Reported.{began_by, begun_so, has_opened}
use Rattle.rrun.proofs.monitored.gather.Goals as goal

pub returns : goal.returns
returns c =
    let p = c.args.script.now in
    let n = c.len.result in
    let site = c.in_ok-rnlp.rnlp in
    let seats = c.in_ok-rnlp.seats.items in
    let state : LockState = c.in_ok-machine.machine.state in
    let values = c.in_ok-values.values.items in
    let n_is : n ≡ length p.tasks = c.len.ensures.value ∙ ap length c.tasks.ensures.value in
    let state_is : state ≡ opening (record { q = length p.resources; groups = p.groups }) n n = c.in_ok-machine.ensures ∙ ap (λ m. opening (record { q = length p.resources; groups = p.groups }) m m) (sym n_is) in
    let contents : Contents Ledger Edit = record { beginning = began_by state values None; entries = []; taken = replicate state.seats nothing } in
    record {
      seats = seats;
      opened = has_opened p None site seats state values contents n state_is c.in_ok-values.ensures n_is c.in_ok-rnlp.ensures.count.1 c.in_ok-rnlp.ensures.seats c.in_ok-rnlp.ensures.each;
      count = c.in_ok-rnlp.ensures.count.0 ∙ n_is;
      jobs_are = c.in_ok-jobs_for.ensures;
      scribe = c.in_ok-rnlp.scribe;
      there = refl;
      of = c.in_ok-rnlp.ensures.scribe;
      contents = contents;
      new = c.in_ok-rnlp.ensures.its ∙ (λ i. newcomer site.gate (sym c.in_ok-rnlp.ensures.count.0 i) (begun_so p None state values n state_is c.in_ok-values.ensures n_is i) contents);
    }
