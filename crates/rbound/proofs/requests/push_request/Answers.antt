use Rattle.std.proofs.Common.{ap}
use Rattle.rbound.specs.declared.requests.RequestAsks.{RequestAsks}
use Rattle.rbound.specs.Kept.{needs_in}
use Rattle.std.proofs.Common.{map}
use Rattle.rbound.proofs.RequestVectors.{one_pushed, one_kept, on_err}
use Rattle.rbound.proofs.requests.push_request.Goals as goal

pub returns-clause-ok : goal.returns-clause-ok
returns-clause-ok c =
    let x : RequestAsks = record { request = c.args.request; asks = c.new.result } in
    one_pushed c.args.tasks.now.items c.args.task c.index_mut.result.now c.push.new.self x c.requires c.index_mut.ensures.value c.in_ok-push.ensures.items c.new.ensures.items

pub returns-in_err-push-clause-err : goal.returns-in_err-push-clause-err
returns-in_err-push-clause-err c =
    on_err c.from_residual.result (one_kept c.args.tasks.now.items c.args.task c.index_mut.result.now c.push.new.self c.index_mut.ensures.value (ap (map needs_in) c.in_err-push.ensures.items))
