use Rattle.std.proofs.Common.{◌≡◌, ◌+◌, ◌-◌, length, refl, arith}
use Rattle.rbound.specs.declared.requests.RequestAsks.{RequestAsks}
use Rattle.rbound.proofs.RequestVectors.{last_pushed, one_same, on_err}
use Rattle.rbound.proofs.requests.push_last.Goals as goal

pub returns-clause-ok : goal.returns-clause-ok
returns-clause-ok c =
    let x = c.index_mut-entry.result.now in
    let y : RequestAsks = record { request = x.request; asks = c.push.new.self } in
    let xs = c.args.requests.now.items in
    let last : c.len-last.result - 1 + 1 ≡ length xs = omega (arith, c.args.requests.now.ok.0) in
    last_pushed xs (c.len-last.result - 1) x y c.args.part last c.index_mut-entry.ensures.value refl c.in_ok-push.ensures.items

pub returns-in_err-push-clause-err : goal.returns-in_err-push-clause-err
returns-in_err-push-clause-err c =
    let x = c.index_mut-entry.result.now in
    let y : RequestAsks = record { request = x.request; asks = c.push.new.self } in
    on_err c.from_residual.result (one_same c.args.requests.now.items (c.len-last.result - 1) x y c.index_mut-entry.ensures.value refl c.in_err-push.ensures.items)
