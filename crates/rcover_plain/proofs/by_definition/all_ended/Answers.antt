use Rattle.std.proofs.Common.{◌++◌, sym, ap, arith, ◌∙◌}
use Rattle.std.specs.Option.{option_to_list}
use Rattle.rmodel.specs.declared.claimed.Claimed.{Claimed}
use Rattle.rcover_laws.specs.Ended.{ended_if, wait_of}
use Rattle.rcover_plain.specs.Lists.{moments_in}
use Rattle.rcover_laws.proofs.lists.Pushed.{found_more}
use Rattle.rcover_plain.proofs.by_definition.all_ended.Goals as goal

pub loop-x-preserved : goal.loop-x-preserved
loop-x-preserved c =
    let find = λ (x : Claimed). ended_if c.args.events.now (moments_in c.args.moments.now) c.args.next.now x (wait_of c.args.events.now c.args.last.now x) in
    c.in_ok-add_ended.ensures ∙ ap (λ es. es ++ option_to_list (find c.x-item.result)) c.loop-x.invariant
    ∙ sym (found_more find c.args.last.now c.loop-x.x-index c.x-item.result (omega arith) c.x-item.is)
