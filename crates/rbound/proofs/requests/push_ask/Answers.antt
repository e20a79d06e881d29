use Rattle.std.proofs.lemmas.Result.{on_ok_weaker}
use Rattle.rbound.proofs.RequestVectors.{one_asked, one_kept, on_err_weaker}
use Rattle.rbound.proofs.requests.push_ask.Goals as goal

pub returns-clause-ok : goal.returns-clause-ok
returns-clause-ok c =
    on_ok_weaker c.push_last.result
    (one_asked c.args.tasks.now.items c.args.task c.index_mut.result.now c.push_last.new.requests c.args.part c.index_mut.ensures.value c.requires.within)
    c.push_last.ensures.ok

pub returns-clause-err : goal.returns-clause-err
returns-clause-err c =
    on_err_weaker c.push_last.result
    (one_kept c.args.tasks.now.items c.args.task c.index_mut.result.now c.push_last.new.requests c.index_mut.ensures.value)
    c.push_last.ensures.err
