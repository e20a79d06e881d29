use Rattle.std.proofs.Common.{◌++◌}
use Rattle.std.proofs.lemmas.Result.{on_ok_weaker, on_err_weaker}
use Rattle.rtrace_write.proofs.Results.{always_on_err}
use Rattle.rtrace_write.proofs.Writing.{appends_both, prefix_before, prefix_behind}
use Rattle.rtrace_write.proofs.write.write_parts.Goals as goal

pub returns-in_err-write_all-2-clause-prefix : goal.returns-in_err-write_all-2-clause-prefix
returns-in_err-write_all-2-clause-prefix g c =
    let written = g.K.Sink.written in
    always_on_err c.from_residual-in_err-write_all-2.result
    (prefix_behind c.args.head.now (c.args.history.now ++ c.args.ending.now) (written c.args.sink.now) (written c.write_all.new.sink) (written c.write_all-2.new.sink) c.in_ok-write_all.ensures.whole
    (prefix_before c.args.history.now c.args.ending.now (written c.write_all.new.sink) (written c.write_all-2.new.sink) c.in_err-write_all-2.ensures.prefix))

pub returns-clause-prefix : goal.returns-clause-prefix
returns-clause-prefix g c =
    let written = g.K.Sink.written in
    on_err_weaker c.write_all-3.result
    (λ p. prefix_behind c.args.head.now (c.args.history.now ++ c.args.ending.now) (written c.args.sink.now) (written c.write_all.new.sink) (written c.write_all-3.new.sink) c.in_ok-write_all.ensures.whole
    (prefix_behind c.args.history.now c.args.ending.now (written c.write_all.new.sink) (written c.write_all-2.new.sink) (written c.write_all-3.new.sink) c.in_ok-write_all-2.ensures.whole p))
    c.write_all-3.ensures.prefix

pub returns-clause-whole : goal.returns-clause-whole
returns-clause-whole g c =
    let written = g.K.Sink.written in
    on_ok_weaker c.write_all-3.result
    (λ last. appends_both c.args.head.now (c.args.history.now ++ c.args.ending.now) (written c.args.sink.now) (written c.write_all.new.sink) (written c.write_all-3.new.sink) c.in_ok-write_all.ensures.whole
    (appends_both c.args.history.now c.args.ending.now (written c.write_all.new.sink) (written c.write_all-2.new.sink) (written c.write_all-3.new.sink) c.in_ok-write_all-2.ensures.whole last))
    c.write_all-3.ensures.whole
