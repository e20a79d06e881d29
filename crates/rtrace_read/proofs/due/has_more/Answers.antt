use Rattle.std.proofs.Common.{sym, ◌∙◌, arith, length}
use Rattle.std.proofs.lemmas.Bool.{lt-ltb}
use Rattle.std.proofs.lemmas.Bool.Decides.{nat_tests}
use Rattle.rtrace_read.specs.Due.{due_list}
use Rattle.rtrace_read.proofs.DueLines.{more_is, due_many}
use Rattle.rtrace_read.proofs.due.has_more.Goals as goal

pub returns-then-told-many : goal.returns-then-told-many
returns-then-told-many c =
    let many = due_many c.args.changes.now c.args.ends.now in
    let size = c.count_of-many.ensures.count in
    lt-ltb c.args.told c.count_of-many.result c.if-told-many.true
    ∙ sym (more_is (due_list c.args.changes.now c.args.ends.now) c.args.told ∙ lt-ltb c.args.told (length (due_list c.args.changes.now c.args.ends.now)) (omega (arith, many, size)))

pub returns-else-told-many : goal.returns-else-told-many
returns-else-told-many c =
    let many = due_many c.args.changes.now c.args.ends.now in
    let size = c.count_of-many.ensures.count in
    let more = more_is (due_list c.args.changes.now c.args.ends.now) c.args.told in
    grind (arith, nat_tests)
