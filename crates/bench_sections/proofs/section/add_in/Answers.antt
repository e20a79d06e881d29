use Rattle.std.proofs.Common.{◌++◌, List, ap, subst, ◌∙◌}
use Rattle.rvalue.specs.declared.act.Act.{Act}
use Rattle.rvalue.specs.declared.ledger.Edit.{Edit}
use Rattle.rguard.specs.Sections.{write_of, HasFinished}
use Rattle.bench_sections.specs.Sections.{one_added}
use Rattle.rguard.proofs.Sections.{made}
use Rattle.bench_sections.proofs.section.add_in.Goals as goal

pub returns-in-Ok-finish-clause-added : goal.returns-in-Ok-finish-clause-added
returns-in-Ok-finish-clause-added g c = λ done.
    let all = c.add_to_each-done.ensures.acts done ∙ ap (λ (acts : List (Act Edit)). acts ++ one_added c.args.set) c.in-Ok.ensures.entered.fresh in
    made (write_of c.args.set) c.args.seat c.in-Ok.guard c.add_to_each-done.new.guard (one_added c.args.set) c.in-Ok-finish.seat c.in-Ok.ensures.entered c.add_to_each-done.ensures.seat
    (subst (λ (acts : List (Act Edit)). HasFinished acts c.add_to_each-done.new.guard c.in-Ok-finish.seat) all c.in-Ok-finish.ensures.goes)
