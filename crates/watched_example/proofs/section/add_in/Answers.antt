use Rattle.std.proofs.Common.{rules, ◌≡◌, true, ◌++◌, List, ap, subst, ◌∙◌}
use Rattle.rvalue.specs.declared.act.Act.{Act}
use Rattle.rvalue.specs.declared.ledger.Edit.{Edit}
use Rattle.rguard.specs.Sections.{write_of, HasFinished}
use Rattle.rguard.proofs.Sections.{made}
use Rattle.watched_example.specs.Sections.{the_record, one_added}
use Rattle.watched_example.proofs.section.add_in.Goals as goal

pub returns-in-Ok-clause-made : goal.returns-in-Ok-clause-made
returns-in-Ok-clause-made g c =
    let done : c.add_one.result ≡ true = search rules in
    let all = c.add_one.ensures.acts done ∙ ap (λ (acts : List (Act Edit)). acts ++ one_added) c.in_ok-guard.ensures.entered.fresh in
    made (write_of the_record) c.args.seat c.in_ok-guard.guard c.add_one.new.guard one_added c.in-Ok.seat c.in_ok-guard.ensures.entered c.add_one.ensures.seat
    (subst (λ (acts : List (Act Edit)). HasFinished acts c.add_one.new.guard c.in-Ok.seat) all c.in-Ok.ensures.goes)
