use Rattle.std.proofs.Common.{List, subst}
use Rattle.std.proofs.lemmas.Bool.{eqb-true}
use Rattle.rvalue.specs.declared.act.Act.{Act}
use Rattle.rvalue.specs.declared.ledger.Edit.{Edit}
use Rattle.rguard.specs.Sections.{HasFinished}
use Rattle.bench_sections.proofs.section.read_in.Goals as goal

pub returns-in-Ok-clause-read : goal.returns-in-Ok-clause-read
returns-in-Ok-clause-read g c = λ agrees.
    let entered = c.in-Ok.ensures.entered in
    let ledger = c.get-ledger.result.now in
    record {
      guard = c.in-Ok.guard;
      entered = entered;
      holds = c.in-Ok.ensures.holds;
      seen = (ledger, c.get-ledger.ensures, eqb-true ledger.balance ledger.edits agrees);
      finished = subst (λ (acts : List (Act Edit)). HasFinished acts c.in-Ok.guard c.finish.result) entered.fresh c.finish.ensures.goes;
    }
