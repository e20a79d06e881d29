use Rattle.std.proofs.Common.{sym, subst}
use Rattle.rclaim.specs.Requests.{RequestFields}
use Rattle.rguard.specs.Seats.{SuitsSeat}
use Rattle.rvalue.specs.declared.ledger.Ledger.{Ledger}
use Rattle.rvalue.specs.Ledgers.{value_after, is_taken}
use Rattle.tests_on_threads.specs.Begun.{HasBegunLast}
use Rattle.tests_on_threads.proofs.Begun.{suits_to_raise, rise_begun, raise_reads}
use Rattle.tests_on_threads.proofs.rising.to_rise.Goals as goal

pub acquire-requires-clause-suits : goal.acquire-requires-clause-suits
acquire-requires-clause-suits g c κs within =
    subst (λ (r : RequestFields). SuitsSeat c.args.seat r) (sym c.in-Ok.ensures.made) (suits_to_raise c.args.group c.args.lock.now c.args.seat c.requires.at c.len.ensures.within (λ none. absurd (cc (c.in-Ok.ensures.empty.1 none))))

pub returns-in-Ok-Rise-clause-begun : goal.returns-in-Ok-Rise-clause-begun
returns-in-Ok-Rise-clause-begun g c =
    subst (λ (r : RequestFields). HasBegunLast r c.in-Ok-Rise.guard.seat) c.in-Ok.ensures.made (rise_begun c.args.lock.now c.args.seat c.in-Ok.request c.in-Ok-Rise.guard c.in-Ok-Rise.field-0 c.in-Ok-Rise.field-0-is c.in-Ok-Rise.ensures.ok).0

pub returns-in-Ok-Rise-clause-reads : goal.returns-in-Ok-Rise-clause-reads
returns-in-Ok-Rise-clause-reads g c =
    raise_reads value_after is_taken (λ (ledger : Ledger). ledger.balance) c.in-Ok-Rise.guard.seat c.args.group c.seat.ensures.lawful c.seat.ensures.own
    (rise_begun c.args.lock.now c.args.seat c.in-Ok.request c.in-Ok-Rise.guard c.in-Ok-Rise.field-0 c.in-Ok-Rise.field-0-is c.in-Ok-Rise.ensures.ok).1 (returns-in-Ok-Rise-clause-begun g c)
