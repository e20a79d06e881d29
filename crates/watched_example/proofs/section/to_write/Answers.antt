use Rattle.std.proofs.Common.{sym, ap, subst, ◌∙◌}
use Rattle.std.specs.FinSet.{contains}
use Rattle.rclaim.specs.Requests.{RequestFields}
use Rattle.rset.specs.Sets.{Set}
use Rattle.rset.specs.declared.TheConstants.{RESOURCES}
use Rattle.rexpand.specs.Groups.{no_groups}
use Rattle.rguard.specs.Seats.{SuitsSeat}
use Rattle.rguard.proofs.Having.{is_plain}
use Rattle.rguard.proofs.Held.{writes_acquired}
use Rattle.rguard.proofs.Resting.{suits_to_write}
use Rattle.rvalue.specs.declared.ledger.Ledger.{Ledger}
use Rattle.rvalue.specs.Ledgers.{value_after, is_taken}
use Rattle.watched_example.proofs.section.to_write.Goals as goal

pub acquire-requires-clause-suits : goal.acquire-requires-clause-suits
acquire-requires-clause-suits g c κs within =
    subst (λ (r : RequestFields). SuitsSeat c.args.seat r) (sym c.in-Ok.ensures.made) (suits_to_write (no_groups RESOURCES) c.args.lock.now c.args.seat c.one-set.result c.requires.at c.len.ensures.within)

pub returns-in-Ok-Write-clause-writes : goal.returns-in-Ok-Write-clause-writes
returns-in-Ok-Write-clause-writes g c = λ l there.
    writes_acquired value_after is_taken (λ (ledger : Ledger). ledger.balance) c.args.lock.now c.args.seat c.in-Ok.request c.in-Ok-Write.guard c.in-Ok-Write.field-0 l
    (ap (λ (r : RequestFields). is_plain r.kind) c.in-Ok.ensures.made) c.in-Ok-Write.field-0-is c.in-Ok-Write.ensures.ok c.seat-in-Ok-Write.ensures.lawful c.seat-in-Ok-Write.ensures.own
    (ap (λ (r : RequestFields). contains r.writes l) c.in-Ok.ensures.made ∙ ap (λ (s : Set). contains s l) c.one-set.ensures ∙ there)
