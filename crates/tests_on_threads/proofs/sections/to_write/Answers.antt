use Rattle.std.proofs.Common.{rules, sym, ap, subst, ◌∙◌}
use Rattle.std.specs.FinSet.{contains}
use Rattle.rclaim.specs.Requests.{RequestFields}
use Rattle.rguard.specs.Seats.{SuitsSeat}
use Rattle.rguard.proofs.Having.{is_plain}
use Rattle.rguard.proofs.Held.{writes_acquired}
use Rattle.rguard.specs.Resting.{all_with}
use Rattle.rguard.proofs.Resting.{suits_to_write}
use Rattle.tests_on_threads.proofs.sections.to_write.Goals as goal

pub acquire-requires-clause-suits : goal.acquire-requires-clause-suits
acquire-requires-clause-suits g c κs within =
    subst (λ (r : RequestFields). SuitsSeat c.args.seat r) (sym c.in-Ok.ensures.made) (suits_to_write (all_with c.args.group) c.args.lock.now c.args.seat c.args.set c.requires.at c.len.ensures.within)

pub returns-in-Ok-Write-clause-writes : goal.returns-in-Ok-Write-clause-writes
returns-in-Ok-Write-clause-writes g c = λ l there.
    writes_acquired g.T.Editable.after g.T.Editable.taken g.T.Editable.number c.args.lock.now c.args.seat c.in-Ok.request c.in-Ok-Write.guard c.in-Ok-Write.field-0 l
    (ap (λ (r : RequestFields). is_plain r.kind) c.in-Ok.ensures.made) c.in-Ok-Write.field-0-is c.in-Ok-Write.ensures.ok c.seat.ensures.lawful c.seat.ensures.own
    (ap (λ (r : RequestFields). contains r.writes l) c.in-Ok.ensures.made ∙ there)

pub returns-in-Ok-Write-clause-at : goal.returns-in-Ok-Write-clause-at
returns-in-Ok-Write-clause-at g c = (record { of = record { gate = search rules; began = c.requires.at.of.began; opening = search rules; there = search rules; all = search rules; within = search rules; enough = search rules }; over = search rules }, search rules)
