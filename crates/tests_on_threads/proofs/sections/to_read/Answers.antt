use Rattle.std.proofs.Common.{rules, sym, ap, subst, ◌∙◌}
use Rattle.std.specs.FinSet.{contains}
use Rattle.rclaim.specs.Requests.{RequestFields}
use Rattle.rguard.specs.Seats.{SuitsSeat}
use Rattle.rguard.proofs.Having.{is_plain}
use Rattle.rguard.proofs.Held.{reads_acquired}
use Rattle.rguard.specs.Resting.{all_with}
use Rattle.rguard.proofs.Resting.{suits_to_read, is_inside_itself}
use Rattle.tests_on_threads.proofs.sections.to_read.Goals as goal

pub acquire-requires-clause-suits : goal.acquire-requires-clause-suits
acquire-requires-clause-suits g c κs within =
    subst (λ (r : RequestFields). SuitsSeat c.args.seat r) (sym c.in-Ok.ensures.made) (suits_to_read (all_with c.args.group) c.args.lock.now c.args.seat c.args.group c.requires.at c.len.ensures.within (λ none. absurd (cc (c.in-Ok.ensures.empty.1 none))) (is_inside_itself c.args.group))

pub returns-in-Ok-Read-clause-reads : goal.returns-in-Ok-Read-clause-reads
returns-in-Ok-Read-clause-reads g c = λ l there.
    reads_acquired g.T.Editable.after g.T.Editable.taken g.T.Editable.number c.args.lock.now c.args.seat c.in-Ok.request c.in-Ok-Read.guard c.in-Ok-Read.field-0 l
    (ap (λ (r : RequestFields). is_plain r.kind) c.in-Ok.ensures.made) c.in-Ok-Read.field-0-is c.in-Ok-Read.ensures.ok c.seat.ensures.lawful c.seat.ensures.own
    (ap (λ (r : RequestFields). contains r.reads l) c.in-Ok.ensures.made ∙ there)

pub returns-in-Ok-Read-clause-at : goal.returns-in-Ok-Read-clause-at
returns-in-Ok-Read-clause-at g c = (record { of = record { gate = search rules; began = c.requires.at.of.began; opening = search rules; there = search rules; all = search rules; within = search rules; enough = search rules }; over = search rules }, search rules)
