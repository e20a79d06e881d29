use Rattle.std.proofs.Common.{◌<◌, replicate, sym, ap, subst, ◌∙◌}
use Rattle.std.proofs.lemmas.Option.{get_or_from_slice_get}
use Rattle.rmodel.specs.State.{LockState}
use Rattle.rset.specs.declared.TheConstants.{RESOURCES}
use Rattle.rexpand.specs.Groups.{no_groups}
use Rattle.rvalue.specs.declared.ledger.Ledger.{Ledger}
use Rattle.rvalue.specs.declared.ledger.Edit.{Edit}
use Rattle.rvalue.specs.Ledgers.{opening_ledger}
use Rattle.rstate.specs.Histories.{Beginning}
use Rattle.rstate.proofs.homes.Lists.{same_item}
use Rattle.rguard.specs.Seats.{SeatOf}
use Rattle.rguard.proofs.Resting.{rest_new}
use Rattle.rguard.proofs.Closed.{new_seats}
use Rattle.bench_sections.proofs.measure.opened.Goals as goal

pub returns-clause-seats : goal.returns-clause-seats
returns-clause-seats c =
    rest_new (no_groups RESOURCES) c.in_ok-lock.lock c.in_ok-lock.seats.items c.args.seats _ _ c.in_ok-lock.ensures.count.1 c.in_ok-lock.ensures.seats c.in_ok-lock.ensures.each
    (ap (λ (s : LockState). s.groups) c.in_ok-machine.ensures.opening ∙ c.in_ok-groups.ensures)

pub returns-clause-new : goal.returns-clause-new
returns-clause-new c = new_seats c.in_ok-lock.lock.gate c.in_ok-lock.seats.items c.args.seats _ _ (replicate RESOURCES opening_ledger) c.in_ok-lock.ensures.count.1 c.in_ok-lock.ensures.each (c.in_ok-values.ensures.items_if_clones_equal (λ y is. is) ∙ ap (λ (x : Ledger). replicate RESOURCES x) c.new-3.ensures)

pub returns-clause-cap : goal.returns-clause-cap
returns-clause-cap c = λ k d less b opens.
    let below : k < c.args.seats = subst (λ n. k < n) c.in_ok-lock.ensures.count.1 less in
    let is = same_item _ b (sym (ap (λ (s : SeatOf Ledger Edit). s.opening) (get_or_from_slice_get c.in_ok-lock.seats.items k _ d (c.in_ok-lock.ensures.each k below))) ∙ opens) in
    sym (ap (λ (x : Beginning Ledger). x.cap) is) ∙ ap (λ (s : LockState). s.cap) c.in_ok-machine.ensures.opening ∙ sym (ap (λ (s : LockState). s.seats) c.in_ok-machine.ensures.opening)
    ∙ ap (λ (x : Beginning Ledger). x.seats) is
