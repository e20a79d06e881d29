use Rattle.std.proofs.Common.{◌≡◌, List, sym, subst, ◌∙◌}
use Rattle.rexpand.specs.Groups.{ReadGroups}
use Rattle.rlock.specs.Known.{Site}
use Rattle.rvalue.specs.Entries.{EntryFields}
use Rattle.rguard.specs.Seats.{SeatOf, Goes, IsIdle}
use Rattle.rguard.specs.Guards.{GuardFields}
use Rattle.rguard.specs.Resting.{IsAt, Rests, all_with}
use Rattle.rguard.proofs.Going.{of_later}
use Rattle.tests_on_threads.proofs.sections.ended.Goals as goal

-- a seat of the lock that has gone on rests where it is idle
rests_later : {V E : Type 0} (groups : ReadGroups) (site : Site) (seat later : SeatOf V E) (more : List (EntryFields E)) → IsAt groups site seat → Goes seat more later → IsIdle later
    → Rests groups site later × (later.number ≡ seat.number)
rests_later groups site seat later more at goes idle = (
  record {
    at = record {
      of = of_later site seat later more at.of goes;
      over = λ b opens. at.over b (sym goes.same.2 ∙ opens);
    };
    idle = idle;
  },
  goes.same.1,
)

pub returns-in-Ok : goal.returns-in-Ok
returns-in-Ok g c = rests_later (all_with c.args.group) c.args.lock.now c.args.guard.seat c.in-Ok.seat _ c.requires c.in-Ok.ensures.goes c.in-Ok.ensures.idle

pub returns-in-Err : goal.returns-in-Err
returns-in-Err g c =
    let same : c.in-Err.guard ≡ c.args.guard = c.in-Err.ensures.err in
    subst (λ (guard : GuardFields g.row.T.Denot g.row.T-Edit.Denot). Rests (all_with c.args.group) c.args.lock.now c.discard.result × (c.discard.result.number ≡ guard.seat.number)) same
    (rests_later (all_with c.args.group) c.args.lock.now c.in-Err.guard.seat c.discard.result _
    (subst (λ (guard : GuardFields g.row.T.Denot g.row.T-Edit.Denot). IsAt (all_with c.args.group) c.args.lock.now guard.seat) (sym same) c.requires) c.discard.ensures.goes c.discard.ensures.idle)
