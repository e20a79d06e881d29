use Rattle.std.proofs.Common.{ap, ◌∙◌}
use Rattle.std.proofs.lemmas.Result.{IfOk-weaker}
use Rattle.rbound.specs.Bounds.{reads_of, writes_of, units_of}
use Rattle.rbound.proofs.ZoneRowFacts.{numbers_are}
use Rattle.rbound.proofs.bound.claim_bound.Goals as goal

pub returns : goal.returns
returns c =
    let ns = c.args.needs.now in
    let tasks = c.args.tasks in
    let task = c.args.claim.now.seat in
    IfOk-weaker c.write_bound.result _ _
    (λ b is.
    is
    ∙ numbers_are ns tasks c.requires.seats c.zone_among-zone.result c.in_ok-rows.rows c.in_ok-rows.ensures c.args.cap task
    ∙ ap (λ z. record { reads = reads_of ns tasks c.args.cap task z; writes = writes_of ns tasks c.args.cap task z; units = units_of ns tasks c.args.cap task z }) c.zone_among-zone.ensures)
    c.write_bound.ensures
