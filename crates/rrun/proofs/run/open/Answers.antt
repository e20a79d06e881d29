use Rattle.std.proofs.Common.{◌≡◌, [], replicate, length, sym, ap, ◌∙◌}
use Rattle.rmodel.specs.Holds.{nothing}
use Rattle.rmodel.specs.State.{opening}
use Rattle.rrun.proofs.Reported.{has_opened}
use Rattle.rrun.proofs.run.open.Goals as goal

pub returns-clause-opened : goal.returns-clause-opened
returns-clause-opened g c =
    let p = c.args.script.now in
    let n = c.len-seats.result in
    let state = g.M.Machine.state c.args.machine in
    let watched = g.M.Machine.watched c.args.machine in
    let values = c.in_ok-values.values.items in
    let n_is : n ≡ length p.tasks = c.len-seats.ensures.value ∙ ap length c.tasks.ensures.value in
    has_opened p watched c.in_ok-rnlp.rnlp c.in_ok-rnlp.all.items state values (record { beginning = record { groups = state.groups; seats = state.seats; cap = state.cap; values = values; watched = watched }; entries = []; taken = replicate state.seats nothing }) n
    (c.requires ∙ ap (λ m. opening (record { q = length p.resources; groups = p.groups }) m m) (sym n_is))
    c.in_ok-values.ensures n_is c.in_ok-rnlp.ensures.count.1 c.in_ok-rnlp.ensures.seats c.in_ok-rnlp.ensures.each

pub returns-clause-count : goal.returns-clause-count
returns-clause-count g c = c.in_ok-rnlp.ensures.count.0 ∙ c.len-seats.ensures.value ∙ ap length c.tasks.ensures.value
