use Rattle.std.proofs.Common.{◌≡◌, [], None, replicate, length, ap, ◌∙◌}
use Rattle.rexpand.specs.Groups.{ReadGroups}
use Rattle.rmodel.specs.Holds.{nothing}
use Rattle.rmodel.specs.State.{opening}
use Rattle.rvalue.specs.Ledgers.{opening_ledger}
use Rattle.rrun.proofs.Reported.{has_opened}
use Rattle.tests_of_runs.proofs.stopping.opened_for.Goals as goal

pub returns-clause-passes : goal.returns-clause-passes
returns-clause-passes c = c.in_ok-rnlp.ensures.count.0 ∙ c.len-seats.ensures.value ∙ ap length c.tasks.ensures.value

pub returns-clause-opened : goal.returns-clause-opened
returns-clause-opened c =
    let n = c.len-seats.result in
    let state = c.in_ok-machine.machine.state in
    let values = c.in_ok-values.values.items in
    let values_are : values ≡ replicate (length c.args.script.now.resources) opening_ledger =
    c.in_ok-values.ensures.items_if_clones_equal (λ y same. same) ∙ (λ j. replicate ((c.from.ensures ∙ c.len-resources.ensures.value ∙ ap length c.resources.ensures.value) j) (c.new-2.ensures j)) in
    has_opened c.args.script.now None c.in_ok-rnlp.rnlp c.in_ok-rnlp.all.items state values (record { beginning = record { groups = state.groups; seats = state.seats; cap = state.cap; values = values; watched = None }; entries = []; taken = replicate state.seats nothing }) n
    (c.in_ok-machine.ensures.opening ∙ ap (λ (x : ReadGroups). opening x n n) (c.in_ok-groups.ensures ∙ c.groups.ensures))
    values_are
    (c.len-seats.ensures.value ∙ ap length c.tasks.ensures.value)
    c.in_ok-rnlp.ensures.count.1 c.in_ok-rnlp.ensures.seats c.in_ok-rnlp.ensures.each
