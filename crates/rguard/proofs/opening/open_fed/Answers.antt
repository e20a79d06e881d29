use Rattle.std.proofs.Common.{◌≡◌, ◌≤◌, [], ◌++◌, replicate, sym, ap, subst, ◌∙◌}
use Rattle.std.specs.Option.{option_to_list}
use Rattle.rmodel.specs.Holds.{nothing}
use Rattle.rstate.specs.Contents.{Contents}
use Rattle.rstate.specs.Histories.{Beginning}
use Rattle.rguard.proofs.Passes.{each_new, last_new, is_scribe, are_seats}
use Rattle.rguard.proofs.opening.open_fed.Goals as goal

pub returns-in-Ok-clause-seats : goal.returns-in-Ok-clause-seats
returns-in-Ok-clause-seats g c =
    let V = g.row.T.Denot in
    let E = g.row.T-Edit.Denot in
    let s = g.M.Machine.state c.args.machine in
    let b : Beginning V = record { groups = s.groups; seats = s.seats; cap = s.cap; values = c.args.values.items; watched = g.M.Machine.watched c.args.machine } in
    let new : Contents V E = record { beginning = b; entries = []; taken = replicate s.seats nothing } in
    let is = c.pop.ensures.items ∙ ap (λ r. c.pop.new.self.items ++ option_to_list r) c.unwrap-scribe.ensures in
    let state_is : c.in_ok-state.state ≡ new = λ i. record { beginning = c.in_ok-state.ensures.beginning i; entries = c.in_ok-state.ensures.entries i; taken = c.in_ok-state.ensures.taken i } in
    are_seats c.new-gate.result c.in-Ok.all.items c.pop.new.self.items c.unwrap-scribe.result c.args.seats c.in-Ok.gate.gate c.in-Ok.gate.passes c.in_ok-state.state new is c.in-Ok.ensures.count.1 c.in-Ok.ensures.each state_is c.new-gate.ensures c.in-Ok.ensures.count.0 (sym c.requires.seats) (subst (λ n. n ≤ s.cap) c.requires.seats c.requires.cap)

pub returns-in-Ok-clause-each : goal.returns-in-Ok-clause-each
returns-in-Ok-clause-each g c =
    let V = g.row.T.Denot in
    let E = g.row.T-Edit.Denot in
    let s = g.M.Machine.state c.args.machine in
    let b : Beginning V = record { groups = s.groups; seats = s.seats; cap = s.cap; values = c.args.values.items; watched = g.M.Machine.watched c.args.machine } in
    let new : Contents V E = record { beginning = b; entries = []; taken = replicate s.seats nothing } in
    let is = c.pop.ensures.items ∙ ap (λ r. c.pop.new.self.items ++ option_to_list r) c.unwrap-scribe.ensures in
    let state_is : c.in_ok-state.state ≡ new = λ i. record { beginning = c.in_ok-state.ensures.beginning i; entries = c.in_ok-state.ensures.entries i; taken = c.in_ok-state.ensures.taken i } in
    each_new c.new-gate.result c.in-Ok.all.items c.pop.new.self.items c.unwrap-scribe.result c.args.seats c.in-Ok.gate.gate c.in-Ok.gate.passes c.in_ok-state.state new is c.in-Ok.ensures.count.1 c.in-Ok.ensures.each state_is c.new-gate.ensures c.in-Ok.ensures.count.0

pub returns-in-Ok-clause-scribe : goal.returns-in-Ok-clause-scribe
returns-in-Ok-clause-scribe g c =
    let V = g.row.T.Denot in
    let E = g.row.T-Edit.Denot in
    let s = g.M.Machine.state c.args.machine in
    let b : Beginning V = record { groups = s.groups; seats = s.seats; cap = s.cap; values = c.args.values.items; watched = g.M.Machine.watched c.args.machine } in
    let new : Contents V E = record { beginning = b; entries = []; taken = replicate s.seats nothing } in
    let is = c.pop.ensures.items ∙ ap (λ r. c.pop.new.self.items ++ option_to_list r) c.unwrap-scribe.ensures in
    let state_is : c.in_ok-state.state ≡ new = λ i. record { beginning = c.in_ok-state.ensures.beginning i; entries = c.in_ok-state.ensures.entries i; taken = c.in_ok-state.ensures.taken i } in
    is_scribe c.new-gate.result c.in-Ok.all.items c.pop.new.self.items c.unwrap-scribe.result c.args.seats c.in-Ok.gate.gate c.in-Ok.gate.passes c.in_ok-state.state new is c.in-Ok.ensures.count.1 c.in-Ok.ensures.each state_is c.new-gate.ensures c.in-Ok.ensures.count.0 (sym c.requires.seats)

pub returns-in-Ok-clause-its : goal.returns-in-Ok-clause-its
returns-in-Ok-clause-its g c =
    let V = g.row.T.Denot in
    let E = g.row.T-Edit.Denot in
    let s = g.M.Machine.state c.args.machine in
    let b : Beginning V = record { groups = s.groups; seats = s.seats; cap = s.cap; values = c.args.values.items; watched = g.M.Machine.watched c.args.machine } in
    let new : Contents V E = record { beginning = b; entries = []; taken = replicate s.seats nothing } in
    let is = c.pop.ensures.items ∙ ap (λ r. c.pop.new.self.items ++ option_to_list r) c.unwrap-scribe.ensures in
    let state_is : c.in_ok-state.state ≡ new = λ i. record { beginning = c.in_ok-state.ensures.beginning i; entries = c.in_ok-state.ensures.entries i; taken = c.in_ok-state.ensures.taken i } in
    last_new c.new-gate.result c.in-Ok.all.items c.pop.new.self.items c.unwrap-scribe.result c.args.seats c.in-Ok.gate.gate c.in-Ok.gate.passes c.in_ok-state.state new is c.in-Ok.ensures.count.1 c.in-Ok.ensures.each state_is c.new-gate.ensures c.in-Ok.ensures.count.0
