use Rattle.std.proofs.Common.{◌∙◌, arith}
use Rattle.rbound_history.proofs.PlacesFound.{bound_found}
use Rattle.rbound_history.proofs.bounds.WaitBounds.bound.Goals as goal

pub index-place-requires : goal.index-place-requires
index-place-requires c =
    let found = bound_found c.args.self.now c.requires.0 c.requires.1 c.requires.2 c.requires.3 c.requires.4 c.requires.5 c.args.key c.requires.6 c.requires.7 in
    let within = found.within in
    omega (arith, within)

pub bound-requires-clause-task : goal.bound-requires-clause-task
bound-requires-clause-task c =
    let found = bound_found c.args.self.now c.requires.0 c.requires.1 c.requires.2 c.requires.3 c.requires.4 c.requires.5 c.args.key c.requires.6 c.requires.7 in
    (found.at c.index-place.result.now c.index-place.ensures).task

pub bound-requires-clause-number : goal.bound-requires-clause-number
bound-requires-clause-number c =
    let found = bound_found c.args.self.now c.requires.0 c.requires.1 c.requires.2 c.requires.3 c.requires.4 c.requires.5 c.args.key c.requires.6 c.requires.7 in
    (found.at c.index-place.result.now c.index-place.ensures).number

pub returns : goal.returns
returns c = λ groups seats cap events rest wait bounds key.
    c.bound.ensures ∙ ((bound_found c.args.self.now groups seats cap events rest wait c.args.key bounds key).at c.index-place.result.now c.index-place.ensures).bound
