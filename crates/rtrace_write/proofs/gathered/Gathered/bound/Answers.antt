use Rattle.std.proofs.Common.{List, ◌<◌, Some, length, sym, ap, subst, ◌∙◌, arith}
use Rattle.std.proofs.lemmas.Option.{slice_get-map}
use Rattle.std.specs.Prelude.{option_map}
use Rattle.rclaim.specs.declared.event.Event.{Event}
use Rattle.rbound_history.specs.Knows.{AreBoundsOf}
use Rattle.rcover.specs.Past.{Past}
use Rattle.rtrace_write.specs.Behind.{bound_by}
use Rattle.rtrace_write.proofs.Gathering.{as_many, found_at, found_bound}
use Rattle.rtrace_write.proofs.gathered.Gathered.bound.Goals as goal

pub index-requires : goal.index-requires
index-requires c = omega (arith, as_many c.requires.0 c.requires.1 c.args.self.now.keys.items c.requires.2.known.keys, c.requires.3)

pub bound-requires : goal.bound-requires
bound-requires c =
    let p : Past = c.requires.0 in
    let known = c.requires.2 in
    let found = found_at p c.requires.1 c.args.self.now.keys.items c.args.number c.index.result.now known.known.keys c.requires.3 c.index.ensures in
    (p.groups, p.seats, p.cap, found.had.before, found.had.rest, found.wait, subst (λ (es : List Event). AreBoundsOf c.args.bounds.now p.groups p.seats p.cap es) found.had.split known.are, found.had.is_key)

pub returns : goal.returns
returns c = λ p ws known.
    let many = as_many c.requires.0 c.requires.1 c.args.self.now.keys.items c.requires.2.known.keys in
    let within : c.args.number < length ws = omega (arith, many, as_many p ws c.args.self.now.keys.items known.known.keys, c.requires.3) in
    let found = found_at p ws c.args.self.now.keys.items c.args.number c.index.result.now known.known.keys within c.index.ensures in
    let bounds = subst (λ (es : List Event). AreBoundsOf c.args.bounds.now p.groups p.seats p.cap es) found.had.split known.are in
    slice_get-map (bound_by p) ws c.args.number
    ∙ ap (option_map (bound_by p)) found.at
    ∙ ap (λ b. Some b) (sym (c.bound.ensures p.groups p.seats p.cap found.had.before found.had.rest found.wait bounds found.had.is_key ∙ found_bound p found.wait c.index.result.now found.had))
