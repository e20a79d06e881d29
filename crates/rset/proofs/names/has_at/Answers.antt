use Rattle.std.proofs.Common.{◌≡◌, rules, sym, ◌∙◌}
use Rattle.rset.proofs.KeptLemmas.{kept_there}
use Rattle.rset.proofs.names.has_at.Goals as goal

pub returns-then-place-names : goal.returns-then-place-names
returns-then-place-names c equal =
    let there = c.index-names-place.result in
    let same : c.as_slice.result.now ≡ c.args.name.now = search rules in
    kept_there c.args.names.now c.args.n there c.args.name.now (search rules) (search rules) (sym c.as_slice.ensures.value ∙ same)
