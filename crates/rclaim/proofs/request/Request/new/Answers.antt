use Rattle.std.proofs.Common.{rules, ◌≡◌, ◌≢◌, true, sym, subst}
use Rattle.std.specs.FinSet as set
use Rattle.rclaim.specs.Requests.{RequestFields, IsNormal, asked_set, first_fits, normalised}
use Rattle.rclaim.proofs.Normal.{is_normal}
use Rattle.rclaim.proofs.request.Request.new.Goals as goal

-- the request is the normal form of what was given
pub invariant_of-result : goal.invariant_of-result
invariant_of-result c =
    let given : RequestFields = record { kind = c.args.kind; reads = c.match-kind.reads.0; writes = c.match-kind.reads.1; first = c.match-kind-2.first.0; len = c.args.len; later = c.match-kind-2.first.1 } in
    let made : given ≡ normalised c.args.kind c.args.reads c.args.writes c.args.first c.args.len c.args.later = search rules in
    let some : asked_set c.args.kind c.args.reads c.args.writes ≢ set.empty = search rules in
    let fits : first_fits c.args.kind c.args.reads c.args.writes c.args.first ≡ true = search rules in
    subst (λ (r : RequestFields). IsNormal r) (sym made) (is_normal c.args.kind c.args.reads c.args.writes c.args.first c.args.len c.args.later some fits c.requires.len c.requires.later)

pub returns-clause-normal : goal.returns-clause-normal
returns-clause-normal c = invariant_of-result c
