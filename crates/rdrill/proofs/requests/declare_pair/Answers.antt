use Rattle.std.proofs.Common.{◌+◌, ap, ◌∙◌}
use Rattle.std.specs.FinSet.{insert}
use Rattle.rset.specs.Sets.{all_below}
use Rattle.rdrill.proofs.Sets.{pair_below}
use Rattle.rdrill.proofs.requests.declare_pair.Goals as goal

pub declare-requires : goal.declare-requires
declare-requires c =
    ap (λ q. all_below q c.with.result) c.requires.1
    ∙ ap (all_below 8) (c.with.ensures ∙ ap (λ s. insert s (c.args.l + 1)) c.one.ensures)
    ∙ pair_below c.args.l c.requires.0
