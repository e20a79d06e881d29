use Rattle.std.proofs.Common.{replicate, ap}
use Rattle.rset.specs.declared.TheConstants.{SEATS}
use Rattle.rcover.specs.declared.shares.Share.{Share}
use Rattle.rcover.proofs.heads.Heads.new.Goals as goal

pub returns-clause-kept : goal.returns-clause-kept
returns-clause-kept c = record {
  heads = c.in_ok-new_heads.ensures.heads;
  sets = c.in_ok-new_sets.ensures.sets;
  shares = ap (λ (s : Share). replicate SEATS s) c.no_share.ensures;
}
