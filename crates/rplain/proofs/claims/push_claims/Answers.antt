use Rattle.std.proofs.Common.{List, sym, ap, subst, ◌∙◌}
use Rattle.std.specs.FinSet.{is_subset}
use Rattle.rclaim.specs.declared.claim.Claim.{Claim}
use Rattle.rmodel.specs.declared.claimed.Claimed.{Claimed}
use Rattle.rplain.specs.Sweep.{AreReadWithin}
use Rattle.rplain.proofs.settling.SoFar.{within_pushed}
use Rattle.rplain.proofs.claims.push_claims.Goals as goal

pub push_new-requires-in-Upgrade-2-clause-within : goal.push_new-requires-in-Upgrade-2-clause-within
push_new-requires-in-Upgrade-2-clause-within c =
    let read = c.args.read in
    subst (λ (xs : List Claimed). AreReadWithin read xs) (sym c.push_new-in-Upgrade.ensures.items)
    (within_pushed read c.args.claims.now.items c.waiting-in-Upgrade.result c.requires.within
    (ap (λ (x : Claimed). is_subset x.claim.reads read) c.waiting-in-Upgrade.ensures
    ∙ ap (λ (k : Claim). is_subset k.reads read) c.claim_of-read_half.ensures
    ∙ ap (λ s. is_subset s read) c.reads-reads.ensures.value
    ∙ c.requires.request_within))
