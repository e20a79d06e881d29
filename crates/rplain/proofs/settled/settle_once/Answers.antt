use Rattle.std.proofs.Common.{List, sym, ap, subst, ◌∙◌}
use Rattle.std.specs.List.{AllZip, list_any}
use Rattle.rmodel.specs.declared.claimed.Claimed.{Claimed}
use Rattle.rmodel.specs.Changes.{SameClaim}
use Rattle.rmodel.specs.Settling.{settled}
use Rattle.rmodel.specs.Steps.{given, gets}
use Rattle.rmodel.proofs.settling.Settlement.{settles_settled}
use Rattle.rmodel.proofs.reaching.Soundness.{same_claims}
use Rattle.rmodel.proofs.settling.Giving.{given_none, given_unless, settled_asks, same_given}
use Rattle.rplain.specs.NewClaim.{seen_of}
use Rattle.rmodel.proofs.settling.Standing.{given_standing}
use Rattle.rplain.proofs.settling.SweepSteps.{seen_standing}
use Rattle.rplain.proofs.settled.settle_once.Goals as goal

pub tell_changes-requires-clause-same : goal.tell_changes-requires-clause-same
tell_changes-requires-clause-same c =
    let xs = c.args.claims.now in
    subst (λ (p : List Claimed × List Claimed). AllZip SameClaim p.0 p.1) (λ k. (sym (c.deref.ensures.value ∙ c.copy_into.ensures.items) k, sym (c.give.ensures.claims ∙ ap given c.sweep.ensures.claims) k))
    (same_given xs (settled xs) (same_claims xs (settled xs) (settles_settled xs c.requires.left.well_formed)))

pub returns-else-some_asks-clause-settled : goal.returns-else-some_asks-clause-settled
returns-else-some_asks-clause-settled c =
    let xs = c.args.claims.now in
    c.sweep-else-some_asks.ensures.claims ∙ sym (given_none (settled xs) (settled_asks xs c.requires.left.well_formed ∙ sym c.some_asks.ensures ∙ c.if-some_asks.false))

pub returns-then-some_gets-clause-seen : goal.returns-then-some_gets-clause-seen
returns-then-some_gets-clause-seen c = c.sweep.ensures.seen ∙ seen_standing c.sweep.new.claims _ (given_standing c.sweep.new.claims) ∙ ap seen_of (sym c.give.ensures.claims)

pub returns-else-some_gets-clause-settled : goal.returns-else-some_gets-clause-settled
returns-else-some_gets-clause-settled c =
    c.sweep.ensures.claims
    ∙ sym (given_unless (settled c.args.claims.now) (ap (λ xs. list_any (gets xs) xs) (sym c.sweep.ensures.claims) ∙ sym c.some_gets.ensures ∙ c.if-some_gets.false))
