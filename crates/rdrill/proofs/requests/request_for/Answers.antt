use Rattle.std.proofs.Common.{◌+◌, sym, ap, ◌∙◌}
use Rattle.std.specs.FinSet.{insert, union}
use Rattle.rclaim.specs.Requests.{is_part}
use Rattle.rdrill.proofs.Sets.{one_some, pair_some, one_part}
use Rattle.rdrill.proofs.requests.request_for.Goals as goal

pub made-requires-clause-some : goal.made-requires-clause-some
made-requires-clause-some c = λ h. pair_some c.args.l (sym (c.with-pair.ensures ∙ ap (λ s. insert s (c.args.l + 1)) c.one-one.ensures) ∙ h)

pub made-requires-in-Write-clause-some : goal.made-requires-in-Write-clause-some
made-requires-in-Write-clause-some c = λ h. one_some c.args.l (sym c.one-one.ensures ∙ h)

pub made-requires-in-Mixed-clause-some : goal.made-requires-in-Mixed-clause-some
made-requires-in-Mixed-clause-some c = λ h. one_some c.args.l (sym c.one-one.ensures ∙ h)

pub made-requires-in-Upgrade-clause-some : goal.made-requires-in-Upgrade-clause-some
made-requires-in-Upgrade-clause-some c = λ h. pair_some c.args.l (sym (c.with-pair.ensures ∙ ap (λ s. insert s (c.args.l + 1)) c.one-one.ensures) ∙ h)

pub made-requires-in-Nested-clause-some : goal.made-requires-in-Nested-clause-some
made-requires-in-Nested-clause-some c = λ h. pair_some c.args.l (sym (c.with-pair.ensures ∙ ap (λ s. insert s (c.args.l + 1)) c.one-one.ensures) ∙ h)

pub made-requires-in-Nested-clause-first : goal.made-requires-in-Nested-clause-first
made-requires-in-Nested-clause-first c =
    (λ i. is_part (c.one-one.ensures i) (union (c.empty-none.ensures i) ((c.with-pair.ensures ∙ ap (λ s. insert s (c.args.l + 1)) c.one-one.ensures) i))) ∙ one_part c.args.l
