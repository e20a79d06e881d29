use Rattle.std.proofs.Common.{◌&&◌, ◌||◌, [], not, sym, ap, ◌∙◌}
use Rattle.rmodel.specs.Claims.{is_satisfied}
use Rattle.rcover.proofs.waiting.may_wait.Goals as goal

pub returns-then-waits_first : goal.returns-then-waits_first
returns-then-waits_first c =
    let rises = c.args.rose && not (is_satisfied c.args.x.now) in
    c.if-waits_first.true ∙ sym (ap (λ b. b || rises) (sym (c.waits_first.ensures []) ∙ c.if-waits_first.true))

pub returns-else-waits_first : goal.returns-else-waits_first
returns-else-waits_first c =
    let rises = c.args.rose && not (is_satisfied c.args.x.now) in
    c.still_rises.ensures ∙ sym (ap (λ b. b || rises) (sym (c.waits_first.ensures []) ∙ c.if-waits_first.false))
