use Rattle.std.proofs.Common.{◌&&◌, ◌||◌, not, sym, ap, ◌∙◌}
use Rattle.rcover_laws.specs.Told.{waits_to_rise}
use Rattle.rmodel.specs.Claims.{is_satisfied}
use Rattle.rcover.proofs.follow.may_wait.Goals as goal

pub returns-then-waits_first : goal.returns-then-waits_first
returns-then-waits_first c = λ n tell.
    c.if-waits_first.true ∙ sym (ap (λ b. b || waits_to_rise n c.args.x.now) (sym (c.waits_first.ensures n) ∙ c.if-waits_first.true))

pub returns-else-waits_first : goal.returns-else-waits_first
returns-else-waits_first c = λ n tell.
    c.still_rises.ensures ∙ ap (λ b. b && not (is_satisfied c.args.x.now)) c.has.ensures ∙ sym tell
    ∙ sym (ap (λ b. b || waits_to_rise n c.args.x.now) (sym (c.waits_first.ensures n) ∙ c.if-waits_first.false))
