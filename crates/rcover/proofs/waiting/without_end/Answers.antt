use Rattle.std.proofs.Common.{◌&&◌, not, ap, ◌∙◌}
use Rattle.std.specs.FinSet.{contains}
use Rattle.rset.specs.Sets.{Set}
use Rattle.rset.proofs.SetMembers.{contains_remove}
use Rattle.rcover.proofs.SeatFacts.{eq_turned}
use Rattle.rcover.proofs.waiting.without_end.Goals as goal

pub returns-then-end-lt-SEATS : goal.returns-then-end-lt-SEATS
returns-then-end-lt-SEATS c = λ seat low.
    let ended = c.args.end.now.seat in
    ap (λ (s : Set). contains s seat) c.without.ensures ∙ contains_remove c.args.seats ended seat ∙ ap (λ b. not b && contains c.args.seats seat) (eq_turned seat ended)
